use Rattle.std.proofs.Common.{◌≡◌, ◌==◌, ◌≤◌, ◌+◌, ◌∙◌, ℕ, List, ap, sym, arith, get_or, length, true, [], ◌∷◌, ◌++◌}
use Rattle.pfx_weights.specs.Search.{IsNowhere}
use Rattle.pfx_columns.specs.Ledgers.{Ledger, total}
use Rattle.pfx_choice.specs.Picks.{ranks_if}
use Rattle.pfx_choice.specs.Places.{place, ArePlacesIn}
use Rattle.pfx_choice.proofs.Cutting.{eq_yes, eq_no}
use Rattle.pfx_choice.proofs.Picking.{ranks_more_if, ranks_to_if}
use Rattle.pfx_choice.proofs.marking.gather_at.Goals as goal

-- up to the next task at the place
on_to : (g : Ledger) (places : List ℕ) (d n m : ℕ) → ArePlacesIn g places → n ≤ m → m ≤ length places → IsNowhere places d n m →
    ranks_if (λ y. place g y == d) n g ≡ ranks_if (λ y. place g y == d) m g
on_to g places d n m h low high none = ranks_to_if (λ y. place g y == d) n m g low (λ x from to.
    (let long = h.long in
    eq_no (place g x) d (λ e. none x from to (h.at x (omega (arith, long, high, to)) ∙ e))))

pub gathered-init : goal.gathered-init
gathered-init c =
    let next = c.first_from-x.ensures in
    record {
      within = next.high;
      at = next.found;
      ranks = c.clear.ensures.items ∙ on_to c.args.ledger.now c.args.places.now c.args.d 0 c.first_from-x.result c.requires.places (omega arith) next.high next.none;
    }

pub gathered-preserved : goal.gathered-preserved
gathered-preserved c =
    let g = c.args.ledger.now in
    let x = c.gathered.x in
    let d = c.args.d in
    let h = c.gathered.invariant in
    let long = c.requires.places.long in
    let next = c.first_from-x-in-gathered.ensures in
    let at : get_or c.args.places.now x 0 ≡ place g x = c.requires.places.at x (omega (arith, long, c.gathered-test.true)) in
    let same : (place g x == d) ≡ true = eq_yes (place g x) d (sym at ∙ h.at c.gathered-test.true) in
    record {
      within = next.high;
      at = next.found;
      ranks = c.in_ok-push.ensures.items ∙ ap (λ r. c.gathered.found.items ++ (r ∷ [])) c.rank.ensures
          ∙ ranks_more_if (λ y. place g y == d) x g true c.gathered.found.items h.ranks (sym same)
          ∙ on_to g c.args.places.now d (x + 1) c.first_from-x-in-gathered.result c.requires.places next.low next.high next.none;
    }

pub returns : goal.returns
returns c =
    let long = c.requires.places.long in
    let within = c.gathered.invariant.within in
    let end : c.gathered.x ≡ total c.args.ledger.now = omega (arith, long, within, c.gathered-test.false) in
    c.gathered.invariant.ranks ∙ ap (λ n. ranks_if (λ y. place c.args.ledger.now y == c.args.d) n c.args.ledger.now) end
