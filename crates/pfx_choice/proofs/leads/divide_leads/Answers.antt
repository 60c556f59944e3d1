use Rattle.std.proofs.Common.{◌≡◌, ◌+◌, ◌<◌, ◌∙◌, ℕ, arith, inl, inr, length, set, get_or, length-set, get_or-set_other}
use Rattle.std.proofs.lemmas.Bool.{cases_lt}
use Rattle.pfx_choice.specs.Places.{near}
use Rattle.pfx_choice.proofs.Sums.{done_more}
use Rattle.pfx_choice.proofs.leads.divide_leads.Goals as goal

pub unknown-preserved : goal.unknown-preserved
unknown-preserved c =
    let g = c.args.ledger.now in
    let xs = c.unknown.leads in
    let x = c.unknown.x in
    let v = c.divided.result in
    let h = c.unknown.invariant in
    let long = h.long in
    let size = c.requires.guesses.long in
    let next = c.first_from-x-in-unknown.ensures in
    let low = next.low in
    let high = next.high in
    let within : x < length xs = omega (arith, long, size, c.unknown-test.true) in
    record {
      long = length-set xs x v ∙ long;
      within = omega (arith, high, size);
      done = λ y l. elim (cases_lt y (x + 1)) [
        | inl before ↦ done_more (λ z n. n ≡ near g z) xs x v within c.divided.ensures h.done y before
        | inr from ↦
            (let same : get_or (set xs x v) y 0 ≡ get_or c.args.guesses.now y 0 = get_or-set_other xs x y v 0 (λ e. omega (arith, e, from)) ∙ h.left y (omega (arith, from)) in
            same ∙ c.requires.guesses.at y (omega (arith, l, high, size)) (next.none y from l))
      ];
      left = λ y l. get_or-set_other xs x y v 0 (λ e. omega (arith, e, l, low)) ∙ h.left y (omega (arith, l, low));
    }
