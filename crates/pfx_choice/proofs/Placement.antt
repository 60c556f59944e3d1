-- The place of each task of a ledger in the order so far, and PF's choice by it.
use Rattle.std.proofs.Common.{◌≡◌, ℕ, ◌+◌, ◌-◌, ◌*◌, ◌/◌, ◌%◌, ◌<◌, ◌==◌, Option, arith, ap, sym, ◌∙◌, refl}
use Rattle.std.proofs.Math.Nat.{div-add-mod, mod-lt}
use Rattle.std.specs.Prelude.{nat_lt}
use Rattle.std.specs.Ordering.{ordering_then}
use Rattle.std.specs.declared.cmp.Ordering.{Ordering}
use Rattle.std.specs.declared.cmp.Ordering.TheVariants.{Less, Equal, Greater}
use Rattle.pfx_symbols.specs.Ranks.{Parts}
use Rattle.pfx_weights.specs.Rows.{count}
use Rattle.pfx_columns.specs.Lags.{IsFairAt}
use Rattle.pfx_columns.specs.Ledgers.{Ledger, total, task, IsLedger}
use Rattle.pfx_columns.proofs.Placing.{weight_of_task}
use Rattle.pfx_columns.proofs.Steps.{fair_high}
use Rattle.pfx_choice.specs.Choices.{IsPf}
use Rattle.pfx_choice.specs.Picks.{ranks_if, IsPivotFor}
use Rattle.pfx_choice.specs.Places.{lead, place_by, place}
use Rattle.pfx_choice.proofs.Nearer.{IsAhead, contends, place_of, place_urgent, place_tnegru, lesser_place}
use Rattle.pfx_choice.proofs.Cutting.{ArePlacesOf, cut_set, cut_pf}

pub lead_ahead : (e p a t : ℕ) → 0 < e → IsFairAt e p a t → IsAhead e p a t (lead e p a t + 1)
lead_ahead e p a t some fair =
    let x = p * a + p - e * t - 1 in
    let high : e * t < p * a + p = fair_high e p a t fair in
    let d : e * (x / e) + x % e ≡ x = div-add-mod x e in
    let r : x % e < e = mod-lt x some in
    record { reach = omega arith; least = omega arith }

by_end : (e p a t k : ℕ) → place_of e p a t (k + 1) ≡ place_by e p a t k
by_end e p a t k = (let z : k + 1 - 1 ≡ k = omega arith in ap (place_by e p a t) z)

at_place : (g : Ledger) (x : ℕ) → place_of (task g x).e (task g x).p (task g x).alloc g.slot (lead (task g x).e (task g x).p (task g x).alloc g.slot + 1) ≡ place g x
at_place g x = by_end (task g x).e (task g x).p (task g x).alloc g.slot (lead (task g x).e (task g x).p (task g x).alloc g.slot)

pub first_greater : (o u : Ordering) → o ≡ Greater → ordering_then o u ≡ Greater
first_greater Less u e = cc
first_greater Equal u e = cc
first_greater Greater u e = refl

pub are_places : (g : Ledger) → IsLedger g → ArePlacesOf g (place g)
are_places g h =
    let some : (x : ℕ) → x < total g → 0 < (task g x).e = λ x l. (let w = (weight_of_task g x h l).0 in omega (arith, w)) in
    let less : (x : ℕ) → x < total g → (task g x).e < (task g x).p = λ x l. (weight_of_task g x h l).1 in
    let at : (x : ℕ) → x < total g → IsAhead (task g x).e (task g x).p (task g x).alloc g.slot (lead (task g x).e (task g x).p (task g x).alloc g.slot + 1) =
    λ x l. lead_ahead (task g x).e (task g x).p (task g x).alloc g.slot (some x l) (h.fair x l) in
    record {
      urgent = λ x l u. sym (at_place g x) ∙ place_urgent _ _ _ _ _ (some x l) (less x l) (h.fair x l) (at x l) u;
      tnegru = λ x l u. sym (at_place g x) ∙ place_tnegru _ _ _ _ _ (some x l) (less x l) (h.fair x l) u;
      beats = λ x y l m x_class y_class nearer. first_greater _ _ (lesser_place _ _ _ _ _ _ _ _ g.slot (some x l) (less x l) (some y m) (less y m)
          (contends _ _ _ _ (some x l) (less x l) (h.fair x l) x_class) (contends _ _ _ _ (some y m) (less y m) (h.fair y m) y_class) (at x l) (at y m)
          (let u = at_place g x in let v = at_place g y in omega (arith, nearer, u, v)));
    }

-- as many below a place as there are, and of those at it the k best: together one for each worker, they are PF's choice
pub places_pf : (g : Ledger) (d k : ℕ) (o : Option Parts) → IsLedger g → 0 < d → d < 255 → IsPivotFor (ranks_if (λ x. place g x == d) (total g) g) k o →
    count (total g) (λ x. nat_lt (place g x) d) + k ≡ g.set.workers → IsPf g (cut_set g (place g) d o)
places_pf g d k o h some few p all = cut_pf g (place g) d k o h (are_places g h) some few p all
