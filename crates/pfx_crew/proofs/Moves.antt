-- Each step keeps the balance.
use Rattle.std.proofs.Common.{◌≡◌, ℕ, zero, suc, ◌+◌, List, [], ◌∷◌, ◌++◌, set, refl, sym, ap, arith}
use mathlib.Core.Option.{some, some-ne-none, some-injective}
use lib.ListN.{get_elem?}
use Rattle.atomic_table.proofs.Lists.{set_again}
use Rattle.crossbeam_channel.specs.Fifo.{Pushes, Pops, Forks}
use Rattle.pfx_crew.specs.declared.balance.Hand.{Hand}
use Rattle.pfx_crew.specs.Balance.{weigh, hand, Balanced}

pub weigh-append : {T : Type 0} (h : T → ℕ) (xs ys : List T) → weigh h (xs ++ ys) ≡ weigh h xs + weigh h ys
weigh-append h [] ys = omega arith
weigh-append h (x ∷ xs) ys = let r = weigh-append h xs ys in omega (arith, r)

weigh_set : {V : Type 0} (f : V → ℕ) (views : List V) (port : ℕ) (v w : V) → get_elem? views port ≡ some v → weigh f (set views port w) + f v ≡ weigh f views + f w
weigh_set f [] port v w e = absurd (some-ne-none v (sym e))
weigh_set f (x ∷ xs) zero v w e = let s = ap f (some-injective x v e) in omega (arith, s)
weigh_set f (x ∷ xs) (suc port) v w e = let r = weigh_set f xs port v w e in omega (arith, r)

weigh_more : {V : Type 0} (f : V → ℕ) (views : List V) (w : V) → weigh f (views ++ w ∷ []) ≡ weigh f views + f w
weigh_more f [] w = omega arith
weigh_more f (x ∷ xs) w = let r = weigh_more f xs w in omega (arith, r)

module _ {T : Type 0} where
  pub begins : Balanced {T = T} [] (hand [] [] ∷ [])
  begins = record { balance = λ h. refl }

  pub puts : (n port : ℕ) (v : Hand T) (x : T) → Pushes (Balanced {T = T}) n port v x (λ w. w ≡ hand (v.put ++ x ∷ []) v.taken)
  puts n port v x items views room b at =
      let w = hand (v.put ++ x ∷ []) v.taken in (
        w,
        record {
          balance = λ h.
              let s = weigh_set (λ (u : Hand T). weigh h u.put) views port v w at in
              let t = weigh_set (λ (u : Hand T). weigh h u.taken) views port v w at in
              let p = b.balance h in
              omega (arith, s, t, p, weigh-append h v.put (x ∷ []), weigh-append h items (x ∷ []));
        },
        refl,
      )

  pub takes : (port : ℕ) (v : Hand T) → Pops (Balanced {T = T}) port v (λ x w. w ≡ hand v.put (v.taken ++ x ∷ []))
  takes port v x items views b at =
      let w = hand v.put (v.taken ++ x ∷ []) in (
        w,
        record {
          balance = λ h.
              let s = weigh_set (λ (u : Hand T). weigh h u.put) views port v w at in
              let t = weigh_set (λ (u : Hand T). weigh h u.taken) views port v w at in
              let p = b.balance h in
              omega (arith, s, t, p, weigh-append h v.taken (x ∷ []));
        },
        refl,
      )

  pub forks : (port : ℕ) (v : Hand T) → Forks (Balanced {T = T}) port v v (hand [] [])
  forks port v items views b at = record {
    balance = λ h.
        let same = set_again views port v at in
        let s = ap (weigh (λ (u : Hand T). weigh h u.put)) same in
        let t = ap (weigh (λ (u : Hand T). weigh h u.taken)) same in
        let p = b.balance h in
        omega (arith, s, t, p, weigh_more (λ (u : Hand T). weigh h u.put) (set views port v) (hand [] []), weigh_more (λ (u : Hand T). weigh h u.taken) (set views port v) (hand [] []));
  }
