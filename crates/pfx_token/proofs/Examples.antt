-- Worked rows of the definitions.
use Rattle.std.specs.Prelude.{◌≡◌, ℕ, [], ◌∷◌, List, refl}
use Rattle.std.proofs.Common.{sym, subst, zero, suc, true≢false, arith}
use mathlib.Core.Option.{some, some-injective, some-ne-none}
use lib.ListN.{get_elem?}
use Rattle.pfx_token.specs.declared.seats.View.{View}
use Rattle.pfx_token.specs.Seats.{keeper, token, Fits, Kept}
use Rattle.pfx_token.specs.Growing.{IsLonger}

-- the keeper of two lists, and the token of the second one
abbrev lists : List (List ℕ)
lists = (5 ∷ []) ∷ (7 ∷ 8 ∷ []) ∷ []

at_home : Kept (keeper lists ∷ token 1 (7 ∷ 8 ∷ []) ∷ [])
at_home = (0, (λ _. 1), lists, one)
  where
    one : (by : ℕ) (v : View ℕ) → get_elem? (keeper lists ∷ token 1 (7 ∷ 8 ∷ []) ∷ []) by ≡ some v → Fits 0 (λ _. 1) lists by v
    one zero v e = subst (Fits 0 (λ _. 1) lists 0) (some-injective _ _ e) ((λ _. (refl, refl)), (λ c. absurd (true≢false (sym c))))
    one (suc zero) v e = subst (Fits 0 (λ _. 1) lists 1) (some-injective _ _ e) ((λ k. absurd (true≢false (sym k))), (λ _. (refl, refl)))
    one (suc (suc by)) v e = absurd (some-ne-none v (sym e))

-- a token brings no other list than the one that stands at its number
another_list : Kept (keeper lists ∷ token 1 (9 ∷ []) ∷ []) → ⊥
another_list (seat, owner, all, fits) =
    let known : lists ≡ all = ((fits 0 (keeper lists) refl).0 refl).1 in
    let its = ((fits 1 (token 1 (9 ∷ [])) refl).1 refl).1 in
    cc (known, its)

-- no two tokens have one number
twice : Kept {E = ℕ} (token 0 [] ∷ token 0 [] ∷ []) → ⊥
twice (seat, owner, all, fits) =
    let one : owner 0 ≡ 0 = ((fits 0 (token 0 []) refl).1 refl).0 in
    let two : owner 0 ≡ 1 = ((fits 1 (token 0 []) refl).1 refl).0 in
    omega (arith, one, two)

longer : IsLonger {E = ℕ} (5 ∷ []) (5 ∷ 7 ∷ [])
longer = ((7 ∷ [], refl), omega arith)

not_longer : IsLonger {E = ℕ} (5 ∷ []) (5 ∷ []) → ⊥
not_longer (_, more) = absurd (omega (arith, more))
