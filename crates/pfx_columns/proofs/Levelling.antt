-- Ledgers at which every lag is zero, by tests.
use Rattle.std.proofs.Common.{◌≡◌, ◌≢◌, ℕ, zero, suc, ◌+◌, ◌-◌, ◌*◌, ◌<◌, ◌==◌, if◌then◌else◌, Bool, true, false, Option, Some, None, pos, arith, sym, ◌∙◌, ap, subst, refl, eq-eqb, inl, inr}
use Rattle.std.proofs.lemmas.Bool.{cond-true, cond-false, eqb-true, ne_eqb, cases_lt, true≢false}
use Rattle.std.proofs.lemmas.Int.{ints}
use Rattle.std.proofs.lemmas.Option.{none-some}
use Rattle.pfx_columns.specs.Lags.{lag_of}
use Rattle.pfx_columns.specs.Ledgers.{Ledger, Task, total, task}
use Rattle.pfx_columns.specs.Levels.{IsLevel, is_even, unlevel_from, unlevel}

pub ints_of : (e p a t : ℕ) → p * a ≡ e * t → lag_of e p a t ≡ pos 0
ints_of e p a t is = omega (arith, ints, is)

pub of_ints : (e p a t : ℕ) → lag_of e p a t ≡ pos 0 → p * a ≡ e * t
of_ints e p a t is = omega (arith, ints, is)

-- one task more is even
pub even_next : (g : Ledger) (n x : ℕ) → lag_of (task g x).e (task g x).p (task g x).alloc g.slot ≡ pos 0 → unlevel_from g (suc n) x ≡ unlevel_from g n (x + 1)
even_next g n x is = cond-true _ _ _ (eq-eqb _ _ (of_ints (task g x).e (task g x).p (task g x).alloc g.slot is))

-- or it isn't
pub odd_here : (g : Ledger) (n x : ℕ) → lag_of (task g x).e (task g x).p (task g x).alloc g.slot ≢ pos 0 → unlevel_from g (suc n) x ≡ Some x
odd_here g n x other = cond-false _ _ _ (ne_eqb _ _ (λ is. other (ints_of (task g x).e (task g x).p (task g x).alloc g.slot is)))

-- how many are left
pub left_is : (n x : ℕ) → x < n → n - x ≡ suc (n - (x + 1))
left_is n x less = omega (arith, less)

pub unlevel_is : (g : Ledger) → unlevel g ≡ unlevel_from g (total g) 0
unfolding unlevel
unlevel_is g = refl

-- none is found exactly at a level ledger

level_by : (g : Ledger) (n x : ℕ) → (unlevel_from g n (x + 1) ≡ None → (y : ℕ) → x + 1 + 0 < y + 1 → y < x + 1 + n → lag_of (task g y).e (task g y).p (task g y).alloc g.slot ≡ pos 0)
    → (b : Bool) → is_even g.slot (task g x) ≡ b → unlevel_from g (suc n) x ≡ None → (y : ℕ) → x < y + 1 → y < x + suc n → lag_of (task g y).e (task g y).p (task g y).alloc g.slot ≡ pos 0
level_by g n x more true is none y from to = elim (cases_lt x y) [
  | inl less ↦ more (sym (cond-true _ _ _ is) ∙ none) y (omega (arith, less)) (omega (arith, to))
  | inr at ↦ (let same : x ≡ y = omega (arith, at, from) in
      subst (λ k. lag_of (task g k).e (task g k).p (task g k).alloc g.slot ≡ pos 0) same (ints_of (task g x).e (task g x).p (task g x).alloc g.slot (eqb-true _ _ is)))
]
level_by g n x more false is none y from to = absurd (none-some x (sym none ∙ cond-false _ _ _ is))

level_from : (g : Ledger) (n x : ℕ) → unlevel_from g n x ≡ None → (y : ℕ) → x < y + 1 → y < x + n → lag_of (task g y).e (task g y).p (task g y).alloc g.slot ≡ pos 0
level_from g zero x none y from to = absurd (omega (arith, from, to))
level_from g (suc n) x none y from to = level_by g n x (λ rest z a b. level_from g n (x + 1) rest z (omega (arith, a)) (omega (arith, b))) (is_even g.slot (task g x)) refl none y from to

pub level_of : (g : Ledger) → unlevel g ≡ None → IsLevel g
level_of g none y within = level_from g (total g) 0 (sym (unlevel_is g) ∙ none) y (omega arith) (omega (arith, within))

none_by : (g : Ledger) (n x : ℕ) → ((y : ℕ) → x < y + 1 → y < x + n → lag_of (task g y).e (task g y).p (task g y).alloc g.slot ≡ pos 0) → unlevel_from g n x ≡ None
none_by g zero x all = refl
none_by g (suc n) x all = even_next g n x (all x (omega arith) (omega arith)) ∙ none_by g n (x + 1) (λ y a b. all y (omega (arith, a)) (omega (arith, b)))

pub level_none : (g : Ledger) → IsLevel g → unlevel g ≡ None
level_none g all = unlevel_is g ∙ none_by g (total g) 0 (λ y a b. all y (omega (arith, b)))
