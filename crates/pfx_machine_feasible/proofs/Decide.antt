-- What can be decided: a search through the numbers below n, and whether a column has a move.
use Rattle.std.proofs.Common.{◌≡◌, ℕ, zero, suc, ◌*◌, ◌<◌, Bool, true, false, arith, sym, refl, subst, ◌⊎◌, inl, inr}
use Rattle.std.proofs.lemmas.Bool.{cases_lt, cases_eq}
use Rattle.pfx_weights.specs.Rows.{count}
use Rattle.pfx_weights.proofs.Counts.{true_not_false}
use Rattle.pfx_machine_feasible.specs.Moves.{IsAhead, IsBehind, Move}

abbrev pub Decided : Type 0 → Type 0
Decided P = P ⊎ (P → ⊥)

pub is_true : (b : Bool) → Decided (b ≡ true)
is_true true = inl refl
is_true false = inr (λ h. true_not_false false h refl)

pub is_false : (b : Bool) → Decided (b ≡ false)
is_false false = inl refl
is_false true = inr (λ h. true_not_false true refl h)

pub less : (a b : ℕ) → Decided (a < b)
less a b = elim (cases_lt a b) [
  | inl l ↦ inl l
  | inr k ↦ inr (λ l. absurd (omega arith))
]

pub both : {A B : Type 0} → Decided A → Decided B → Decided (A × B)
both (inl a) (inl b) = inl (a, b)
both (inl a) (inr b) = inr (λ h. b h.1)
both (inr a) b = inr (λ h. a h.0)

pub implied : {A B : Type 0} → Decided A → Decided B → Decided (A → B)
implied (inl a) (inl b) = inl (λ _. b)
implied (inl a) (inr b) = inr (λ h. b (h a))
implied (inr a) b = inl (λ h. absurd (a h))

some_step : (n : ℕ) (P : ℕ → Type 0) → Decided (P n) → ((x : ℕ) × (x < n) × P x) ⊎ ((x : ℕ) → x < n → P x → ⊥) → ((x : ℕ) × (x < suc n) × P x) ⊎ ((x : ℕ) → x < suc n → P x → ⊥)
some_step n P d (inl (x, l, h)) = inl (x, omega arith, h)
some_step n P (inl h) (inr none) = inl (n, omega arith, h)
some_step n P (inr never) (inr none) = inr (λ x l h. elim (cases_eq x n) [
  | inl same ↦ never (subst P same h)
  | inr other ↦ none x (omega arith) h
])

-- some number below n has the property, or none has
pub some : (n : ℕ) (P : ℕ → Type 0) → ((x : ℕ) → Decided (P x)) → ((x : ℕ) × (x < n) × P x) ⊎ ((x : ℕ) → x < n → P x → ⊥)
some zero P d = inr (λ x l h. absurd (omega arith))
some (suc n) P d = some_step n P (d n) (some n P d)

each_step : (n : ℕ) (P : ℕ → Type 0) → Decided (P n) → Decided ((x : ℕ) → x < n → P x) → Decided ((x : ℕ) → x < suc n → P x)
each_step n P d (inr never) = inr (λ h. never (λ x l. h x (omega arith)))
each_step n P (inr never) (inl all) = inr (λ h. never (h n (omega arith)))
each_step n P (inl is) (inl all) = inl (λ x l. elim (cases_eq x n) [
  | inl same ↦ subst P (sym same) is
  | inr other ↦ all x (omega arith)
])

pub each : (n : ℕ) (P : ℕ → Type 0) → ((x : ℕ) → Decided (P x)) → Decided ((x : ℕ) → x < n → P x)
each zero P d = inl (λ x l. absurd (omega arith))
each (suc n) P d = each_step n P (d n) (each n P d)

move_by : (e p : ℕ) (c : ℕ → Bool) (s v : ℕ) → Decided ((c s ≡ true) × (c v ≡ false)) → Decided ((i : ℕ) → i < suc v → s < i → IsAhead e p c i) → Decided ((i : ℕ) → i < suc s → v < i → IsBehind e p c i) → Decided (Move e p c s v)
move_by e p c s v (inr never) l k = inr (λ m. never (m.from, m.to))
move_by e p c s v (inl h) (inr never) k = inr (λ m. never (λ i l lo. m.later i lo (omega arith)))
move_by e p c s v (inl h) (inl l) (inr never) = inr (λ m. never (λ i l2 lo. m.earlier i lo (omega arith)))
move_by e p c s v (inl h) (inl l) (inl k) = inl (record { from = h.0; to = h.1; later = λ i lo hi. l i (omega arith) lo; earlier = λ i lo hi. k i (omega arith) lo })

pub move : (e p : ℕ) (c : ℕ → Bool) (s v : ℕ) → Decided (Move e p c s v)
move e p c s v = move_by e p c s v (both (is_true (c s)) (is_false (c v)))
    (each (suc v) (λ i. s < i → IsAhead e p c i) (λ i. implied (less s i) (less (e * i) (p * count i c))))
    (each (suc s) (λ i. v < i → IsBehind e p c i) (λ i. implied (less v i) (less (p * count i c) (e * i))))
