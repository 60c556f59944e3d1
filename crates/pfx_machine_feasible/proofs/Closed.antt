-- Of a set of slots closed under the moves of every column: at most m tasks a slot of it, on the whole.
use Rattle.std.proofs.Common.{◌≡◌, ℕ, ◌+◌, ◌*◌, ◌<◌, ◌≤◌, Bool, true, false, arith, ap, sym, ◌∙◌, refl}
use Rattle.std.proofs.Math.Nat.{lt_of_mul-lt-mul_left, le_of_mul-le-mul_left, mul-le-mul_left, mul_left_comm, mul_assoc, mul_comm}
use Rattle.pfx_weights.specs.Rows.{one, count}
use Rattle.pfx_weights.proofs.Counts.{count-same}
use Rattle.pfx_machine_feasible.specs.Moves.{IsClosed, inside}
use Rattle.pfx_machine_feasible.proofs.Columns.{inside_is, few}
use Rattle.pfx_machine_feasible.proofs.Matrices.{Frame, load, IsFairMatrix}
use Rattle.pfx_machine_feasible.proofs.Sums.{total_of, total-le, total-same, total-less, total-times, total-const, total-ones, total-twice}

-- the slots are whole periods of each task, over which the weights sum to m
pub record Filled (f : Frame) (m : ℕ) : Type 0 where
  pub q : ℕ → ℕ
  pub positive : 0 < f.slots
  pub weights : (x : ℕ) → x < f.tasks → f.e x ≤ f.p x
  pub whole : (x : ℕ) → x < f.tasks → f.p x * q x ≡ f.slots
  pub full : total_of f.tasks (λ x. f.e x * q x) ≡ m * f.slots

-- a column takes its share
pub share : (e p q t c : ℕ) → p * q ≡ t → p * c < e * t + p → e * t < p * c + p → c ≡ e * q
share e p q t c whole low high =
    let a : e * t ≡ p * (e * q) = ap (λ z. e * z) (sym whole) ∙ mul_left_comm e p q in
    let x : c < e * q + 1 = lt_of_mul-lt-mul_left p (omega arith) in
    let y : e * q < c + 1 = lt_of_mul-lt-mul_left p (omega arith) in
    omega arith

pub level : (e p q t c : ℕ) → p * q ≡ t → c ≡ e * q → p * c ≡ e * t
level e p q t c whole is = ap (λ z. p * z) is ∙ mul_left_comm p e q ∙ ap (λ z. e * z) whole

scaled : (e p q t a b : ℕ) → p * q ≡ t → p * a ≤ e * b → t * a ≤ b * (e * q)
scaled e p q t a b whole h =
    let x : q * (p * a) ≤ q * (e * b) = mul-le-mul_left q h in
    let y : t * a ≡ q * (p * a) = ap (λ z. z * a) (sym whole ∙ mul_comm p q) ∙ mul_assoc q p a in
    let z : q * (e * b) ≡ b * (e * q) = mul_comm q (e * b) ∙ ap (λ u. u * q) (mul_comm e b) ∙ mul_assoc b e q in
    omega arith

module _ (f : Frame) (m : ℕ) (fill : Filled f m) (M : ℕ → ℕ → Bool) (fair : IsFairMatrix f M) where
  pub shares : (x : ℕ) → x < f.tasks → count f.slots (M x) ≡ f.e x * fill.q x
  shares x l = (let h = fair x f.slots l (omega arith) in share (f.e x) (f.p x) (fill.q x) f.slots (count f.slots (M x)) (fill.whole x l) h.0 h.1)

  pub closed_few : (S : ℕ → Bool) → ((x : ℕ) → x < f.tasks → IsClosed (f.e x) (f.p x) (M x) S f.slots) → total_of f.tasks (λ x. count f.slots (inside S (M x))) ≤ m * count f.slots S
  closed_few S closed =
      let T = f.slots in
      let B = count T S in
      let A : ℕ → ℕ = λ x. count T (inside S (M x)) in
      let E : ℕ → ℕ = λ x. f.e x * fill.q x in
      let each : total_of f.tasks (λ x. T * A x) ≤ total_of f.tasks (λ x. B * E x) = total-le f.tasks (λ x. T * A x) (λ x. B * E x)
      (λ x l. scaled (f.e x) (f.p x) (fill.q x) T (A x) B (fill.whole x l)
      (few (f.e x) (f.p x) (fill.weights x l) (M x) S T (closed x l) (level (f.e x) (f.p x) (fill.q x) T (count T (M x)) (fill.whole x l) (shares x l)))) in
      let a : total_of f.tasks (λ x. T * A x) ≡ T * total_of f.tasks A = total-times f.tasks T A in
      let b : total_of f.tasks (λ x. B * E x) ≡ B * total_of f.tasks E = total-times f.tasks B E in
      let c : B * total_of f.tasks E ≡ T * (m * B) = ap (λ z. B * z) fill.full ∙ mul_comm B (m * T) ∙ ap (λ z. z * B) (mul_comm m T) ∙ mul_assoc T m B in
      let le : T * total_of f.tasks A ≤ T * (m * B) = omega arith in
      le_of_mul-le-mul_left le fill.positive

  place : (S : ℕ → Bool) (s : ℕ) (b : Bool) → S s ≡ b → (S s ≡ true → m ≤ load f M s) → m * one (S s) ≤ count f.tasks (λ x. inside S (M x) s)
  place S s true sb h =
      let a : count f.tasks (λ x. inside S (M x) s) ≡ load f M s = count-same f.tasks (λ x. inside S (M x) s) (λ x. M x s) (λ x l. inside_is S (M x) s sb) in
      let b : m * one (S s) ≡ m * 1 = ap (λ d. m * one d) sb in
      let c = h sb in
      omega (arith, c)
  place S s false sb h =
      let b : m * one (S s) ≡ m * 0 = ap (λ d. m * one d) sb in
      omega arith

  -- such a set without an underfull slot has no overfull one
  pub none_over : (S : ℕ → Bool) → ((x : ℕ) → x < f.tasks → IsClosed (f.e x) (f.p x) (M x) S f.slots) → ((s : ℕ) → s < f.slots → S s ≡ true → m ≤ load f M s) → (o : ℕ) → o < f.slots → S o ≡ true → m < load f M o → ⊥
  none_over S closed heavy o l so over =
      let T = f.slots in
      let few : total_of f.tasks (λ x. count T (inside S (M x))) ≤ m * count T S = closed_few S closed in
      let twice : total_of T (λ s. count f.tasks (λ x. inside S (M x) s)) ≡ total_of f.tasks (λ x. count T (inside S (M x))) = total-twice f.tasks T (λ x. inside S (M x)) in
      let a : count f.tasks (λ x. inside S (M x) o) ≡ load f M o = count-same f.tasks (λ x. inside S (M x) o) (λ x. M x o) (λ x k. inside_is S (M x) o so) in
      let b : m * one (S o) ≡ m * 1 = ap (λ d. m * one d) so in
      let more : total_of T (λ s. m * one (S s)) < total_of T (λ s. count f.tasks (λ x. inside S (M x) s)) =
      total-less T (λ s. m * one (S s)) (λ s. count f.tasks (λ x. inside S (M x) s)) o (λ s k. place S s (S s) refl (heavy s k)) l (omega arith) in
      let c : total_of T (λ s. m * one (S s)) ≡ m * total_of T (λ s. one (S s)) = total-times T m (λ s. one (S s)) in
      let d : m * total_of T (λ s. one (S s)) ≡ m * count T S = ap (λ z. m * z) (total-ones T S) in
      absurd (omega arith)

  -- with no overfull slot there is no underfull one
  pub none_under : ((s : ℕ) → s < f.slots → load f M s ≤ m) → (u : ℕ) → u < f.slots → load f M u < m → ⊥
  none_under h u l under =
      let T = f.slots in
      let less : total_of T (load f M) < total_of T (λ s. m) = total-less T (load f M) (λ s. m) u h l under in
      let c : total_of T (λ s. m) ≡ m * T = total-const T m in
      let twice : total_of T (load f M) ≡ total_of f.tasks (λ x. count T (M x)) = total-twice f.tasks T M in
      let all : total_of f.tasks (λ x. count T (M x)) ≡ total_of f.tasks (λ x. f.e x * fill.q x) = total-same f.tasks (λ x. count T (M x)) (λ x. f.e x * fill.q x) shares in
      let full : total_of f.tasks (λ x. f.e x * fill.q x) ≡ m * T = fill.full in
      absurd (omega arith)
