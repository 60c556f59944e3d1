-- From a fair matrix to one with m tasks in each slot.
use Rattle.std.proofs.Common.{◌≡◌, ◌≢◌, ℕ, zero, suc, ◌+◌, ◌-◌, ◌<◌, ◌≤◌, nat_lt, Bool, true, false, if◌then◌else◌, arith, ap, sym, ◌∙◌, refl, subst, ◌⊎◌, inl, inr}
use Rattle.std.proofs.lemmas.Bool.{cases_lt, cases_eq}
use Rattle.std.proofs.lemmas.Grind.{common_steps}
use Rattle.pfx_weights.specs.Rows.{one, count}
use Rattle.pfx_choice.proofs.SetSchedules.{upd}
use Rattle.pfx_weights.proofs.Counts.{true_not_false}
use Rattle.pfx_choice.proofs.Keeping.{upd-same, upd-other, count-upd}
use Rattle.pfx_machine_feasible.specs.Moves.{Move}
use Rattle.pfx_machine_feasible.proofs.Decide.{Decided, is_true, is_false, less, both, some, move}
use Rattle.pfx_machine_feasible.proofs.Matrices.{Frame, load, IsFairMatrix, Path, spot, spot-same, spot-other, Improved, improve}
use Rattle.pfx_machine_feasible.proofs.Sums.{total_of, total-less}
use Rattle.pfx_machine_feasible.proofs.Closed.{Filled, none_over, none_under}

-- the slots with at least m tasks
abbrev heavy : Frame → ℕ → (ℕ → ℕ → Bool) → ℕ → Bool
heavy f m M s = if nat_lt (load f M s) m then false else true

heavy-out : (f : Frame) (m : ℕ) (M : ℕ → ℕ → Bool) (s : ℕ) → load f M s < m → heavy f m M s ≡ false
heavy-out f m M s h = grind (arith, common_steps)

heavy-in : (f : Frame) (m : ℕ) (M : ℕ → ℕ → Bool) (s : ℕ) → m ≤ load f M s → heavy f m M s ≡ true
heavy-in f m M s h = grind (arith, common_steps)

-- an underfull slot can be reached
abbrev pub Reach : Frame → ℕ → (ℕ → ℕ → Bool) → ℕ → Type 0
Reach f m M v = (t : ℕ) × (k : ℕ) × (t < f.slots) × (load f M t < m) × Path f M k v t

-- a step out of the set S
abbrev Out : Frame → (ℕ → ℕ → Bool) → (ℕ → Bool) → ℕ → ℕ → ℕ → Type 0
Out f M S u v x = ((S u ≡ true) × (S v ≡ false)) × Move (f.e x) (f.p x) (M x) u v

abbrev AnyOut : Frame → (ℕ → ℕ → Bool) → (ℕ → Bool) → Type 0
AnyOut f M S = (u : ℕ) × (u < f.slots) × ((v : ℕ) × (v < f.slots) × ((x : ℕ) × (x < f.tasks) × (Out f M S u v x)))

decided : {P : ℕ → Type 0} (n : ℕ) → ((x : ℕ) → Decided (P x)) → Decided ((x : ℕ) × (x < n) × P x)
decided {P} n d = elim (some n P d) [
  | inl h ↦ inl h
  | inr never ↦ inr (λ h. never h.0 h.1 h.2)
]

any_out : (f : Frame) (M : ℕ → ℕ → Bool) (S : ℕ → Bool) → Decided (AnyOut f M S)
any_out f M S = decided f.slots (λ u. decided f.slots (λ v. decided f.tasks (λ x. both (both (is_true (S u)) (is_false (S v))) (move (f.e x) (f.p x) (M x) u v))))

closed_by : (b : Bool) → (b ≡ false → ⊥) → b ≡ true
closed_by true h = refl
closed_by false h = absurd (h refl)

module _ (f : Frame) (m : ℕ) (fill : Filled f m) (M : ℕ → ℕ → Bool) (fair : IsFairMatrix f M) (o : ℕ) (within : o < f.slots) (over : m < load f M o) where
  spread : (n : ℕ) (S : ℕ → Bool) (b : Bool) → S o ≡ b → count f.slots S ≤ n → ((v : ℕ) → v < f.slots → S v ≡ false → Reach f m M v) → ((v : ℕ) → v < f.slots → S v ≡ true → m ≤ load f M v) → Decided (AnyOut f M S) → Reach f m M o
  spread n S false so size out inside d = out o within so
  spread n S true so size out inside (inr never) =
      absurd (none_over f m fill M fair S (λ x l s v ls lv ss mv. closed_by (S v) (λ sv. never (s, ls, (v, lv, (x, l, ((ss, sv), mv)))))) inside o within so over)
  spread zero S true so size out inside (inl (u, lu, (v, lv, (x, lx, ((su, sv), mv))))) =
      let h : count f.slots (upd u false S) + one (S u) ≡ count f.slots S + 0 = count-upd f.slots S u false lu in
      let k : one (S u) ≡ 1 = ap one su in
      absurd (omega arith)
  spread (suc n) S true so size out inside (inl (u, lu, (v, lv, (x, lx, ((su, sv), mv))))) =
      let R = upd u false S in
      let h : count f.slots R + one (S u) ≡ count f.slots S + 0 = count-upd f.slots S u false lu in
      let k : one (S u) ≡ 1 = ap one su in
      let r = out v lv sv in
      let here : Reach f m M u = (r.0, suc r.1, r.2, r.3, (v, record { x = x; within = lx; move = mv }, r.4)) in
      spread n R (R o) refl (omega arith)
      (λ w lw rw. elim (cases_eq w u) [
        | inl same ↦ subst (Reach f m M) (sym same) here
        | inr other ↦ out w lw (sym (upd-other u false S w other) ∙ rw)
      ])
      (λ w lw rw. elim (cases_eq w u) [
        | inl same ↦ true_not_false (R w) rw (upd-same u false S w same)
        | inr other ↦ inside w lw (sym (upd-other u false S w other) ∙ rw)
      ])
      (any_out f M R)

  -- an underfull slot can be reached from an overfull one
  pub reach : Reach f m M o
  reach =
      let S = heavy f m M in
      spread (count f.slots S) S (S o) refl (omega arith)
      (λ v l sv. elim (cases_lt (load f M v) m) [
        | inl under ↦ (v, 0, l, under, refl)
        | inr not ↦ true_not_false (S v) (heavy-in f m M v not) sv
      ])
      (λ v l sv. elim (cases_lt (load f M v) m) [
        | inl under ↦ true_not_false (S v) sv (heavy-out f m M v under)
        | inr not ↦ not
      ])
      (any_out f M S)

-- how many tasks too many
abbrev excess : Frame → ℕ → (ℕ → ℕ → Bool) → ℕ
excess f m M = total_of f.slots (λ s. load f M s - m)

excess_falls : (f : Frame) (m : ℕ) (M : ℕ → ℕ → Bool) (s t : ℕ) (g : Improved f M s t) → s < f.slots → m < load f M s → load f M t < m → excess f m g.matrix < excess f m M
excess_falls f m M s t g l over under =
    let ne : s ≢ t = λ q. (let e : load f M s ≡ load f M t = ap (load f M) q in absurd (omega arith)) in
    let there = g.loads s in
    let a : spot s s ≡ 1 = spot-same s s refl in
    let b : spot t s ≡ 0 = spot-other t s ne in
    total-less f.slots (λ i. load f g.matrix i - m) (λ i. load f M i - m) s
    (λ i k. elim (cases_eq i t) [
      | inl same ↦
          (let c = g.loads i in
          let x : spot t i ≡ 1 = spot-same t i same in
          let y : spot s i ≡ 0 = spot-other s i (λ q. ne (sym q ∙ same)) in
          let z : load f M i ≡ load f M t = ap (load f M) same in
          omega (arith, c))
      | inr other ↦
          (let c = g.loads i in
          let x : spot t i ≡ 0 = spot-other t i other in
          omega (arith, c))
    ])
    l (omega (arith, there))

pub record Balanced (f : Frame) (m : ℕ) : Type 0 where
  pub matrix : ℕ → ℕ → Bool
  pub fair : IsFairMatrix f matrix
  pub loads : (s : ℕ) → s < f.slots → load f matrix s ≡ m

balance_in : (n : ℕ) (f : Frame) (m : ℕ) → Filled f m → (M : ℕ → ℕ → Bool) → IsFairMatrix f M → excess f m M ≤ n
    → ((s : ℕ) × (s < f.slots) × (m < load f M s)) ⊎ ((s : ℕ) → s < f.slots → m < load f M s → ⊥) → Balanced f m
balance_in n f m fill M fair size (inr never) = record {
  matrix = M;
  fair = fair;
  loads = λ s l.
      (let le : (i : ℕ) → i < f.slots → load f M i ≤ m = λ i k. elim (cases_lt m (load f M i)) [
        | inl over ↦ absurd (never i k over)
        | inr not ↦ not
      ] in
      elim (cases_lt (load f M s) m) [
        | inl under ↦ absurd (none_under f m fill M fair le s l under)
        | inr not ↦ (let h = le s l in omega (arith, h))
      ]);
}
balance_in zero f m fill M fair size (inl (s, l, over)) =
    let r = reach f m fill M fair s l over in
    let g = improve r.1 f M r.1 s r.0 (omega arith) fair r.4 in
    let falls = excess_falls f m M s r.0 g l over r.3 in
    absurd (omega (arith, falls))
balance_in (suc n) f m fill M fair size (inl (s, l, over)) =
    let r = reach f m fill M fair s l over in
    let g = improve r.1 f M r.1 s r.0 (omega arith) fair r.4 in
    let falls = excess_falls f m M s r.0 g l over r.3 in
    balance_in n f m fill g.matrix g.fair (omega (arith, falls)) (some f.slots (λ i. m < load f g.matrix i) (λ i. less m (load f g.matrix i)))

pub balance : (f : Frame) (m : ℕ) → Filled f m → (M : ℕ → ℕ → Bool) → IsFairMatrix f M → Balanced f m
balance f m fill M fair = balance_in (excess f m M) f m fill M fair (omega arith) (some f.slots (λ i. m < load f M i) (λ i. less m (load f M i)))
