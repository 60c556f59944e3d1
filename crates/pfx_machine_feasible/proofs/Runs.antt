-- From a ledger at which every task has had what it was due there are fair schedules of every length.
use Rattle.std.proofs.Common.{◌≡◌, ℕ, zero, suc, ◌+◌, ◌*◌, ◌/◌, ◌%◌, ◌<◌, ◌≤◌, Bool, List, [], ◌∷◌, length, get_or, arith, ap, sym, ◌∙◌, refl, subst}
use Rattle.std.specs.Prelude.{sum_by}
use Rattle.std.proofs.Math.Nat.{div-add-mod, mul_assoc, mul_comm, mul-le-mul_right}
use Rattle.std.proofs.lemmas.List.Sums.{sum_by-cons}
use Rattle.pfx_weights.specs.Rows.{one, count}
use Rattle.pfx_weights.specs.Sets.{IsFilled, IsWeight}
use Rattle.pfx_columns.specs.Ledgers.{Ledger, total, task}
use Rattle.pfx_columns.proofs.Steps.{fair_from}
use Rattle.pfx_choice.proofs.SetSchedules.{IsFairColumn, column, IsFull, IsFairSets}
use Rattle.pfx_machine_feasible.proofs.Matrices.{Frame, IsFairMatrix}
use Rattle.pfx_machine_feasible.proofs.Sums.{total_of, total-same, total-times}
use Rattle.pfx_machine_feasible.proofs.Closed.{Filled}
use Rattle.pfx_machine_feasible.proofs.Balance.{Balanced, balance}
use Rattle.pfx_machine_feasible.proofs.First.{first, first_fair}

-- for each number of slots there is a fair schedule of so many, as sets
abbrev pub EndlessSets : Ledger → Type 0
EndlessSets g = (slots : ℕ) → (ss : List (ℕ → Bool)) × (length ss ≡ slots) × IsFairSets g ss

-- every task has had what it was due
abbrev pub HadShares : Ledger → Type 0
HadShares g = (x : ℕ) → x < total g → (task g x).p * (task g x).alloc ≡ (task g x).e * g.slot

-- the sets of h slots of a matrix, from slot t on
abbrev rows_from : (ℕ → ℕ → Bool) → ℕ → ℕ → List (ℕ → Bool)
rows_from M t zero = []
rows_from M t (suc h) = (λ x. M x t) ∷ rows_from M (suc t) h

length-rows : (M : ℕ → ℕ → Bool) (t h : ℕ) → length (rows_from M t h) ≡ h
length-rows M t zero = refl
length-rows M t (suc h) = ap suc (length-rows M (suc t) h)

full_rows : (g : Ledger) (M : ℕ → ℕ → Bool) (t h : ℕ) → ((s : ℕ) → s < t + h → count (total g) (λ x. M x s) ≡ g.set.workers) → IsFull g (rows_from M t h)
full_rows g M t zero loads = tt
full_rows g M t (suc h) loads = (loads t (omega arith), full_rows g M (suc t) h (λ s l. loads s (omega arith)))

-- from a slot t0 at which the task has had its share
fair_rows : (e p x a0 t0 : ℕ) (M : ℕ → ℕ → Bool) (t h : ℕ) → p * a0 ≡ e * t0 → ((i : ℕ) → i ≤ t + h → (p * count i (M x) < e * i + p) × (e * i < p * count i (M x) + p))
    → IsFairColumn e p (a0 + count t (M x)) (t0 + t) (column x (rows_from M t h))
fair_rows e p x a0 t0 M t zero lev fair = (let f = fair t (omega arith) in let l = f.0 in let k = f.1 in fair_from e p (a0 + count t (M x)) (t0 + t) (omega (arith, l)) (omega (arith, k)))
fair_rows e p x a0 t0 M t (suc h) lev fair =
    let f = fair t (omega arith) in
    let l = f.0 in
    let k = f.1 in
    let C : ℕ → ℕ → Type 0 = λ a u. IsFairColumn e p a u (column x (rows_from M (suc t) h)) in
    let slot : t0 + suc t ≡ t0 + t + 1 = omega arith in
    let had : a0 + (count t (M x) + one (M x t)) ≡ a0 + count t (M x) + one (M x t) = omega arith in (
      fair_from e p (a0 + count t (M x)) (t0 + t) (omega (arith, l)) (omega (arith, k)),
      subst (λ a. C a (t0 + t + 1)) had (subst (C (a0 + (count t (M x) + one (M x t)))) slot (fair_rows e p x a0 t0 M (suc t) h lev (λ i b. fair i (omega arith)))),
    )

-- sums from the front
total-front : (n : ℕ) (f : ℕ → ℕ) → total_of (suc n) f ≡ f 0 + total_of n (λ x. f (suc x))
total-front zero f = omega arith
total-front (suc n) f = (let a : total_of (suc n) f ≡ f 0 + total_of n (λ x. f (suc x)) = total-front n f in omega arith)

total-list : (F : ℕ × ℕ → ℕ) (ws : List (ℕ × ℕ)) → total_of (length ws) (λ x. F (get_or ws x (0, 0))) ≡ sum_by F ws
total-list F [] = refl
total-list F (w ∷ ws) =
    let a : total_of (suc (length ws)) (λ x. F (get_or (w ∷ ws) x (0, 0))) ≡ F w + total_of (length ws) (λ x. F (get_or ws x (0, 0))) = total-front (length ws) (λ x. F (get_or (w ∷ ws) x (0, 0))) in
    let b : total_of (length ws) (λ x. F (get_or ws x (0, 0))) ≡ sum_by F ws = total-list F ws in
    let c : sum_by F (w ∷ ws) ≡ F w + sum_by F ws = sum_by-cons F w ws in
    a ∙ ap (λ z. F w + z) b ∙ sym c

module _ (g : Ledger) (h : IsFilled g.set) (k : ℕ) where
  abbrev weight : ℕ → ℕ × ℕ
  weight x = get_or g.set.weights x (0, 0)

  -- k + 1 hyperperiods
  abbrev frame : Frame
  frame = record { tasks = total g; slots = g.set.hyper * suc k; e = λ x. (weight x).0; p = λ x. (weight x).1 }

  period : (x : ℕ) → x < total g → (weight x).1 * (g.set.hyper / (weight x).1) ≡ g.set.hyper
  period x l =
      let p = (weight x).1 in
      let d : p * (g.set.hyper / p) + g.set.hyper % p ≡ g.set.hyper = div-add-mod g.set.hyper p in
      let z : g.set.hyper % p ≡ 0 = h.periods x (0, 0) l in
      omega arith

  slots_positive : 0 < g.set.hyper * suc k
  slots_positive = (let a = h.positive in omega (arith, a))

  whole_periods : Filled frame g.set.workers
  whole_periods = record {
    q = λ x. g.set.hyper / (weight x).1 * suc k;
    positive = slots_positive;
    weights = λ x l. (let w : IsWeight (weight x) = h.weights x (0, 0) l in let a = w.1 in omega (arith, a));
    whole = λ x l. sym (mul_assoc (weight x).1 (g.set.hyper / (weight x).1) (suc k)) ∙ ap (λ z. z * suc k) (period x l);
    full =
        (let F : ℕ × ℕ → ℕ = λ w. w.0 * (g.set.hyper / w.1) in
        total-same (total g) (λ x. (weight x).0 * (g.set.hyper / (weight x).1 * suc k)) (λ x. suc k * F (weight x))
        (λ x l. sym (mul_assoc (weight x).0 (g.set.hyper / (weight x).1) (suc k)) ∙ mul_comm ((weight x).0 * (g.set.hyper / (weight x).1)) (suc k))
        ∙ total-times (total g) (suc k) (λ x. F (weight x))
        ∙ ap (λ z. suc k * z) (total-list F g.set.weights ∙ h.full)
        ∙ mul_comm (suc k) (g.set.workers * g.set.hyper)
        ∙ mul_assoc g.set.workers g.set.hyper (suc k));
  }

  begin : IsFairMatrix frame (λ x. first (weight x).0 (weight x).1)
  begin x i l _ =
      let w : IsWeight (weight x) = h.weights x (0, 0) l in
      let a = w.0 in
      let b = w.1 in
      first_fair (weight x).0 (weight x).1 (omega (arith, a, b)) (omega (arith, b)) i

  even : Balanced frame g.set.workers
  even = balance frame g.set.workers whole_periods (λ x. first (weight x).0 (weight x).1) begin

  long : k ≤ g.set.hyper * suc k
  long = (let a : 1 * suc k ≤ g.set.hyper * suc k = mul-le-mul_right (suc k) (let b = h.positive in omega (arith, b)) in omega arith)

  -- the first k slots of the balanced matrix
  schedule : HadShares g → (ss : List (ℕ → Bool)) × (length ss ≡ k) × IsFairSets g ss
  schedule lev =
      let M = even.matrix in
      let rows = rows_from M 0 k in (
        rows,
        length-rows M 0 k,
        record {
          fair = λ x l.
              (let v = task g x in
              let had : v.alloc + 0 ≡ v.alloc = omega arith in
              let slot : g.slot + 0 ≡ g.slot = omega arith in
              let C : ℕ → ℕ → Type 0 = λ a u. IsFairColumn v.e v.p a u (column x rows) in
              subst (C v.alloc) slot (subst (λ a. C a (g.slot + 0)) had (fair_rows v.e v.p x v.alloc g.slot M 0 k (lev x l) (λ i le. even.fair x i l (let b = long in omega (arith, b))))));
          full = full_rows g M 0 k (λ i le. even.loads i (let b = long in omega (arith, b)));
        },
      )

-- from a ledger if each task has had its share there are fair schedules of each length
pub shares_endless : (g : Ledger) → IsFilled g.set → HadShares g → EndlessSets g
shares_endless g h lev k = schedule g h k lev
