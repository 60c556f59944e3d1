-- If PF's choice succeeds up to a whole number of hyperperiods, it never fails.
use Rattle.std.proofs.Common.{◌≡◌, ℕ, zero, suc, ◌+◌, ◌*◌, ◌/◌, ◌%◌, ◌<◌, Bool, true, false, List, [], ◌∷◌, length, map, arith, ap, sym, ◌∙◌, refl, subst}
use Rattle.std.proofs.Math.Nat.{div-add-mod, mul_assoc}
use Rattle.std.proofs.lemmas.List.{length-map}
use Rattle.pfx_weights.specs.Multiples.{IsMultiple}
use Rattle.pfx_weights.specs.Rows.{one, is_in}
use Rattle.pfx_weights.specs.Sets.{IsFilled}
use Rattle.pfx_columns.specs.Lags.{IsFairAt}
use Rattle.pfx_columns.specs.Ledgers.{Ledger, Task, IsLedger, IsFair, IsFairTask, total, task, after}
use Rattle.pfx_columns.proofs.Steps.{fair_low, fair_high, fair_rest, fair_run}
use Rattle.pfx_columns.proofs.Going.{task-after}
use Rattle.pfx_choice.specs.Choices.{IsPf}
use Rattle.pfx_choice.specs.Schedules.{PfSucceeds}
use Rattle.pfx_choice.proofs.Keeping.{in_allocs, shape_after}
use Rattle.pfx_choice.proofs.Schedules.{shape_of}
use Rattle.pfx_choice.proofs.SetSchedules.{IsFairColumn, column, IsFull, IsFairSets, IsPfPlan, Shape}
use Rattle.pfx_machine_feasible.specs.Endless.{IsEndless}
use Rattle.pfx_machine_feasible.proofs.Closed.{share, level}
use Rattle.pfx_machine_feasible.proofs.Runs.{EndlessSets, HadShares, shares_endless}
use Rattle.pfx_machine_feasible.proofs.Endless.{to_rows, of_rows, succeeds, pf_sets}

module _ (g : Ledger) (shape : Shape g) (fair : IsFair g) (s : ℕ → Bool) (pf : IsPf g s) where
  fair_step : (x : ℕ) (b : Bool) → s x ≡ b → x < total g → IsFairAt (task g x).e (task g x).p ((task g x).alloc + one b) (g.slot + 1)
  fair_step x true e l =
      let w = shape.weights x l in
      fair_run (task g x).e (task g x).p (task g x).alloc g.slot w.1 w.0 (fair x l) (λ t. (let k : true ≡ false = sym e ∙ pf.tnegru x l t in cc))
  fair_step x false e l =
      let w = shape.weights x l in
      let z : (task g x).alloc ≡ (task g x).alloc + 0 = omega arith in
      let P : ℕ → Type 0 = λ a. IsFairAt (task g x).e (task g x).p a (g.slot + 1) in
      subst P z (fair_rest (task g x).e (task g x).p (task g x).alloc g.slot w.1 (fair x l) (λ u. (let k : true ≡ false = sym (pf.urgent x l u) ∙ e in cc)))

  -- the ledger after PF's choice is fair
  fair_next : IsFair (after g s)
  fair_next x l = subst (IsFairTask (g.slot + 1)) (sym (task-after g s x (in_allocs g shape x l))) (fair_step x (s x) refl l)

  full_before : (ss : List (ℕ → Bool)) → IsFull (after g s) ss → IsFull g ss
  full_before [] h = tt
  full_before (r ∷ rs) h = (h.0, full_before rs h.1)

  -- PF's choice before a schedule
  sets_before : (ss : List (ℕ → Bool)) → IsFairSets (after g s) ss → IsFairSets g (s ∷ ss)
  sets_before ss h = record {
    fair = λ x l.
        (let F : Task → Type 0 = λ v. IsFairColumn v.e v.p v.alloc (g.slot + 1) (column x ss) in
        (fair x l, subst F (task-after g s x (in_allocs g shape x l)) (h.fair x l)));
    full = (pf.size, full_before ss h.full);
  }

  endless_before : EndlessSets (after g s) → EndlessSets g
  endless_before endless zero = ([], refl, record { fair = fair; full = tt })
  endless_before endless (suc slots) = (let k = endless slots in (s ∷ k.0, ap suc k.1, sets_before k.0 k.2))

-- after a whole number of hyperperiods each task of a fair ledger has had what it was due
whole_shares : (g : Ledger) → IsFilled g.set → IsFair g → IsMultiple g.set.hyper g.slot → HadShares g
whole_shares g h fair whole x l =
    let L = g.set.hyper in
    let t = g.slot in
    let e = (task g x).e in
    let p = (task g x).p in
    let a = (task g x).alloc in
    let fits : L % p ≡ 0 = h.periods x (0, 0) l in
    let b : p * (L / p) + L % p ≡ L = div-add-mod L p in
    let c : L * (t / L) + t % L ≡ t = div-add-mod t L in
    let d : p * (L / p) ≡ L = omega arith in
    let w : L * (t / L) ≡ t = omega (arith, whole) in
    let q = L / p * (t / L) in
    let is : p * q ≡ t = sym (mul_assoc p (L / p) (t / L)) ∙ ap (λ z. z * (t / L)) d ∙ w in
    level e p q t a is (share e p q t a is (fair_low e p a t (fair x l)) (fair_high e p a t (fair x l)))

by_plan : (ss : List (ℕ → Bool)) (g : Ledger) → IsFilled g.set → Shape g → IsFair g → IsPfPlan g ss → IsMultiple g.set.hyper (g.slot + length ss) → EndlessSets g
by_plan [] g h shape fair plan whole =
    let is : g.slot + 0 ≡ g.slot = omega arith in
    shares_endless g h (whole_shares g h fair (subst (IsMultiple g.set.hyper) is whole))
by_plan (s ∷ ss) g h shape fair plan whole =
    let is : g.slot + suc (length ss) ≡ g.slot + 1 + length ss = omega arith in
    endless_before g shape fair s plan.0
    (by_plan ss (after g s) h (shape_after g s shape) (fair_next g shape fair s plan.0) plan.1 (subst (IsMultiple g.set.hyper) is whole))

pub endless_by_plan : (g : Ledger) → IsLedger g → (slots : ℕ) → IsMultiple g.set.hyper (g.slot + slots) → PfSucceeds g slots → IsEndless g
endless_by_plan g h slots whole runs =
    let shape = shape_of g h in
    let number : length (map is_in runs.rows) ≡ slots = length-map runs.rows is_in ∙ runs.number in
    let P : ℕ → Type 0 = λ n. IsMultiple g.set.hyper (g.slot + n) in
    to_rows g shape h.set.workers.1 (by_plan (map is_in runs.rows) g h.set shape h.fair (pf_sets g runs.rows runs.pf) (subst P (sym number) whole))

pub endless_succeeds : (g : Ledger) → IsLedger g → IsEndless g → (slots : ℕ) → PfSucceeds g slots
endless_succeeds g h endless slots = (let shape = shape_of g h in succeeds g shape (of_rows g shape endless) slots)
