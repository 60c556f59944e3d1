-- The row that is chosen at a ledger from which fair schedules of every length go on.
use Rattle.std.proofs.Common.{◌≡◌, ℕ, ◌+◌, ◌≤◌, ◌^◌, List, Ok, Err, sym, ◌∙◌, refl, inl, inr}
use Rattle.std.proofs.lemmas.Bool.{cases_lt, cond-true, cond-false, lt-ltb, le-ltb}
use Rattle.pfx_weights.specs.Rows.{members, is_in}
use Rattle.pfx_weights.specs.Sets.{FilledSet, IsFilled}
use Rattle.pfx_columns.specs.Ledgers.{Ledger, IsLedger, total, start, after}
use Rattle.pfx_choice.specs.declared.faults.ChoiceFault.{ChoiceFault}
use Rattle.pfx_choice.specs.declared.faults.ChoiceFault.TheVariants.{SlotLimit}
use Rattle.pfx_choice.specs.Choices.{IsPfRow}
use Rattle.pfx_choice.specs.PfRows.{chosen, pf_row}
use Rattle.pfx_choice.proofs.Keeping.{shape_after}
use Rattle.pfx_choice.proofs.PfFunction.{pf_function}
use Rattle.pfx_choice.proofs.Schedules.{shape_of, pf_in}
use Rattle.pfx_choice.proofs.SetSchedules.{Shape}
use Rattle.pfx_machine_feasible.specs.Endless.{IsEndless}
use Rattle.pfx_machine_feasible.proofs.Runs.{EndlessSets}
use Rattle.pfx_machine_feasible.proofs.Endless.{of_rows, stays, goes_on, start_shape, start_sets}

-- a ledger with a shape from which fair schedules of every length go on
pub record GoesOn (g : Ledger) : Type 0 where
  pub shape : Shape g
  pub sets : EndlessSets g
  pub few : g.set.workers ≤ 64

pub start_goes_on : (s : FilledSet) → IsFilled s → GoesOn (start s)
start_goes_on s h = record { shape = start_shape s h; sets = start_sets s h; few = h.workers.1 }

pub ledger_goes_on : (g : Ledger) → IsLedger g → IsEndless g → GoesOn g
ledger_goes_on g h endless = (let shape = shape_of g h in record { shape = shape; sets = of_rows g shape endless; few = h.set.workers.1 })

-- after a chosen row it goes on
pub row_goes_on : (g : Ledger) (row : List ℕ) → chosen g ≡ Ok row → GoesOn g → GoesOn (after g (is_in row))
row_goes_on g row is h =
    let pf : IsPfRow g row = (((pf_function g).chosen_rows row).1 is).pf in
    record { shape = shape_after g (is_in row) h.shape; sets = stays g h.shape h.sets (is_in row) (pf_in g row pf); few = h.few }

-- there is PF's row
pub row_there : (g : Ledger) → GoesOn g → (row : List ℕ) × (pf_row g ≡ Ok row)
row_there g h =
    let r = goes_on g h.shape h.sets in
    let row = members (total g) r.0 in
    (row, ((pf_function g).rows row).0 (record { set = r.0; pf = r.1; is = refl }))

-- and if none is chosen, the slot is the last one
pub no_row_at_limit : (g : Ledger) (why : ChoiceFault) → GoesOn g → chosen g ≡ Err why → (why ≡ SlotLimit) × (2 ^ 40 ≤ g.slot + 1)
no_row_at_limit g why h is =
    let r = row_there g h in
    elim (cases_lt (g.slot + 1) (2 ^ 40)) [
      | inl less ↦ absurd (let e : Ok r.0 ≡ Err why = sym r.1 ∙ sym (cond-true _ (pf_row g) (Err SlotLimit) (lt-ltb (g.slot + 1) (2 ^ 40) less)) ∙ is in cc)
      | inr more ↦ ((let e : Err SlotLimit ≡ Err why = sym (cond-false _ (pf_row g) (Err SlotLimit) (le-ltb (g.slot + 1) (2 ^ 40) more)) ∙ is in cc), more)
    ]
