-- PF's row, or that there is none.
use Rattle.std.proofs.Common.{◌≡◌, ◌≢◌, ◌≤◌, ◌<◌, ◌+◌, ◌^◌, ◌∙◌, ℕ, List, Option, Some, None, Ok, Err, refl, sym}
use Rattle.std.specs.Prelude.{MatchOption, Vec}
use Rattle.std.specs.declared.alloc.Global.{Global}
use Rattle.pfx_weights.specs.Rows.{members}
use Rattle.pfx_columns.specs.Ledgers.{Ledger, total}
use Rattle.pfx_choice.specs.Choices.{contending, urgent, Fails}
use Rattle.pfx_choice.specs.PfRows.{chosen, pf_set}
use Rattle.pfx_choice.specs.declared.faults.ChoiceFault.{ChoiceFault}
use Rattle.pfx_choice.specs.declared.faults.ChoiceFault.TheVariants.{SlotLimit, TooManyUrgent, TooFewEligible, NoMemory}
use Rattle.pfx_choice.proofs.PfFunction.{pf_function, row_of}
use Rattle.pfx_machine.specs.Plain.{Plain, whole}
use Rattle.pfx_machine.specs.Choosing.{row_in}
use Rattle.pfx_machine.proofs.Rowing.{row_none, row_same}

none_of : (g : Ledger) (f : ChoiceFault) → f ≢ NoMemory → Fails g f → (row : List ℕ) → chosen g ≢ Ok row
none_of g f other fails row is = let e : Err f ≡ Ok row = sym (((pf_function g).faults f other).0 fails) ∙ is in cc

pub late : (g : Ledger) → 2 ^ 40 ≤ g.slot + 1 → (row : List ℕ) → chosen g ≢ Ok row
late g h = none_of g SlotLimit (λ e. cc) h

pub crowded : (g : Ledger) → g.slot + 1 < 2 ^ 40 → g.set.workers < urgent g → (row : List ℕ) → chosen g ≢ Ok row
crowded g early h = none_of g (TooManyUrgent (urgent g) g.set.workers) (λ e. cc) (early, refl, refl, h)

pub sparse : (g : Ledger) → g.slot + 1 < 2 ^ 40 → urgent g + contending g < g.set.workers → (row : List ℕ) → chosen g ≢ Ok row
sparse g early h = none_of g (TooFewEligible (urgent g + contending g) g.set.workers) (λ e. cc) (early, refl, refl, h)

pub there : (g : Ledger) → g.slot + 1 < 2 ^ 40 → urgent g ≤ g.set.workers → g.set.workers ≤ urgent g + contending g → chosen g ≡ Ok (members (total g) (pf_set g))
there g early few many = ((pf_function g).chosen_rows (members (total g) (pf_set g))).0 (record { pf = row_of g few many; slot = early })

-- the row of a state's next slot

pub last_slot : {J : Type 0} (s : Plain J) → 2 ^ 40 ≤ whole s + 1 → (row : List ℕ) → row_in s ≢ Ok row
last_slot s late row is = let e : Err SlotLimit ≡ Ok row = sym (row_none s late) ∙ is in cc

pub found_row : {J : Type 0} (s : Plain J) (found : Option (Vec ℕ Global)) → whole s + 1 < 2 ^ 40 →
    MatchOption found ((row : List ℕ) → chosen s.ledger ≢ Ok row) (λ row. chosen s.ledger ≡ Ok row.items) → MatchOption found ((row : List ℕ) → row_in s ≢ Ok row) (λ row. row_in s ≡ Ok row.items)
found_row s None early none = λ row is. none row (sym (row_same s early) ∙ is)
found_row s (Some row) early is = row_same s early ∙ is
