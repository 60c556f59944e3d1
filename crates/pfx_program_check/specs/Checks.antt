-- What is said of the bytes of a set file.
use Rattle.std.specs.Prelude.{◌≡◌, ◌⊎◌, ℕ, List, [], ◌∷◌, Some, None}
use Rattle.std.specs.Int.{IsGcd}
use Rattle.pfx_weights.specs.Sets.{FilledSet, Accepts, demand}
use Rattle.pfx_store_header.specs.Headers.{Header, IsSegmentSize}
use Rattle.pfx_fault.specs.declared.refusals.Fault.{Fault}
use Rattle.pfx_fault.specs.declared.refusals.Fault.TheVariants as fault
use Rattle.pfx_program_set.specs.SetFile.{SetFile, weights_of, set_of_bytes}
use Rattle.pfx_program.specs.Plan.{IsInputFault}
use Rattle.pfx_program.specs.declared.form.OutputForm.{OutputForm}
use Rattle.pfx_program_check.specs.Faults.{AreAllFaults}
use Rattle.pfx_program_check.specs.Text.{check_text}

-- the number by which the load of these tasks is divided, so that it is in lowest terms
abbrev pub IsDivisor : List (ℕ × ℕ) → FilledSet → ℕ → Type 0
IsDivisor tasks s by = IsGcd s.hyper (demand s.hyper tasks) by

-- the text is that of these tasks and of a store of their set, in this form
abbrev pub IsText : OutputForm → List (ℕ × ℕ) → Header → List ℕ → Type 0
IsText form tasks h text = (by : ℕ) × IsDivisor tasks h.set by × (text ≡ check_text form tasks h by)

-- m workers and these tasks are a set, segments of this length make a store of it, and the text is that of both
pub record IsTextOf (form : OutputForm) (m : ℕ) (tasks : List (ℕ × ℕ)) (segment : ℕ) (text : List ℕ) : Type 0 where
  pub set : FilledSet
  pub accepted : Accepts m tasks set
  pub fits : IsSegmentSize m segment
  pub is : IsText form tasks (record { set = set; segment = segment }) text

-- so it is with the set of a file
abbrev pub IsCheck : OutputForm → SetFile → List ℕ → Type 0
IsCheck form file text = IsTextOf form file.workers (weights_of file) file.segment text

-- the bytes are such a set file
abbrev pub Checks : OutputForm → List ℕ → List ℕ → Type 0
Checks form bytes text = (file : SetFile) × (set_of_bytes bytes ≡ Some file) × IsCheck form file text

-- all that is wrong with the set of a file
abbrev pub AreFaultsIn : SetFile → List Fault → Type 0
AreFaultsIn file all = AreAllFaults file.workers (weights_of file) file.segment all

-- what is said first and what is said next are that, or an allocation failed
abbrev pub FileFails : SetFile → Fault → List Fault → Type 0
FileFails file first further = AreFaultsIn file (first ∷ further) ⊎ ((first ≡ fault.NoMemory) × (further ≡ []))

-- all that is wrong with the bytes: they are no set file, or these are the faults of the one that they are
abbrev pub AreFaultsOf : List ℕ → List Fault → Type 0
AreFaultsOf bytes all =
    ((set_of_bytes bytes ≡ None) × (all ≡ fault.BadSet ∷ [])) ⊎ ((file : SetFile) × (set_of_bytes bytes ≡ Some file) × AreFaultsIn file all)

-- what is said first and what is said next are that, or the bytes weren't read, or an allocation failed
abbrev pub CheckFails : List ℕ → Fault → List Fault → Type 0
CheckFails bytes first further = AreFaultsOf bytes (first ∷ further) ⊎ (IsInputFault first × (further ≡ []))
