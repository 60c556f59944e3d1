-- What a script's run on one thread leaves, if the calls of its disk are noted.
use Rattle.std.specs.Prelude.{◌≡◌, ℕ, ◌+◌, ◌++◌, Bool, List, length, Option, Result, IfSome, ⊤}
use Rattle.pfx_disk_chronicle.specs.Chart.{acts_of}
use Rattle.pfx_disk_chronicle.specs.declared.made.Made.{Made}
use Rattle.pfx_disk.specs.Disk.{View, IsHonest}
use Rattle.pfx_disk.specs.Stop.{Left}
use Rattle.pfx_fault.specs.declared.fields.Cause.{Cause}
use Rattle.pfx_fault.specs.declared.refusals.Fault.{Fault}
use Rattle.pfx_fault.specs.declared.refusals.Fault.TheVariants as fault
use Rattle.pfx_kinds.specs.AnyKind.{any_kind}
use Rattle.pfx_kinds.specs.declared.any.AnyJob.{AnyJob}
use Rattle.pfx_machine.specs.Outcome.{outcome}
use Rattle.pfx_machine.specs.Plain.{Plain}
use Rattle.pfx_program.specs.declared.form.OutputForm.{OutputForm}
use Rattle.pfx_program.specs.Script.{Step, at_start, commands_of, course_from, taken}
use Rattle.pfx_program.specs.declared.report.AtRefusal.{AtRefusal}
use Rattle.pfx_program.specs.declared.report.Report.{Report}
use Rattle.pfx_program_script.specs.Records.{Fields, Records}
use Rattle.pfx_program_store.specs.Ending.{EndsBehind}
use Rattle.pfx_store_engine.specs.Failing.{IsStop}
use Rattle.pfx_store_engine.specs.Surviving.{Survives}

-- what ends a run on one thread: there was no memory, or it failed by one of these causes, and its answer names the last command that was printed
abbrev pub IsAloneFault : (Cause → Type 0) → Plain AnyJob → List Step → Fault → Type 0
IsAloneFault may s printed fault.NoMemory = ⊤
IsAloneFault may s printed other = IsStop may (outcome any_kind s (commands_of printed)).number other

-- The records are those that the run takes of the script's, as far as it is known. Of their course from the state on some first steps were printed, whole, and
-- the run ended so after them; the store is left at the state after them, or after some more of the course that were tried. If a disk
-- held these bytes, each image that a stop may leave behind the calls that were made on it is recovered to the outcome of a beginning of
-- the course's commands which holds each one that was printed. An honest disk is shown to have held them, and the images that a stop now
-- may leave on it are recovered so.
pub record IsNotedRun (may : Cause → Type 0) (form : OutputForm) (at_refusal : AtRefusal) (s : Plain AnyJob) (script : Records) (failed : Bool) (was is : Option (List ℕ)) (held : Type 0)
    (image : List ℕ) (made : List Made) (disk : View) (left : Plain AnyJob) (result : Result Report Fault) : Type 0 where
  pub records : List Fields
  pub known : IfSome script.left (λ all. taken at_refusal (at_start form s) all ≡ records)
  pub printed : List Step
  pub rest : List Step
  pub course : (course_from (script.place + 1) (at_start form s) records).steps ≡ printed ++ rest
  pub ends : EndsBehind (IsAloneFault may s) printed rest (course_from (script.place + 1) (at_start form s) records) failed was is result
  pub tried : List Step
  pub back : List Step
  pub untold : rest ≡ tried ++ back
  pub state : left ≡ outcome any_kind s (commands_of (printed ++ tried))
  pub kept : held → (now : List ℕ) → Left image (acts_of made) now
      → Survives any_kind s (commands_of (printed ++ rest)) (length (commands_of printed)) now
  pub premise : IsHonest disk → held
  pub on_disk : IsHonest disk → (now : List ℕ) → disk.now now
      → Survives any_kind s (commands_of (printed ++ rest)) (length (commands_of printed)) now
