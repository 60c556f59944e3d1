-- What a script's run over a front leaves.
use Rattle.std.specs.Prelude.{◌≡◌, ℕ, ◌+◌, ◌++◌, Bool, List, [], length, Option, Result, IfSome}
use Rattle.pfx_disk.specs.Disk.{View, IsHonest}
use Rattle.pfx_program_store.specs.Ending.{EndsBehind}
use Rattle.pfx_store_engine.specs.Surviving.{Survives}
use Rattle.pfx_fault.specs.declared.refusals.Fault.{Fault}
use Rattle.pfx_fault.specs.declared.refusals.Fault.TheVariants as fault
use Rattle.pfx_kinds.specs.declared.any.AnyJob.{AnyJob}
use Rattle.pfx_machine.specs.Plain.{Plain}
use Rattle.pfx_program.specs.declared.form.OutputForm.{OutputForm}
use Rattle.pfx_program.specs.Script.{Step, at_start, commands_of, course_from, taken}
use Rattle.pfx_program.specs.declared.report.AtRefusal.{AtRefusal}
use Rattle.pfx_program.specs.declared.report.Report.{Report}
use Rattle.pfx_program_script.specs.Records.{Fields, Records}
use Rattle.pfx_front_engine.specs.Asking.{MayEndRun}
use Rattle.pfx_kinds.specs.AnyKind.{any_kind}

-- what ends a run over a front: no thread was there, and nothing was printed, or the front ended it
abbrev pub IsServedFault : List Step → Fault → Type 0
IsServedFault printed fault.NoThread = printed ≡ []
IsServedFault printed other = MayEndRun other

-- The records are those that the run takes of the script's, as far as it is known. Of their course from the state on some first steps were printed, whole, and
-- the run ended so after them. Each image that a stop now may leave is recovered to the outcome of a beginning of the course's
-- commands which holds each one that was printed, if the disk is honest.
pub record IsServedRun (form : OutputForm) (at_refusal : AtRefusal) (s : Plain AnyJob) (script : Records) (failed : Bool) (was is : Option (List ℕ)) (disk : View)
    (result : Result Report Fault) : Type 0 where
  pub records : List Fields
  pub known : IfSome script.left (λ all. taken at_refusal (at_start form s) all ≡ records)
  pub printed : List Step
  pub rest : List Step
  pub course : (course_from (script.place + 1) (at_start form s) records).steps ≡ printed ++ rest
  pub ends : EndsBehind IsServedFault printed rest (course_from (script.place + 1) (at_start form s) records) failed was is result
  pub kept : IsHonest disk → (image : List ℕ) → disk.now image → Survives any_kind s (commands_of (printed ++ rest)) (length (commands_of printed)) image
