-- What a run of a script leaves on a disk.
use Rattle.std.specs.Prelude.{◌≡◌, ℕ, ◌+◌, ◌++◌, List, length, Option}
use Rattle.std.specs.Io.KnownBytes.{Appends}
use Rattle.pfx_disk.specs.Disk.{View}
use Rattle.pfx_kinds.specs.declared.any.AnyJob.{AnyJob}
use Rattle.pfx_machine.specs.Plain.{Plain}
use Rattle.pfx_program.specs.declared.form.OutputForm.{OutputForm}
use Rattle.pfx_program.specs.Script.{Step, at_start, commands_of, course_from, text_of}
use Rattle.pfx_program_script.specs.Records.{Fields, Records}
use Rattle.pfx_store_engine.specs.Surviving.{Survives}
use Rattle.pfx_kinds.specs.AnyKind.{any_kind}

-- Of a script's course from a state on some first steps were printed, whole, and of the next one a part at most. Each image that
-- a stop now may leave is recovered to the outcome of a beginning of the course's commands which holds each one that was printed.
pub record IsKeptAsPrinted (form : OutputForm) (s : Plain AnyJob) (script : Records) (records : List Fields) (was is : Option (List ℕ)) (disk : View) : Type 0 where
  pub printed : List Step
  pub rest : List Step
  pub course : (course_from (script.place + 1) (at_start form s) records).steps ≡ printed ++ rest
  pub part : List ℕ
  pub text : Appends was is (text_of printed ++ part)
  pub survive : (image : List ℕ) → disk.now image → Survives any_kind s (commands_of (printed ++ rest)) (length (commands_of printed)) image
