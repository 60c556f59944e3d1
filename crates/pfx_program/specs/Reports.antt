-- What a run of a script counts.
use Rattle.std.specs.Prelude.{◌≡◌, ℕ, ◌+◌, List, [], ◌∷◌, length, Option, Some, None}
use Rattle.std.specs.Option.{option_or}
use Rattle.pfx_program.specs.Script.{Course, commands_of}
use Rattle.pfx_program.specs.declared.report.RefusedRecord.{RefusedRecord}
use Rattle.pfx_program.specs.declared.report.Report.{Report}

abbrev pub first_of : List RefusedRecord → Option RefusedRecord
first_of [] = None
first_of (x ∷ refusals) = Some x

-- so many more commands were accepted, and these records refused
pub record IsAdded (old : Report) (commands : ℕ) (refusals : List RefusedRecord) (new : Report) : Type 0 where
  pub accepted : new.accepted ≡ old.accepted + commands
  pub refused : new.refused ≡ old.refused + length refusals
  pub first : new.first ≡ option_or old.first (first_of refusals)

-- a course's commands and its refused records, the first of them
pub record IsReport (course : Course) (report : Report) : Type 0 where
  pub accepted : report.accepted ≡ length (commands_of course.steps)
  pub refused : report.refused ≡ length course.refusals
  pub first : report.first ≡ first_of course.refusals
