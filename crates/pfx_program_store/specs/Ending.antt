-- How a script's run ends.
use Rattle.std.specs.Prelude.{◌≡◌, ℕ, ◌++◌, Bool, true, List, [], Option, Some, None, Result, Ok, Err}
use Rattle.std.specs.Io.KnownBytes.{Appends}
use Rattle.pfx_fault.specs.declared.refusals.Fault.{Fault}
use Rattle.pfx_fault.specs.declared.refusals.Fault.TheVariants as fault
use Rattle.pfx_program.specs.Running.{first_text}
use Rattle.pfx_program.specs.Script.{Course, Step, text_of}
use Rattle.pfx_program.specs.Reports.{IsReport}
use Rattle.pfx_program.specs.declared.report.Report.{Report}

-- How a run ends after the steps of its course that it printed. The whole course was printed, and reported, up to its end or to a record without form; or the
-- script's reading failed; or the writer failed, and took a beginning of the next step's text; or the engine ended the run, with a fault
-- that it may have behind these steps.
abbrev pub EndsBehind : (List Step → Fault → Type 0) → List Step → List Step → Course → Bool → Option (List ℕ) → Option (List ℕ) → Result Report Fault → Type 0
EndsBehind may printed rest course failed was is (Ok report) = (course.ends_at ≡ None) × (rest ≡ []) × Appends was is (text_of printed) × IsReport course report
EndsBehind may printed rest course failed was is (Err (fault.BadScript at)) = (course.ends_at ≡ Some at) × (rest ≡ []) × Appends was is (text_of printed)
EndsBehind may printed rest course failed was is (Err fault.InputFailed) = (failed ≡ true) × Appends was is (text_of printed)
EndsBehind may printed rest course failed was is (Err fault.OutputFailed) =
    (front back : List ℕ) × (first_text rest ≡ front ++ back) × Appends was is (text_of printed ++ front)
EndsBehind may printed rest course failed was is (Err other) = may printed other × Appends was is (text_of printed)
