-- Records of a frame that are taken over one by one.
use Rattle.std.specs.Prelude.{◌≡◌, ◌≤◌, ◌⊎◌, ℕ, List, length, IsTrue, Some, None}
use Rattle.pfx_record_redo.specs.Applying.{applied}
use Rattle.pfx_jobs.specs.Kind.{Kind}
use Rattle.pfx_machine.specs.Plain as machine
use Rattle.pfx_record.specs.Batches.{all_fit}
use Rattle.pfx_record.specs.Begins.{Begins}
use Rattle.pfx_record.specs.Reading.{AreRecords, StopAt}
use Rattle.pfx_record.specs.Records.{Recorded, records_bytes}
use Rattle.pfx_record.specs.declared.faults.FramePart.{FramePart}
use Rattle.pfx_record.specs.declared.form.Form.{Form}

-- so many records fill the body, and lead from one state to the other
abbrev pub AreTaken : {J : Type 0} → Kind J → Form → List ℕ → ℕ → machine.Plain J → machine.Plain J → Type 0
AreTaken {J} K form body count s t = (read : List (Recorded J)) × AreRecords K form body count read × (applied K s read ≡ Some t)

-- the body isn't filled by so many records, or the first of them aren't right at the state
abbrev pub AreWrong : {J : Type 0} → Kind J → Form → List ℕ → ℕ → machine.Plain J → Type 0
AreWrong {J} K form body count s = ((at : ℕ) × (what : FramePart) × StopAt K form body count at what)
    ⊎ ((read : List (Recorded J)) × IsTrue (all_fit form read) × Begins body (records_bytes K read) × (length read ≤ count)
    × (applied K s read ≡ None))
