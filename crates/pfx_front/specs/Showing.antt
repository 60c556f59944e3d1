-- What is published of what the store has.
use Rattle.std.specs.Prelude.{◌≡◌, List, ◌++◌, map, Some}
use Rattle.pfx_front_board.specs.Word.{records_of}
use Rattle.pfx_book.specs.declared.note.Note.{Note}
use Rattle.pfx_book.specs.Notes.{records_in}
use Rattle.pfx_record_redo.specs.Applying.{applied}
use Rattle.pfx_jobs.specs.Kind.{Kind}
use Rattle.pfx_machine.specs.Plain.{Plain}
use Rattle.pfx_record.specs.Records.{plain, Recorded}
use Rattle.pfx_record.specs.declared.batch.Batch.{Batch}

module _ {J : Type 0} where
  -- the published batches have all records that the notes say were taken
  abbrev pub AreShown : List (Note J) → List (Batch J) → Type 0
  AreShown notes batches = records_of batches ≡ records_in notes

  -- they have all but this batch's, which was taken last
  abbrev pub IsShownBefore : List (Note J) → List (Batch J) → Batch J → Type 0
  IsShownBefore notes batches last = records_of batches ++ map plain last.records.items ≡ records_in notes

  -- the published batches lead to what the store has, and begin what was taken
  pub record IsShown (K : Kind J) (start : Plain J) (notes : List (Note J)) (batches : List (Batch J)) (s : Plain J) : Type 0 where
    pub rest : List (Recorded J)
    pub begins : records_of batches ++ rest ≡ records_in notes
    pub leads : applied K start (records_of batches) ≡ Some s
