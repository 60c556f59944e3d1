-- What the flusher is given to do.
use Rattle.std.specs.Prelude.{◌≡◌, ◌≤◌, ℕ, List, [], ◌∷◌, ◌++◌, map, Bool, vec_capacity}
use Rattle.pfx_disk.specs.Disk.{View}
use Rattle.pfx_jobs.specs.Kind.{Kind}
use Rattle.pfx_machine.specs.Plain.{Plain}
use Rattle.pfx_record.specs.Records.{plain}
use Rattle.pfx_record.specs.declared.batch.Batch.{Batch}
use Rattle.pfx_book.specs.declared.note.Note.{Note}
use Rattle.pfx_book.specs.declared.note.Note.TheVariants.{Took}
use Rattle.pfx_book.specs.Notes.{GoesOn}
use Rattle.pfx_front.specs.Keeping.{InStep}
use Rattle.pfx_front.specs.declared.flusher.Work.{Work}
use Rattle.pfx_front.specs.declared.flusher.Work.TheVariants.{Append, Tend, End}

module _ {J : Type 0} where
  -- a batch that goes on is taken, and noted; else nothing is noted
  abbrev pub Gives : Kind J → Plain J → List (Note J) → List (Note J) → Work J → Type 0
  Gives K start old new (Append b) = (new ≡ old ++ Took b.first b.records ∷ [])
      × GoesOn K start old b.workers b.real b.first (map plain b.records.items) × (16 ≤ vec_capacity b.records)
  Gives K start old new (Tend room) = (new ≡ old) × (room.items ≡ []) × (16 ≤ vec_capacity room)
  Gives K start old new End = new ≡ old

  -- this batch was taken last, and the store has all before it
  pub record IsTaken (K : Kind J) (start : Plain J) (failures clock : ℕ) (notes : List (Note J)) (batch : Batch J)
      (broken : Bool) (s : Plain J) (disk : View) : Type 0 where
    pub before : List (Note J)
    pub noted : notes ≡ before ++ Took batch.first batch.records ∷ []
    pub goes : GoesOn K start before batch.workers batch.real batch.first (map plain batch.records.items)
    pub step : InStep K start failures clock before broken s disk
