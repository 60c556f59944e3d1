-- Batches in a row: their records, and the number of the last one.
use Rattle.std.specs.Prelude.{ℕ, ◌+◌, List, [], ◌∷◌, ◌++◌, length, map}
use Rattle.pfx_machine.specs.Plain.{Plain}
use Rattle.pfx_record.specs.Records.{plain, Recorded}
use Rattle.pfx_record.specs.declared.batch.Batch.{Batch}

module _ {J : Type 0} where
  -- the records of the batches, in order
  abbrev pub records_of : List (Batch J) → List (Recorded J)
  records_of [] = []
  records_of (b ∷ batches) = map plain b.records.items ++ records_of batches

  -- the number of the last command after the batches, which go on from this state
  abbrev pub last_of : Plain J → List (Batch J) → ℕ
  last_of origin batches = origin.number + length (records_of batches)
