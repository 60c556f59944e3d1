-- What is durable, and how much of it is shown.
use Rattle.std.specs.Prelude.{List}
use Rattle.pfx_record.specs.declared.batch.Batch.{Batch}

-- all durable batches, and those whose board readers see
pub record Published (J : Type 0) : Type 0 where
  pub batches : List (Batch J)
  pub shown : List (Batch J)
