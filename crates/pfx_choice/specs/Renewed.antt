-- Kinds as they are at a slot.
use Rattle.std.specs.Prelude.{◌≡◌, ℕ, ◌<◌, List, length, slice_index_or}
use Rattle.pfx_columns.specs.Ledgers.{Ledger, rank}
use Rattle.pfx_choice.specs.declared.kind.Kind.{Kind}
use Rattle.pfx_choice.specs.Kinds.{IsOf}

-- each kind is that of its first task's string
pub record AreRenewed (g : Ledger) (firsts : List ℕ) (kinds : List Kind) : Type 0 where
  pub long : length kinds ≡ length firsts
  pub at : (k : ℕ) (d : Kind) → k < length firsts → IsOf (rank g (slice_index_or firsts k 0)) (slice_index_or kinds k d).gap (slice_index_or kinds k d).key
