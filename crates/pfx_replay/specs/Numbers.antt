-- A ledger from its numbers.
use Rattle.std.specs.Prelude.{ℕ, List}
use Rattle.pfx_columns.specs.Ledgers.{Ledger, ledger_at}

-- the ledger of so many workers, real tasks and slots of a hyperperiod, of these weights, slot and allocations
abbrev pub numbers_ledger : ℕ → ℕ → ℕ → List (ℕ × ℕ) → ℕ → List ℕ → Ledger
numbers_ledger workers real hyper weights slot allocations =
    ledger_at (record { workers = workers; real = real; hyper = hyper; weights = weights }) slot allocations
