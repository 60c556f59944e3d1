-- Tests of a state's numbers, and that the ledger is one.
use Rattle.std.specs.Prelude.{ℕ, zero, suc, ◌+◌, ◌*◌, ◌^◌, ◌==◌, ◌&&◌, nat_lt, Bool, true, sum}
use Rattle.pfx_columns.specs.Ledgers.{Ledger, Task, task, total}
use Rattle.pfx_machine.specs.Plain.{Plain, whole}

-- a task's lag at a slot lies strictly between minus one and one
abbrev pub is_fair_at : ℕ → Task → Bool
is_fair_at t v = nat_lt (v.p * v.alloc) (v.e * t + v.p) && nat_lt (v.e * t) (v.p * v.alloc + v.p)

-- the lags of the first n tasks do
abbrev pub are_fair : Ledger → ℕ → Bool
are_fair g zero = true
are_fair g (suc n) = are_fair g n && is_fair_at g.slot (task g n)

-- the number and the slot are below their limits, every lag is in range, and the allocations sum to workers times slot
unfoldable pub fits : {J : Type 0} → Plain J → Bool
fits s = ((nat_lt s.number (2 ^ 48) && nat_lt (whole s) (2 ^ 40)) && are_fair s.ledger (total s.ledger)) &&
    (sum s.ledger.allocs == s.ledger.set.workers * s.ledger.slot)
