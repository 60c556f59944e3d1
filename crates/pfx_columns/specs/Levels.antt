-- Ledgers at which every task has had just what it was due.
use Rattle.std.specs.Prelude.{◌≡◌, ℕ, zero, suc, ◌+◌, ◌*◌, ◌<◌, ◌==◌, if◌then◌else◌, pos, Bool, Option, Some, None}
use Rattle.pfx_columns.specs.Lags.{lag_of}
use Rattle.pfx_columns.specs.Ledgers.{Ledger, Task, total, task}

-- every lag is zero
abbrev pub IsLevel : Ledger → Type 0
IsLevel g = (x : ℕ) → x < total g → lag_of (task g x).e (task g x).p (task g x).alloc g.slot ≡ pos 0

-- a task's lag is zero at a slot
abbrev pub is_even : ℕ → Task → Bool
is_even t v = (v.p * v.alloc) == (v.e * t)

-- the first of the n tasks from x on whose lag isn't zero
abbrev pub unlevel_from : Ledger → ℕ → ℕ → Option ℕ
unlevel_from g zero x = None
unlevel_from g (suc n) x = if is_even g.slot (task g x) then unlevel_from g n (x + 1) else Some x

-- the first task whose lag isn't zero
unfoldable pub unlevel : Ledger → Option ℕ
unlevel g = unlevel_from g (total g) 0
