-- The filled set of workers and tasks, and why there is none, as functions.
use Rattle.std.specs.Prelude.{ℕ, zero, suc, ◌+◌, ◌*◌, ◌%◌, ◌^◌, ◌==◌, ◌&&◌, nat_lt, nat_le, if◌then◌else◌, Bool, List, [], ◌∷◌, length, take, Option, Some, None}
use Rattle.std.specs.List.{list_all}
use Rattle.pfx_weights.specs.Sets.{FilledSet, filled, demand}
use Rattle.pfx_weights.specs.declared.faults.SetFault.{SetFault}
use Rattle.pfx_weights.specs.declared.faults.SetFault.TheVariants.{NoTasks, TooManyTasks, BadWorkers, BadWeight, HyperperiodTooLarge, Overload}

-- k is a multiple of each task's period
abbrev pub is_common : List (ℕ × ℕ) → ℕ → Bool
is_common tasks k = list_all (λ w. k % w.1 == 0) tasks

-- the first of the n numbers from k on that is one
abbrev pub first_common : List (ℕ × ℕ) → ℕ → ℕ → Option ℕ
first_common tasks zero k = None
first_common tasks (suc n) k = if is_common tasks k then Some k else first_common tasks n (k + 1)

-- the hyperperiod, if it is within its limit: the first common multiple of the numbers from 1 to 2^20
unfoldable pub hyper_of : List (ℕ × ℕ) → Option ℕ
hyper_of tasks = first_common tasks (2 ^ 20) 1

-- a weight is between none and all of the slots
abbrev pub is_weight : ℕ × ℕ → Bool
is_weight w = nat_lt 0 w.0 && nat_lt w.0 w.1

-- the set, if its tasks have a common multiple within the limit and take no more slots than there are
abbrev pub set_by : ℕ → List (ℕ × ℕ) → Option ℕ → Option FilledSet
set_by m tasks None = None
set_by m tasks (Some l) = if nat_le (demand l tasks) (m * l) then Some (filled m tasks l) else None

-- the set of m workers and these tasks, if they are one
unfoldable pub set_of : ℕ → List (ℕ × ℕ) → Option FilledSet
set_of m tasks =
    if (nat_lt 0 (length tasks) && nat_le (length tasks) 1024) && ((nat_lt 0 m && nat_le m 64) && list_all is_weight tasks)
    then set_by m tasks (hyper_of tasks) else None

-- the first weight, counted from x on, that isn't one
abbrev pub first_bad : List (ℕ × ℕ) → ℕ → Option ℕ
first_bad [] x = None
first_bad (w ∷ tasks) x = if is_weight w then first_bad tasks (x + 1) else Some x

-- x, or what follows, if the tasks have a common multiple within the limit
abbrev pub long_or : Option ℕ → ℕ → Option ℕ → Option ℕ
long_or None x rest = Some x
long_or (Some l) x rest = rest

-- the first of the n tasks from x on with which those up to it have no common multiple within the limit
abbrev pub first_long : List (ℕ × ℕ) → ℕ → ℕ → Option ℕ
first_long tasks zero x = None
first_long tasks (suc n) x = long_or (hyper_of (take (x + 1) tasks)) x (first_long tasks n (x + 1))

-- the fault that names a task, if there is one, else what follows
abbrev pub named : (ℕ → SetFault) → Option ℕ → Option SetFault → Option SetFault
named fault (Some x) rest = Some (fault x)
named fault None rest = rest

-- the tasks take more slots than there are
abbrev pub overload_by : ℕ → List (ℕ × ℕ) → Option ℕ → Option SetFault
overload_by m tasks None = None
overload_by m tasks (Some l) = if nat_le (demand l tasks) (m * l) then None else Some Overload

-- why m workers and these tasks are no set, the first test that fails; none if they are one
unfoldable pub set_fault : ℕ → List (ℕ × ℕ) → Option SetFault
set_fault m tasks =
    if length tasks == 0 then Some NoTasks
    else (if nat_lt 1024 (length tasks) then Some TooManyTasks
    else (if nat_lt 0 m && nat_le m 64 then named BadWeight (first_bad tasks 0) (named HyperperiodTooLarge (first_long tasks (length tasks) 0) (overload_by m tasks (hyper_of tasks)))
    else Some BadWorkers))
