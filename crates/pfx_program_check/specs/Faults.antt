-- All that is wrong with a set: what is said of it, and what would be said next, were that mended.
use Rattle.std.specs.Prelude.{codes, ◌≡◌, ◌≢◌, ℕ, zero, suc, ◌==◌, ◌&&◌, nat_lt, nat_le, Bool, if◌then◌else◌, List, [], ◌∷◌, ◌++◌, length, take, slice_index}
use Rattle.std.specs.Prelude.{remove, Option, Some, None}
use Rattle.pfx_weights.specs.Sets.{FilledSet, Accepts, Refuses}
use Rattle.pfx_weights.specs.declared.faults.SetFault.{SetFault}
use Rattle.pfx_weights.specs.declared.faults.SetFault.TheVariants as setfault
use Rattle.pfx_fault.specs.declared.refusals.Fault.{Fault}
use Rattle.pfx_fault.specs.declared.refusals.Fault.TheVariants as fault
use Rattle.pfx_fault.specs.Line.{fault_text}
use Rattle.pfx_store_header.specs.Headers.{least_segment, longest_segment}
use Rattle.pfx_choice_refusals.specs.Faults.{fault_of_set}

-- a set that is tried: its workers and tasks, and the number that each of these has in the set file
pub record Tried : Type 0 where
  pub workers : ℕ
  pub numbers : List ℕ
  pub tasks : List (ℕ × ℕ)

-- 0, 1 and so on below n
abbrev pub upto : ℕ → List ℕ
upto zero = []
upto (suc n) = upto n ++ n ∷ []

-- these tasks, numbered in their order
abbrev pub tried_of : ℕ → List (ℕ × ℕ) → Tried
tried_of m tasks = record { workers = m; numbers = upto (length tasks); tasks = tasks }

abbrev pub IsTaken : Tried → Type 0
IsTaken t = (s : FilledSet) × Accepts t.workers t.tasks s

abbrev pub IsRefusedBy : Tried → SetFault → Type 0
IsRefusedBy t why = Refuses t.workers t.tasks why × (why ≢ setfault.NoMemory)

-- what is said of it: a task goes by its number in the file
abbrev pub told : Tried → SetFault → Fault
told t (setfault.BadWeight x) = fault.BadWeight (slice_index t.numbers x)
told t (setfault.HyperperiodTooLarge x) = fault.HyperperiodTooLarge (slice_index t.numbers x)
told t other = fault_of_set other

abbrev pub without : Tried → ℕ → Tried
without t x = record t { numbers = remove t.numbers x; tasks = remove t.tasks x }

-- the other tasks, if there are any
abbrev pub others : Tried → ℕ → Option Tried
others t x = if length t.tasks == 1 then None else Some (without t x)

-- What is tried next: a task of half a slot where there is none, the first 1,024 if there are more, 64 workers for a number out
-- of its limits, the others if a task is named. Behind an overload nothing is.
abbrev pub mended : Tried → SetFault → Option Tried
mended t setfault.NoTasks = Some (tried_of t.workers ((1, 2) ∷ []))
mended t setfault.TooManyTasks = Some (record t { numbers = take 1024 t.numbers; tasks = take 1024 t.tasks })
mended t setfault.BadWorkers = Some (record t { workers = 64 })
mended t (setfault.BadWeight x) = others t x
mended t (setfault.HyperperiodTooLarge x) = others t x
mended t setfault.Overload = None
mended t setfault.NoMemory = None

-- these are the faults of what is tried
abbrev pub AreFaults : Option Tried → List Fault → Type 0
AreFaults None fs = fs ≡ []
AreFaults (Some t) [] = IsTaken t
AreFaults (Some t) (f ∷ fs) = (why : SetFault) × IsRefusedBy t why × (f ≡ told t why) × AreFaults (mended t why) fs

-- a segment is below the least of m workers, if they are workers, or above the longest
abbrev pub is_short : ℕ → ℕ → Bool
is_short m segment = (nat_lt 0 m && nat_le m 64) && nat_lt segment (least_segment m)

abbrev pub segment_faults : ℕ → ℕ → List Fault
segment_faults m segment =
    if is_short m segment then fault.SegmentTooSmall (least_segment m) ∷ []
    else (if nat_lt longest_segment segment then fault.SegmentTooLarge ∷ [] else [])

-- and with a segment of this length
abbrev pub AreAllFaults : ℕ → List (ℕ × ℕ) → ℕ → List Fault → Type 0
AreAllFaults m tasks segment all = (fs : List Fault) × AreFaults (Some (tried_of m tasks)) fs × (all ≡ fs ++ segment_faults m segment)

-- the line of a further fault, as `pfx: also 17 Overload`
abbrev pub also_line : Fault → List ℕ
also_line f = codes "pfx: also " ++ fault_text f ++ codes "\n"

abbrev pub also_lines : List Fault → List ℕ
also_lines [] = []
also_lines (f ∷ fs) = also_line f ++ also_lines fs
