-- New weights in a state: why their set doesn't come into force, and the state in which it has.
use Rattle.std.specs.Prelude.{ℕ, ◌+◌, ◌*◌, ◌==◌, nat_le, if◌then◌else◌, max, List, length, Option, Some, None}
use Rattle.pfx_weights.specs.Sets.{FilledSet}
use Rattle.pfx_weights.specs.Tests.{set_fault, set_of}
use Rattle.pfx_weights.specs.declared.faults.SetFault.{SetFault}
use Rattle.pfx_weights.specs.declared.faults.SetFault.TheVariants.{NoTasks, TooManyTasks, BadWorkers, BadWeight, HyperperiodTooLarge, Overload, NoMemory}
use Rattle.pfx_machine.specs.Faults.{no_memory}
use Rattle.pfx_columns.specs.Ledgers.{Ledger, start}
use Rattle.pfx_columns.specs.Levels.{unlevel}
use Rattle.pfx_machine.specs.Plain.{Plain, whole}
use Rattle.pfx_machine.specs.declared.faults.MachineFault.{MachineFault}
use Rattle.pfx_machine.specs.declared.faults.MachineFault.TheVariants.{WrongCount, NotLevel, NoSet, SegmentTooSmall}

-- the shortest segment in which the longest batch of m workers has room, and the record of n new weights
abbrev pub least_for : ℕ → ℕ → ℕ
least_for m n = max (41 + 2096 * m) (27 + 8 * n)

-- the refusal that names a task whose lag isn't zero, or what follows
abbrev pub level_or : Option ℕ → Option MachineFault → Option MachineFault
level_or (Some x) rest = Some (NotLevel x)
level_or None rest = rest

-- the machine's refusal for that of a set
abbrev pub fault_of : SetFault → MachineFault
fault_of NoTasks = NoSet NoTasks
fault_of TooManyTasks = NoSet TooManyTasks
fault_of BadWorkers = NoSet BadWorkers
fault_of (BadWeight task) = NoSet (BadWeight task)
fault_of (HyperperiodTooLarge task) = NoSet (HyperperiodTooLarge task)
fault_of Overload = NoSet Overload
fault_of NoMemory = no_memory

-- the refusal of a set, or what follows
abbrev pub set_or : Option SetFault → Option MachineFault → Option MachineFault
set_or (Some f) rest = Some (fault_of f)
set_or None rest = rest

-- the refusal of segments that are too short
abbrev pub size_fault : ℕ → ℕ → Option MachineFault
size_fault segment least = if nat_le least segment then None else Some (SegmentTooSmall least)

-- the first test that fails: a weight for each real task, every lag zero, a set, and a segment that is long enough
unfoldable pub new_fault : Ledger → ℕ → ℕ → List (ℕ × ℕ) → Option MachineFault
new_fault g segment m weights =
    if length weights == g.set.real
    then level_or (unlevel g) (set_or (set_fault m weights) (size_fault segment (least_for m g.set.real)))
    else Some WrongCount

-- why new weights are refused in a state; none if their set may come into force
abbrev pub reweigh_fault : {J : Type 0} → Plain J → ℕ → List (ℕ × ℕ) → Option MachineFault
reweigh_fault s m weights = new_fault s.ledger s.segment m weights

-- a set that was found, or another
abbrev pub found_or : FilledSet → Option FilledSet → FilledSet
found_or s None = s
found_or s (Some t) = t

-- the set of m workers and these weights; if they are none, the one that is in force
abbrev pub new_set : FilledSet → ℕ → List (ℕ × ℕ) → FilledSet
new_set s m weights = found_or s (set_of m weights)

-- the state in which a set has come into force
abbrev pub renewed : {J : Type 0} → Plain J → FilledSet → Plain J
renewed s set = record { number = s.number + 1; from = whole s; ledger = start set; jobs = s.jobs; segment = s.segment }
