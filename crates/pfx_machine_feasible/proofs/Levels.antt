-- At each whole number of hyperperiods a ledger is level, so no Reweigh is refused there as not level.
use Rattle.std.proofs.Common.{◌≡◌, ◌≢◌, ℕ, ◌+◌, ◌*◌, ◌/◌, ◌%◌, ◌^◌, ◌==◌, nat_lt, nat_le, length, if◌then◌else◌, Bool, true, false, List, Option, Some, None, arith, ap, sym, ◌∙◌, subst}
use Rattle.std.specs.Prelude.{⊤}
use Rattle.std.proofs.Math.Nat.{div-add-mod, mul_assoc, mul_comm}
use Rattle.pfx_weights.specs.Tests.{set_fault}
use Rattle.pfx_weights.specs.declared.faults.SetFault.{SetFault}
use Rattle.pfx_weights.specs.declared.faults.SetFault.TheVariants.{NoTasks, TooManyTasks, BadWorkers, BadWeight, HyperperiodTooLarge, Overload, NoMemory}
use Rattle.pfx_columns.specs.Ledgers.{Ledger, IsLedger, task}
use Rattle.pfx_columns.specs.Levels.{IsLevel, unlevel}
use Rattle.pfx_columns.proofs.Levelling.{ints_of, level_none}
use Rattle.pfx_columns.proofs.Steps.{fair_low, fair_high}
use Rattle.pfx_jobs.specs.Kind.{Kind}
use Rattle.pfx_machine.specs.Plain.{Plain, whole, IsState}
use Rattle.pfx_machine.specs.Refusals.{refusal}
use Rattle.pfx_machine.specs.Reweighing.{fault_of, least_for, level_or, set_or, size_fault, new_fault, reweigh_fault}
use Rattle.pfx_machine.specs.declared.command.Command.TheVariants.{Reweigh}
use Rattle.pfx_machine.specs.declared.faults.MachineFault.{MachineFault}
use Rattle.pfx_machine.specs.declared.faults.MachineFault.TheVariants.{NumberLimit, WrongCount, NotLevel, SegmentTooSmall}
use Rattle.pfx_machine_feasible.proofs.Closed.{share, level}

at_multiple : (g : Ledger) → IsLedger g → (k : ℕ) → g.slot ≡ k * g.set.hyper → IsLevel g
at_multiple g h k is x l =
    let v = task g x in
    let L = g.set.hyper in
    let d : v.p * (L / v.p) + L % v.p ≡ L = div-add-mod L v.p in
    let fits : L % v.p ≡ 0 = h.set.periods x (0, 0) l in
    let period : v.p * (L / v.p) ≡ L = omega (arith, d, fits) in
    let times : v.p * (L / v.p * k) ≡ g.slot = sym (mul_assoc v.p (L / v.p) k) ∙ ap (λ z. z * k) period ∙ mul_comm L k ∙ sym is in
    let had = share v.e v.p (L / v.p * k) g.slot v.alloc times (fair_low v.e v.p v.alloc g.slot (h.fair x l)) (fair_high v.e v.p v.alloc g.slot (h.fair x l)) in
    ints_of v.e v.p v.alloc g.slot (level v.e v.p (L / v.p * k) g.slot v.alloc times had)

pub at_period : {J : Type 0} (s : Plain J) → IsState s → (k : ℕ) → whole s ≡ s.from + k * s.ledger.set.hyper → IsLevel s.ledger
at_period s h k is = at_multiple s.ledger h.ledger k (omega (arith, is))

-- refusals other than of a ledger that isn't level

abbrev IsOther : Option MachineFault → Type 0
IsOther (Some (NotLevel x)) = ⊥
IsOther o = ⊤

set_other : (f : SetFault) → IsOther (Some (fault_of f))
set_other NoTasks = tt
set_other TooManyTasks = tt
set_other BadWorkers = tt
set_other (BadWeight task) = tt
set_other (HyperperiodTooLarge task) = tt
set_other Overload = tt
set_other NoMemory = tt

size_other : (b : Bool) (least : ℕ) → IsOther (if b then None else Some (SegmentTooSmall least))
size_other true least = tt
size_other false least = tt

sets_other : (o : Option SetFault) (segment least : ℕ) → IsOther (set_or o (size_fault segment least))
sets_other None segment least = size_other (nat_le least segment) least
sets_other (Some f) segment least = set_other f

count_other : (b : Bool) (o : Option MachineFault) → IsOther o → IsOther (if b then o else Some WrongCount)
count_other true o other = other
count_other false o other = tt

limit_other : (b : Bool) (o : Option MachineFault) → IsOther o → IsOther (if b then o else Some NumberLimit)
limit_other true o other = other
limit_other false o other = tt

new_other : (g : Ledger) (segment m : ℕ) (weights : List (ℕ × ℕ)) → unlevel g ≡ None → IsOther (new_fault g segment m weights)
unfolding new_fault
new_other g segment m weights none =
    let rest = set_or (set_fault m weights) (size_fault segment (least_for m g.set.real)) in
    count_other (length weights == g.set.real) (level_or (unlevel g) rest)
    (subst (λ o. IsOther (level_or o rest)) (sym none) (sets_other (set_fault m weights) segment (least_for m g.set.real)))

level_other : {J : Type 0} (K : Kind J) (s : Plain J) → IsLevel s.ledger → (m : ℕ) (weights : List (ℕ × ℕ)) → IsOther (refusal K s (Reweigh m weights))
level_other K s is m weights = limit_other (nat_lt (s.number + 1) (2 ^ 48)) (reweigh_fault s m weights) (new_other s.ledger s.segment m weights (level_none s.ledger is))

pub passed_at_period : {J : Type 0} (K : Kind J) (s : Plain J) → IsState s → (k : ℕ) → whole s ≡ s.from + k * s.ledger.set.hyper
    → (m : ℕ) (weights : List (ℕ × ℕ)) (x : ℕ) → refusal K s (Reweigh m weights) ≢ Some (NotLevel x)
passed_at_period K s h k is m weights x refused = subst IsOther refused (level_other K s (at_period s h k is) m weights)
