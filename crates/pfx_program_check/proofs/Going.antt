-- From one fault to the next.
use Rattle.std.proofs.Common.{◌≡◌, ℕ, zero, suc, ◌+◌, ◌<◌, List, [], ◌∷◌, ◌++◌, length, take, refl, sym, ap, ap₂, subst, ◌∙◌, Some, None, ◌-◌, append_assoc, append-nil, length-append, add-one, arith}
use Rattle.std.proofs.lemmas.List.{take_all, take-append-le, length-take-le}
use Rattle.std.proofs.lemmas.Bool.{lt-ltb, ltb-false, le-leb}
use Rattle.std.specs.Prelude.{Option, Bool, true, false, ◌&&◌, nat_lt, nat_le, if◌then◌else◌}
use Rattle.pfx_weights.specs.Sets.{IsTaskCount, IsWorkerCount}
use Rattle.pfx_weights.specs.declared.faults.SetFault.{SetFault}
use Rattle.pfx_weights.specs.declared.faults.SetFault.TheVariants as setfault
use Rattle.pfx_store_header.specs.Headers.{IsSegmentSize, least_segment, longest_segment}
use Rattle.pfx_fault.specs.declared.refusals.Fault.{Fault}
use Rattle.pfx_fault.specs.declared.refusals.Fault.TheVariants as fault
use Rattle.pfx_program_check.specs.Faults.{Tried, AreFaults, AreAllFaults, IsTaken, IsRefusedBy, segment_faults, tried_of, told, mended, upto}
use Rattle.pfx_program_check.specs.Going.{IsFollowedBy}

-- a fault, and those of what is tried behind it
pub goes_on : (t : Tried) (why : SetFault) (next : Tried) (before now all : List Fault) → IsRefusedBy t why → mended t why ≡ Some next → now ≡ before ++ told t why ∷ [] → IsFollowedBy next now all → IsFollowedBy t before all
goes_on t why next before now all refused is grown h = (
  told t why ∷ h.0,
  (why, refused, refl, subst (λ (o : Option Tried). AreFaults o h.0) (sym is) h.1),
  h.2 ∙ ap (λ (l : List Fault). l ++ h.0) grown ∙ append_assoc before (told t why ∷ []) h.0,
)

-- a fault behind which nothing is tried
pub ends_on : (t : Tried) (why : SetFault) (before now : List Fault) → IsRefusedBy t why → mended t why ≡ None → now ≡ before ++ told t why ∷ [] → IsFollowedBy t before now
ends_on t why before now refused is grown = (told t why ∷ [], (why, refused, refl, subst (λ (o : Option Tried). AreFaults o []) (sym is) refl), grown)

-- no fault
pub ends_taken : (t : Tried) (before : List Fault) → IsTaken t → IsFollowedBy t before before
ends_taken t before taken = ([], taken, sym (append-nil before))

-- If the counts are right, a refusal that names no task is the last one.
pub names_no_task : (t : Tried) (why : SetFault) → IsWorkerCount t.workers → IsTaskCount (length t.tasks) → IsRefusedBy t why
    → ((x : ℕ) → why ≡ setfault.BadWeight x → ⊥) → ((x : ℕ) → why ≡ setfault.HyperperiodTooLarge x → ⊥) → mended t why ≡ None
names_no_task t setfault.NoTasks m n refused a b = absurd (omega (arith, n.0, refused.0))
names_no_task t setfault.TooManyTasks m n refused a b = absurd (omega (arith, n.1, refused.0))
names_no_task t setfault.BadWorkers m n refused a b = absurd (refused.0.1 m)
names_no_task t (setfault.BadWeight x) m n refused a b = absurd (a x refl)
names_no_task t (setfault.HyperperiodTooLarge x) m n refused a b = absurd (b x refl)
names_no_task t setfault.Overload m n refused a b = refl
names_no_task t setfault.NoMemory m n refused a b = absurd (refused.1 refl)

pub upto_more : (x : ℕ) → upto (x + 1) ≡ upto x ++ x ∷ []
upto_more x = rw add-one refl

pub length-upto : (n : ℕ) → length (upto n) ≡ n
length-upto zero = refl
length-upto (suc n) = length-append (upto n) (n ∷ []) ∙ ap (λ (k : ℕ). k + 1) (length-upto n) ∙ add-one n

pub numbered_as : (items tasks : List (ℕ × ℕ)) (numbers : List ℕ) (x : ℕ) → items ≡ tasks → numbers ≡ upto x → x ≡ length tasks → length numbers ≡ length items
numbered_as items tasks numbers x same is all = ap length is ∙ length-upto x ∙ all ∙ ap length (sym same)

-- the first k of n numbers are those below k
pub numbers_cut : (d n k : ℕ) → n ≡ d + k → take k (upto n) ≡ upto k
numbers_cut zero n k e =
    let same : k ≡ n = omega (arith, e) in
    subst (λ (m : ℕ). take k (upto m) ≡ upto k) same (take_all k (upto k) (omega (arith, length-upto k)))
numbers_cut (suc d) zero k e = absurd (omega (arith, e))
numbers_cut (suc d) (suc n) k e = take-append-le k (upto n) (n ∷ []) (omega (arith, length-upto n, e)) ∙ numbers_cut d n k (omega (arith, e))

-- the first 1,024 tasks, if there are more, numbered as they are
pub first_tasks : (m : ℕ) (tasks first : List (ℕ × ℕ)) → 1024 < length tasks → first ≡ take 1024 tasks → mended (tried_of m tasks) setfault.TooManyTasks ≡ Some (tried_of m first)
first_tasks m tasks first more is =
    let number : length first ≡ 1024 = ap length is ∙ length-take-le 1024 tasks (omega (arith, more)) in
    let numbers : take 1024 (upto (length tasks)) ≡ upto (length first) = numbers_cut (length tasks - 1024) (length tasks) 1024 (omega (arith, more)) ∙ ap upto (sym number) in
    ap₂ (λ (ns : List ℕ) (ts : List (ℕ × ℕ)). Some (record { workers = m; numbers = ns; tasks = ts })) numbers (sym is)

-- no fault, so the segment's length is within its limits
by_tests : (a b c d : Bool) (p q : Fault) → (if (a && b) && c then p ∷ [] else (if d then q ∷ [] else [])) ≡ [] → a ≡ true → b ≡ true → (c ≡ false) × (d ≡ false)
by_tests true true true d p q none h k = cc
by_tests true true false true p q none h k = cc
by_tests true true false false p q none h k = (refl, refl)
by_tests true false c d p q none h k = cc
by_tests false b c d p q none h k = cc

none_fits : (m segment : ℕ) → IsWorkerCount m → segment_faults m segment ≡ [] → IsSegmentSize m segment
none_fits m segment workers none =
    let tests = by_tests (nat_lt 0 m) (nat_le m 64) (nat_lt segment (least_segment m)) (nat_lt longest_segment segment) (fault.SegmentTooSmall (least_segment m)) fault.SegmentTooLarge none (lt-ltb 0 m workers.0) (le-leb m 64 workers.1) in
    (ltb-false segment (least_segment m) tests.0, ltb-false longest_segment segment tests.1)

no_fault : (m segment : ℕ) (fs : List Fault) → [] ≡ fs ++ segment_faults m segment → segment_faults m segment ≡ []
no_fault m segment [] e = sym e
no_fault m segment (f ∷ fs) e = cc

taken_if_none : (m : ℕ) (tasks : List (ℕ × ℕ)) (fs : List Fault) → AreFaults (Some (tried_of m tasks)) fs → fs ≡ [] → IsTaken (tried_of m tasks)
taken_if_none m tasks [] h e = h
taken_if_none m tasks (f ∷ fs) h e = cc

-- the faults of the set are none either
none_of_set : (fs gs : List Fault) → [] ≡ fs ++ gs → fs ≡ []
none_of_set [] gs e = refl
none_of_set (f ∷ fs) gs e = cc

pub faultless_is_taken : (m : ℕ) (tasks : List (ℕ × ℕ)) (segment : ℕ) → AreAllFaults m tasks segment [] → IsTaken (tried_of m tasks)
faultless_is_taken m tasks segment h = taken_if_none m tasks h.0 h.1 (none_of_set h.0 (segment_faults m segment) h.2)

pub fits : (m : ℕ) (tasks : List (ℕ × ℕ)) (segment : ℕ) → AreAllFaults m tasks segment [] → IsWorkerCount m × IsSegmentSize m segment
fits m tasks segment h =
    let workers = (faultless_is_taken m tasks segment h).1.workers in
    (workers, none_fits m segment workers (no_fault m segment h.0 h.2))
