-- All faults of a set are one list.
use Rattle.std.proofs.Common.{◌≡◌, ℕ, zero, suc, ◌<◌, List, [], ◌∷◌, ◌++◌, length, refl, sym, ap, ap₂, subst, ◌∙◌, Some, None, inl, inr, arith}
use Rattle.std.proofs.lemmas.Bool.{le-ltb, cases_lt}
use Rattle.std.proofs.lemmas.List.{get_or_append_left}
use Rattle.std.specs.Prelude.{Option, Bool, true, false, ◌&&◌, nat_lt, nat_le, if◌then◌else◌, slice_index}
use Rattle.std.proofs.Math.Seq.{get_or-append_seam}
use Rattle.pfx_weights.specs.Sets.{FilledSet, Accepts, Refuses}
use Rattle.pfx_weights.specs.declared.faults.SetFault.{SetFault}
use Rattle.pfx_weights.specs.declared.faults.SetFault.TheVariants as setfault
use Rattle.pfx_weights.proofs.Refusals.{one_by, none_by}
use Rattle.pfx_store_header.specs.Headers.{IsSegmentSize, least_segment, longest_segment}
use Rattle.pfx_fault.specs.declared.refusals.Fault.{Fault}
use Rattle.pfx_fault.specs.declared.refusals.Fault.TheVariants as fault
use Rattle.pfx_choice_refusals.specs.Faults.{fault_of_set}
use Rattle.pfx_program_check.specs.Faults.{Tried, AreFaults, AreAllFaults, IsTaken, IsRefusedBy, segment_faults, tried_of, told, mended, upto}
use Rattle.pfx_program_check.specs.Laws.{IsFirst}
use Rattle.pfx_program_check.proofs.Going.{length-upto}

taken_or_not : (t : Tried) (why : SetFault) → IsTaken t → IsRefusedBy t why → ⊥
taken_or_not t why taken refused = refused.1 (none_by t.workers t.tasks taken.0 why taken.1 refused.0)

pub faults_are_one : (o : Option Tried) (fs gs : List Fault) → AreFaults o fs → AreFaults o gs → fs ≡ gs
faults_are_one None fs gs h k = h ∙ sym k
faults_are_one (Some t) [] [] h k = refl
faults_are_one (Some t) [] (g ∷ gs) h k = absurd (taken_or_not t k.0 h k.1)
faults_are_one (Some t) (f ∷ fs) [] h k = absurd (taken_or_not t h.0 k h.1)
faults_are_one (Some t) (f ∷ fs) (g ∷ gs) h k =
    let same : h.0 ≡ k.0 = one_by t.workers t.tasks h.0 k.0 h.1.1 k.1.1 h.1.0 k.1.0 in
    let first : f ≡ g = h.2 ∙ ap (told t) same ∙ sym k.2 in
    let rest : fs ≡ gs = faults_are_one (mended t k.0) fs gs (subst (λ (why : SetFault). AreFaults (mended t why) fs) same h.3) k.3 in
    ap₂ (λ (x : Fault) (xs : List Fault). x ∷ xs) first rest

pub all_are_one : (m : ℕ) (tasks : List (ℕ × ℕ)) (segment : ℕ) (fs gs : List Fault) → AreAllFaults m tasks segment fs → AreAllFaults m tasks segment gs → fs ≡ gs
all_are_one m tasks segment fs gs h k =
    h.2 ∙ ap (λ (l : List Fault). l ++ segment_faults m segment) (faults_are_one (Some (tried_of m tasks)) h.0 k.0 h.1 k.1) ∙ sym k.2

-- ---- what is said first

index_last : (n x : ℕ) → x ≡ n → slice_index (upto n ++ n ∷ []) x ≡ x
index_last n x same =
    let at : length (upto n) ≡ x = length-upto n ∙ sym same in
    subst (λ (i : ℕ). slice_index (upto n ++ n ∷ []) i ≡ i) at (get_or-append_seam (upto n) n [] 0 ∙ sym (length-upto n))

pub index-upto : (n x : ℕ) → x < n → slice_index (upto n) x ≡ x
index-upto zero x less = absurd (omega (arith, less))
index-upto (suc n) x less = elim (cases_lt x n) [
  | inl below ↦ get_or_append_left (upto n) (n ∷ []) 0 x (omega (arith, below, length-upto n)) ∙ index-upto n x below
  | inr not_below ↦ index_last n x (omega (arith, less, not_below))
]

told_first : (m : ℕ) (tasks : List (ℕ × ℕ)) (why : SetFault) → Refuses m tasks why → told (tried_of m tasks) why ≡ fault_of_set why
told_first m tasks setfault.NoTasks h = refl
told_first m tasks setfault.TooManyTasks h = refl
told_first m tasks setfault.BadWorkers h = refl
told_first m tasks (setfault.BadWeight x) h = ap fault.BadWeight (index-upto (length tasks) x h.2.within)
told_first m tasks (setfault.HyperperiodTooLarge x) h = ap fault.HyperperiodTooLarge (index-upto (length tasks) x h.3.within)
told_first m tasks setfault.Overload h = refl
told_first m tasks setfault.NoMemory h = refl

first_by : (m : ℕ) (tasks : List (ℕ × ℕ)) (segment : ℕ) (f : Fault) (fs gs : List Fault) → AreFaults (Some (tried_of m tasks)) gs → f ∷ fs ≡ gs ++ segment_faults m segment → IsFirst m tasks segment f fs
first_by m tasks segment f fs [] h e = inr (h.0, h.1, sym e)
first_by m tasks segment f fs (g ∷ gs) h e =
    let same : f ≡ g = cc in
    inl (h.0, h.1.0, same ∙ h.2 ∙ told_first m tasks h.0 h.1.0)

pub first_is : (m : ℕ) (tasks : List (ℕ × ℕ)) (segment : ℕ) (f : Fault) (fs : List Fault) → AreAllFaults m tasks segment (f ∷ fs) → IsFirst m tasks segment f fs
first_is m tasks segment f fs h = first_by m tasks segment f fs h.0 h.1 h.2

-- ---- no fault

by_tests : (a b c d : Bool) (p q : Fault) → c ≡ false → d ≡ false → (if (a && b) && c then p ∷ [] else (if d then q ∷ [] else [])) ≡ []
by_tests true true c d p q h k = cc
by_tests true false c d p q h k = cc
by_tests false b c d p q h k = cc

within_limits : (m segment : ℕ) → IsSegmentSize m segment → segment_faults m segment ≡ []
within_limits m segment h =
    by_tests (nat_lt 0 m) (nat_le m 64) (nat_lt segment (least_segment m)) (nat_lt longest_segment segment) (fault.SegmentTooSmall (least_segment m)) fault.SegmentTooLarge
    (le-ltb segment (least_segment m) h.0) (le-ltb longest_segment segment h.1)

pub none_of_store : (m : ℕ) (tasks : List (ℕ × ℕ)) (segment : ℕ) (s : FilledSet) → Accepts m tasks s → IsSegmentSize m segment → AreAllFaults m tasks segment []
none_of_store m tasks segment s accepted size = ([], (s, accepted), sym (within_limits m segment size))
