-- A state's bytes are read as that state, and no other bytes are.
use Rattle.std.specs.Prelude.{◌≡◌, ◌≢◌, ℕ, zero, suc, ◌+◌, ◌-◌, ◌*◌, ◌^◌, ◌<◌, ◌≤◌, ◌&&◌, if◌then◌else◌, Bool, true, false, List, [], ◌∷◌, ◌++◌, length, take, drop, slice_index, slice_index_or, slice_get, Option, Some, None, Result, Ok, Err, MatchResult, refl}
use Rattle.std.proofs.Common.{sym, ◌∙◌, ap, ap₂, subst, arith, append_assoc, length-append, get_or, eq-eqb}
use Rattle.std.proofs.Math.Seq.{drop-append_seam, drop-append-add, take-append_seam}
use Rattle.std.proofs.lemmas.List.{take_more, take_all}
use Rattle.std.proofs.lemmas.Bool.{cond-true, cond-false, ne_eqb, false_from_ne_true}
use Rattle.std.proofs.lemmas.Option.{slice_get-get_or, none-some}
use Rattle.std.specs.Str.{bytes_eq}
use Rattle.byteorder.specs.Endian.{little_bytes, little_number}
use Rattle.byteorder.specs.Numbers.{little_number-reads_back}
use Rattle.pfx_weights.specs.Sets.{FilledSet, IsFilled, IsOfItsTasks}
use Rattle.pfx_columns.specs.Ledgers.{Ledger, IsLedger, ledger_at, total}
use Rattle.pfx_columns.proofs.Shown.{alloc_within}
use Rattle.pfx_jobs.specs.Kind.{Kind, Laws}
use Rattle.pfx_jobs.proofs.Codings.{bytes_eq-same, bytes_eq-true}
use Rattle.pfx_machine.specs.Plain.{Plain, whole, IsState}
use Rattle.pfx_checkpoint.specs.Spelling.{job_bytes, task_bytes, front_bytes, state_bytes, place_of}
use Rattle.pfx_machine.specs.Fitting.{fits}
use Rattle.pfx_checkpoint.specs.Found.{number_at, allocs_at, job_at, jobs_at, plain_at, read_state, Reads}
use Rattle.pfx_checkpoint.specs.declared.faults.CheckpointFault.{CheckpointFault}
use Rattle.pfx_checkpoint.specs.declared.faults.CheckpointFault.TheVariants.{Damaged, NoMemory}
use Rattle.pfx_machine.proofs.Fits.{Fitting, fits_of, fitting, state_fits, and_true, and_parts}
use Rattle.pfx_checkpoint.proofs.Fronts.{length-front, length-eight, front_split, front_begins, place_in}

-- what is read

pub read_is : {J : Type 0} (K : Kind J) (from segment : ℕ) (set : FilledSet) (bytes : List ℕ) (s : Plain J) → s ≡ plain_at K from segment set bytes → Fitting s → bytes ≡ state_bytes K s → read_state K from segment set bytes ≡ Some s
unfolding read_state
read_is K from segment set bytes s is h spelled =
    let fit : fits (plain_at K from segment set bytes) ≡ true = subst (λ t. fits t ≡ true) is (fits_of s h) in
    let same : bytes_eq bytes (state_bytes K (plain_at K from segment set bytes)) ≡ true = bytes_eq-same _ _ (spelled ∙ ap (state_bytes K) is) in
    cond-true _ _ _ (and_true _ _ fit same) ∙ ap Some (sym is)

pub read_none : {J : Type 0} (K : Kind J) (from segment : ℕ) (set : FilledSet) (bytes : List ℕ) →
    (Fitting (plain_at K from segment set bytes) → bytes ≢ state_bytes K (plain_at K from segment set bytes)) → read_state K from segment set bytes ≡ None
unfolding read_state
read_none K from segment set bytes h =
    cond-false _ _ _ (false_from_ne_true _ (λ all.
    let parts = and_parts _ _ all in
    h (fitting (plain_at K from segment set bytes) parts.0) (bytes_eq-true _ _ parts.1)))

some_is : {A : Type 0} (x y : A) → Some x ≡ Some y → x ≡ y
some_is x y e = ap (from x) e
  where
    from : {A : Type 0} → A → Option A → A
    from d None = d
    from d (Some z) = z

read_by : {J : Type 0} (K : Kind J) (t s : Plain J) (bytes : List ℕ) (b : Bool) → (if b then Some t else None) ≡ Some s → (b ≡ true) × (t ≡ s)
read_by K t s bytes true e = (refl, some_is t s e)
read_by K t s bytes false e = absurd (none-some s e)

length-allocs_at : (n x : ℕ) (bytes : List ℕ) → length (allocs_at n x bytes) ≡ x
length-allocs_at n zero bytes = refl
length-allocs_at n (suc x) bytes =
    let before = length-allocs_at n x bytes in
    length-append (allocs_at n x bytes) (number_at (place_of n x) bytes ∷ []) ∙ omega arith

length-jobs_at : {J : Type 0} (K : Kind J) (x : ℕ) (bytes : List ℕ) → length (jobs_at K x bytes) ≡ x
length-jobs_at K zero bytes = refl
length-jobs_at K (suc x) bytes =
    let before = length-jobs_at K x bytes in
    length-append (jobs_at K x bytes) (job_at K (16 + 137 * x + 8) bytes ∷ []) ∙ omega arith

pub allocs_long : (n x : ℕ) (bytes : List ℕ) → length (allocs_at n x bytes) ≡ x
allocs_long n x bytes = length-allocs_at n x bytes

pub jobs_long : {J : Type 0} (K : Kind J) (x : ℕ) (bytes : List ℕ) → length (jobs_at K x bytes) ≡ x
jobs_long K x bytes = length-jobs_at K x bytes

-- a state that fits, of a set, is one
pub is_state : {J : Type 0} (K : Kind J) (from segment : ℕ) (set : FilledSet) (bytes : List ℕ) → IsOfItsTasks set → IsFilled set → Fitting (plain_at K from segment set bytes) → IsState (plain_at K from segment set bytes)
is_state K from segment set bytes of filled h = record {
  number = h.number;
  slot = h.slot;
  set = of;
  ledger = record { set = filled; slot = (let a = h.slot in omega (arith, a)); length = length-allocs_at set.real (length set.weights) bytes; fair = h.fair; sum = h.sum };
  jobs = length-jobs_at K set.real bytes;
}

pub only_states : {J : Type 0} (K : Kind J) (from segment : ℕ) (set : FilledSet) (bytes : List ℕ) (s : Plain J) → IsOfItsTasks set → IsFilled set → read_state K from segment set bytes ≡ Some s →
    IsState s × (s.ledger.set ≡ set) × (state_bytes K s ≡ bytes)
unfolding read_state
only_states K from segment set bytes s of filled h =
    let t = plain_at K from segment set bytes in
    let by = read_by K t s bytes (fits t && bytes_eq bytes (state_bytes K t)) h in
    let parts = and_parts _ _ by.0 in (
      subst IsState by.1 (is_state K from segment set bytes of filled (fitting t parts.0)),
      sym (ap (λ (u : Plain _). u.ledger.set) by.1),
      sym (ap (state_bytes K) by.1) ∙ sym (bytes_eq-true _ _ parts.1),
    )

-- the places of a state's own bytes

pub number_seam : (front rest : List ℕ) (at x : ℕ) → length front ≡ at → x < 256 ^ 8 → number_at at (front ++ (little_bytes 8 x ++ rest)) ≡ x
number_seam front rest at x long small =
    ap (λ n. little_number 8 (drop n (front ++ (little_bytes 8 x ++ rest)))) (sym long)
    ∙ (ap (little_number 8) (drop-append_seam front (little_bytes 8 x ++ rest))
    ∙ little_number-reads_back 8 x rest small)

alloc_small : {J : Type 0} (s : Plain J) (x : ℕ) → IsState s → x < total s.ledger → slice_index_or s.ledger.allocs x 0 < 256 ^ 8
alloc_small s x h within =
    let few = alloc_within s.ledger.set s.ledger.slot s.ledger.allocs x h.ledger.set h.ledger.fair within in
    let slot = h.ledger.slot in
    omega arith

-- the bytes from task x on
task_seam : {J : Type 0} (K : Kind J) (s : Plain J) (x : ℕ) → x < total s.ledger → (rest : List ℕ) × (state_bytes K s ≡ front_bytes K s x ++ (task_bytes K s x ++ rest))
unfolding state_bytes
task_seam K s x within =
    let more : x + 1 + (total s.ledger - (x + 1)) ≡ total s.ledger = omega arith in
    let split = front_split K s x (total s.ledger - (x + 1)) in
    (split.0, ap (front_bytes K s) (sym more) ∙ split.1)

alloc_back : {J : Type 0} (K : Kind J) (L : Laws K) (s : Plain J) (x : ℕ) → IsState s → x < total s.ledger →
    number_at (place_of s.ledger.set.real x) (state_bytes K s) ≡ slice_index_or s.ledger.allocs x 0
alloc_back K L s x h within =
    let a = slice_index_or s.ledger.allocs x 0 in
    let seam = task_seam K s x within in
    let long : length (front_bytes K s x) ≡ place_of s.ledger.set.real x = length-front K L s x ∙ ap (λ n. place_of n x) h.jobs in
    ap (number_at (place_of s.ledger.set.real x)) (seam.1 ∙ ap (λ t. front_bytes K s x ++ t) (append_assoc (little_bytes 8 a) (job_bytes K (slice_get s.jobs x)) seam.0))
    ∙ number_seam (front_bytes K s x) (job_bytes K (slice_get s.jobs x) ++ seam.0) (place_of s.ledger.set.real x) a long (alloc_small s x h within)

allocs_back : {J : Type 0} (K : Kind J) (L : Laws K) (s : Plain J) (x : ℕ) → IsState s → x ≤ total s.ledger →
    allocs_at s.ledger.set.real x (state_bytes K s) ≡ take x s.ledger.allocs
allocs_back K L s zero h within = refl
allocs_back K L s (suc x) h within =
    let next : suc x ≡ x + 1 = omega arith in
    let long = h.ledger.length in
    ap₂ (λ xs y. xs ++ y ∷ []) (allocs_back K L s x h (omega arith)) (alloc_back K L s x h (omega arith))
    ∙ (sym (take_more s.ledger.allocs x 0 (omega arith)) ∙ ap (λ n. take n s.ledger.allocs) (sym next))

pub flag_of : (front rest : List ℕ) (at : ℕ) → length front ≡ at → slice_index (front ++ rest) at ≡ slice_index rest 0
flag_of [] rest at long = ap (slice_index rest) (sym long)
flag_of (x ∷ front) rest zero long = absurd (omega arith)
flag_of (x ∷ front) rest (suc at) long = flag_of front rest at (omega arith)

-- the flag and the job behind the number
job_seam : {J : Type 0} (K : Kind J) (L : Laws K) (front : List ℕ) (o : Option J) (rest : List ℕ) (at : ℕ) → length front ≡ at → job_at K at (front ++ (job_bytes K (Some o) ++ rest)) ≡ o
job_seam K L front None rest at long =
    let bytes = front ++ (job_bytes K (Some None) ++ rest) in
    let flag : slice_index bytes at ≡ 0 = flag_of front (job_bytes K (Some None) ++ rest) at long in
    cond-true _ _ _ (eq-eqb _ _ flag)
job_seam K L front (Some s) rest at long =
    let bytes = front ++ (job_bytes K (Some (Some s)) ++ rest) in
    let flag : slice_index bytes at ≡ 1 = flag_of front (job_bytes K (Some (Some s)) ++ rest) at long in
    let behind : drop (at + 1) bytes ≡ K.spelling s ++ rest = ap (λ n. drop (n + 1) bytes) (sym long) ∙ drop-append-add front (job_bytes K (Some (Some s)) ++ rest) 1 in
    let body : take 128 (drop (at + 1) bytes) ≡ K.spelling s = ap (take 128) behind ∙ (ap (λ n. take n (K.spelling s ++ rest)) (sym (L.long s)) ∙ take-append_seam (K.spelling s) rest) in
    cond-false _ _ _ (ne_eqb _ _ (λ (e : slice_index bytes at ≡ 0). omega arith)) ∙ (ap K.decoded body ∙ L.round_trip s)

job_back : {J : Type 0} (K : Kind J) (L : Laws K) (s : Plain J) (x : ℕ) (o : Option J) → IsState s → x < length s.jobs → slice_get s.jobs x ≡ Some o →
    job_at K (16 + 137 * x + 8) (state_bytes K s) ≡ o
job_back K L s x o h within is =
    let a = little_bytes 8 (slice_index_or s.ledger.allocs x 0) in
    let few = h.ledger.set.front in
    let jobs = h.jobs in
    let seam = task_seam K s x (omega arith) in
    let front = front_bytes K s x in
    let long : length (front ++ a) ≡ 16 + 137 * x + 8 =
    (let one = length-front K L s x in let two = length-eight (slice_index_or s.ledger.allocs x 0) in let at = place_in (length s.jobs) x (omega arith) in length-append front a ∙ omega arith) in
    ap (job_at K (16 + 137 * x + 8))
    (seam.1 ∙ (ap (λ p. front ++ ((a ++ job_bytes K p) ++ seam.0)) is
    ∙ (ap (λ t. front ++ t) (append_assoc a (job_bytes K (Some o)) seam.0) ∙ sym (append_assoc front a (job_bytes K (Some o) ++ seam.0)))))
    ∙ job_seam K L (front ++ a) o seam.0 (16 + 137 * x + 8) long

jobs_back : {J : Type 0} (K : Kind J) (L : Laws K) (s : Plain J) (x : ℕ) → IsState s → x ≤ length s.jobs → jobs_at K x (state_bytes K s) ≡ take x s.jobs
jobs_back K L s zero h within = refl
jobs_back K L s (suc x) h within =
    let next : suc x ≡ x + 1 = omega arith in
    let at = slice_get-get_or s.jobs x None (omega arith) in
    ap₂ (λ xs y. xs ++ y ∷ []) (jobs_back K L s x h (omega arith)) (job_back K L s x (get_or s.jobs x None) h (omega arith) at)
    ∙ (sym (take_more s.jobs x None (omega arith)) ∙ ap (λ n. take n s.jobs) (sym next))

pub bytes_begin : {J : Type 0} (K : Kind J) (s : Plain J) → (rest : List ℕ) × (state_bytes K s ≡ little_bytes 8 s.number ++ (little_bytes 8 s.ledger.slot ++ rest))
unfolding state_bytes
bytes_begin K s = front_begins K s (total s.ledger)

-- a state's own bytes are read as it
pub plain_back : {J : Type 0} (K : Kind J) (L : Laws K) (s : Plain J) → IsState s → s ≡ plain_at K s.from s.segment s.ledger.set (state_bytes K s)
plain_back K L s h =
    let bytes = bytes_begin K s in
    let n = h.number in
    let t = h.ledger.slot in
    let number : number_at 0 (state_bytes K s) ≡ s.number = ap (number_at 0) bytes.1 ∙ number_seam [] (little_bytes 8 s.ledger.slot ++ bytes.0) 0 s.number refl (omega arith) in
    let slot : number_at 8 (state_bytes K s) ≡ s.ledger.slot = ap (number_at 8) bytes.1 ∙ number_seam (little_bytes 8 s.number) bytes.0 8 s.ledger.slot (length-eight s.number) (omega arith) in
    let allocs : allocs_at s.ledger.set.real (length s.ledger.set.weights) (state_bytes K s) ≡ s.ledger.allocs =
    allocs_back K L s (total s.ledger) h (omega arith) ∙ take_all (total s.ledger) s.ledger.allocs (let long = h.ledger.length in omega arith) in
    let jobs : jobs_at K s.ledger.set.real (state_bytes K s) ≡ s.jobs =
    ap (λ k. jobs_at K k (state_bytes K s)) (sym h.jobs) ∙ (jobs_back K L s (length s.jobs) h (omega arith) ∙ take_all (length s.jobs) s.jobs (omega arith)) in
    sym (λ i. record { number = number i; from = s.from; ledger = record { set = s.ledger.set; slot = slot i; allocs = allocs i }; jobs = jobs i; segment = s.segment })

pub frozen_read : {J : Type 0} (K : Kind J) (L : Laws K) (s : Plain J) → IsState s → read_state K s.from s.segment s.ledger.set (state_bytes K s) ≡ Some s
frozen_read K L s h = read_is K s.from s.segment s.ledger.set (state_bytes K s) s (plain_back K L s h) (state_fits s h) refl

-- what the reader's tests say

pub none_number : {J : Type 0} (K : Kind J) (from segment : ℕ) (set : FilledSet) (bytes : List ℕ) (n : ℕ) → n ≡ number_at 0 bytes → 2 ^ 48 ≤ n → read_state K from segment set bytes ≡ None
none_number K from segment set bytes n is above = read_none K from segment set bytes (λ h e. let below = h.number in omega arith)

pub none_slot : {J : Type 0} (K : Kind J) (from segment : ℕ) (set : FilledSet) (bytes : List ℕ) (t : ℕ) → t ≡ number_at 8 bytes → 2 ^ 40 ≤ from + t → read_state K from segment set bytes ≡ None
none_slot K from segment set bytes t is above = read_none K from segment set bytes (λ h e. let below = h.slot in omega arith)

same_ledger : {J : Type 0} (K : Kind J) (from segment : ℕ) (set : FilledSet) (bytes : List ℕ) (t : ℕ) (allocs : List ℕ) → t ≡ number_at 8 bytes → allocs ≡ allocs_at set.real (length set.weights) bytes →
    ledger_at set t allocs ≡ (plain_at K from segment set bytes).ledger
same_ledger K from segment set bytes t allocs slot is = λ i. record { set = set; slot = slot i; allocs = is i }

pub reads_fault : {J : Type 0} (K : Kind J) (from segment : ℕ) (set : FilledSet) (bytes : List ℕ) (t : ℕ) (allocs : List ℕ) (f : CheckpointFault) → IsOfItsTasks set → IsFilled set → t ≡ number_at 8 bytes →
    allocs ≡ allocs_at set.real (length set.weights) bytes → (f ≡ Damaged → IsLedger (ledger_at set t allocs) → ⊥) → Reads (read_state K from segment set bytes) (Err f)
reads_fault K from segment set bytes t allocs Damaged of filled slot is h =
    read_none K from segment set bytes (λ fit e. h refl (subst IsLedger (sym (same_ledger K from segment set bytes t allocs slot is)) (is_state K from segment set bytes of filled fit).ledger))
reads_fault K from segment set bytes t allocs NoMemory of filled slot is h = tt

-- the state of the parts that were read is the one that stands at the places
pub parts_are : {J : Type 0} (K : Kind J) (from segment : ℕ) (set : FilledSet) (bytes : List ℕ) (s : Plain J) (n t : ℕ) (allocs : List ℕ) (jobs : List (Option J)) (g : Ledger) →
    n ≡ number_at 0 bytes → t ≡ number_at 8 bytes → allocs ≡ allocs_at set.real (length set.weights) bytes → jobs ≡ jobs_at K set.real bytes → g ≡ ledger_at set t allocs →
    s.number ≡ n → s.ledger ≡ g → s.jobs ≡ jobs → s.from ≡ from → s.segment ≡ segment → s ≡ plain_at K from segment set bytes
parts_are K from segment set bytes s n t allocs jobs g ns ts xs js gs sn sl sj sf ss =
    let number = sn ∙ ns in
    let ledger = sl ∙ (gs ∙ same_ledger K from segment set bytes t allocs ts xs) in
    let all = sj ∙ js in
    λ i. record { number = number i; from = sf i; ledger = ledger i; jobs = all i; segment = ss i }

pub reads_compared : {J : Type 0} (K : Kind J) (from segment : ℕ) (set : FilledSet) (bytes : List ℕ) (s : Plain J) (r : Result (Plain J) CheckpointFault) → s ≡ plain_at K from segment set bytes → s.number < 2 ^ 48 → whole s < 2 ^ 40 → IsLedger s.ledger →
    MatchResult r (λ t. (t ≡ s) × (bytes ≡ state_bytes K s)) (λ f. f ≡ Damaged → bytes ≢ state_bytes K s) → Reads (read_state K from segment set bytes) r
reads_compared K from segment set bytes s (Ok t) is number below ledger h =
    read_is K from segment set bytes s is (record { number = number; slot = below; fair = ledger.fair; sum = ledger.sum }) h.1 ∙ ap Some (sym h.0)
reads_compared K from segment set bytes s (Err Damaged) is number below ledger h = read_none K from segment set bytes (λ fit e. h refl (e ∙ sym (ap (state_bytes K) is)))
reads_compared K from segment set bytes s (Err NoMemory) is number below ledger h = tt

pub read_segment : {J : Type 0} (K : Kind J) (from segment : ℕ) (set : FilledSet) (bytes : List ℕ) (s : Plain J) → read_state K from segment set bytes ≡ Some s → s.segment ≡ segment
unfolding read_state
read_segment K from segment set bytes s h =
    let t = plain_at K from segment set bytes in
    let by = read_by K t s bytes (fits t && bytes_eq bytes (state_bytes K t)) h in
    sym (ap (λ (u : Plain _). u.segment) by.1)
