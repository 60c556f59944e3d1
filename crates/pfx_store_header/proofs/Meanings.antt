-- What the tests of a header say.
use Rattle.std.specs.Prelude.{◌≡◌, ◌≢◌, ℕ, zero, suc, ◌+◌, ◌-◌, ◌*◌, ◌≤◌, ◌==◌, nat_le, if◌then◌else◌, Bool, true, false, List, length, take, drop, slice_index, Option, Some, None, Result, Ok, Err, refl}
use Rattle.std.specs.Str.{bytes_eq}
use Rattle.std.proofs.Common.{sym, ◌∙◌, ap, subst, arith, eq-eqb}
use Rattle.std.proofs.Math.Seq.{take-append_seam}
use Rattle.std.proofs.lemmas.Bool.{cond-true, cond-false, and_from, and_parts, le-leb, leb-true, eqb-true, false_from_ne_true}
use Rattle.std.proofs.lemmas.List.{get_or-take}
use Rattle.std.proofs.lemmas.Slice.Eq.{bytes_eq-Decides}
use Rattle.pfx_disk.specs.declared.gates.TheConstants.{GATE_OPEN}
use Rattle.pfx_store_image.specs.Refusals.{Refusal, NotAStore, WrongVersion, IsOfHeader}
use Rattle.pfx_weights.specs.Sets.{FilledSet, Accepts, IsFilled, idle, demand}
use Rattle.pfx_weights.specs.Tests.{set_of}
use Rattle.pfx_weights.proofs.Fills.{filled_set}
use Rattle.pfx_weights.proofs.Tests.{sets_from}
use Rattle.pfx_weights.proofs.Written.{length-weights_of}
use Rattle.pfx_store_header.specs.Headers.{Header, IsHeader, IsSegmentSize, real_tasks, mark, header_len, version_at, workers_at, real_at, segment_at, tasks_at, damaged, is_segment_size, sized, read_tasks, are_counts, read_counts, read_version, is_store, read_header}

pub record IsRead (v : ℕ) (bytes : List ℕ) (h : Header) : Type 0 where
  pub front : 17 ≤ length bytes
  pub mark : take 9 bytes ≡ mark
  pub version : version_at bytes ≡ v
  pub counts : are_counts (workers_at bytes) (real_at bytes) ≡ true
  pub long : 17 + 8 * real_at bytes ≤ length bytes
  pub set : set_of (workers_at bytes) (tasks_at bytes) ≡ Some h.set
  pub segment : segment_at bytes ≡ h.segment
  pub limits : is_segment_size h.set.workers h.segment ≡ true

guard_ok : {A E : Type 0} (b : Bool) (x : Result A E) (e : E) (h : A) → (if b then x else Err e) ≡ Ok h → (b ≡ true) × (x ≡ Ok h)
guard_ok true x e h is = (refl, is)
guard_ok false x e h is = absurd cc

sized_ok : (segment : ℕ) (o : Option FilledSet) (h : Header) → sized segment o ≡ Ok h → (o ≡ Some h.set) × (segment ≡ h.segment) × (is_segment_size h.set.workers h.segment ≡ true)
unfolding sized
sized_ok segment None h is = absurd cc
sized_ok segment (Some s) h is =
    let parts = guard_ok (is_segment_size s.workers segment) (Ok (record { set = s; segment = segment })) damaged h is in
    let same : record { set = s; segment = segment } ≡ h = cc in
    (ap (λ (k : Header). Some k.set) same, ap (λ (k : Header). k.segment) same, sym (ap (λ (k : Header). is_segment_size k.set.workers k.segment) same) ∙ parts.0)

pub read_is : (v : ℕ) (bytes : List ℕ) (h : Header) → read_header v bytes ≡ Ok h → IsRead v bytes h
unfolding read_header read_version read_counts read_tasks
read_is v bytes h is =
    let store = guard_ok (is_store bytes) (read_version v bytes) NotAStore h is in
    let version = guard_ok (version_at bytes == v) (read_counts bytes) (WrongVersion (version_at bytes)) h store.1 in
    let counts = guard_ok (are_counts (workers_at bytes) (real_at bytes)) (read_tasks bytes) damaged h version.1 in
    let tasks = guard_ok (nat_le (17 + 8 * real_at bytes) (length bytes)) (sized (segment_at bytes) (set_of (workers_at bytes) (tasks_at bytes))) NotAStore h counts.1 in
    let set = sized_ok (segment_at bytes) (set_of (workers_at bytes) (tasks_at bytes)) h tasks.1 in
    let front = and_parts _ _ store.0 in
    record {
      front = leb-true _ _ front.0;
      mark = (bytes_eq-Decides (take 9 bytes) mark).0 front.1;
      version = eqb-true _ _ version.0;
      counts = counts.0;
      long = leb-true _ _ tasks.0;
      set = set.0;
      segment = set.1;
      limits = set.2;
    }

pub is_read : (v : ℕ) (bytes : List ℕ) (h : Header) → IsRead v bytes h → read_header v bytes ≡ Ok h
unfolding read_header read_version read_counts read_tasks sized
is_read v bytes h r =
    cond-true _ _ _ (and_from _ _ (le-leb _ _ r.front) ((bytes_eq-Decides (take 9 bytes) mark).1 r.mark))
    ∙ (cond-true _ _ _ (eq-eqb _ _ r.version)
    ∙ (cond-true _ _ _ r.counts
    ∙ (cond-true _ _ _ (le-leb _ _ r.long)
    ∙ (ap (sized (segment_at bytes)) r.set
    ∙ (ap (λ n. sized n (Some h.set)) r.segment
    ∙ cond-true _ _ _ r.limits)))))

-- the set of workers and tasks has these

pub record Has (m : ℕ) (given : List (ℕ × ℕ)) (s : FilledSet) : Type 0 where
  pub workers : s.workers ≡ m
  pub real : s.real ≡ length given
  pub tasks : real_tasks s ≡ given

pub accepted_has : (m : ℕ) (tasks : List (ℕ × ℕ)) (s : FilledSet) → Accepts m tasks s → Has m tasks s
accepted_has m tasks s a =
    record {
      workers = ap (λ (t : FilledSet). t.workers) a.is;
      real = ap (λ (t : FilledSet). t.real) a.is;
      tasks = ap real_tasks a.is ∙ take-append_seam tasks (idle s.hyper (m * s.hyper - demand s.hyper tasks));
    }

pub accepted_again : (m : ℕ) (tasks : List (ℕ × ℕ)) (s : FilledSet) → Accepts m tasks s → Accepts s.workers (real_tasks s) s
accepted_again m tasks s a =
    let has = accepted_has m tasks s a in
    subst (λ n. Accepts n (real_tasks s) s) (sym has.workers) (subst (λ ts. Accepts m ts s) (sym has.tasks) a)

pub accepted_filled : (m : ℕ) (tasks : List (ℕ × ℕ)) (s : FilledSet) → Accepts m tasks s → IsFilled s
accepted_filled m tasks s a = subst IsFilled (sym a.is) (filled_set m s.hyper tasks a.count a.workers a.weights a.hyper a.within a.fits)

-- what is read

pub read_accepted : (v : ℕ) (bytes : List ℕ) (h : Header) → IsRead v bytes h → Accepts (workers_at bytes) (tasks_at bytes) h.set
read_accepted v bytes h r = sets_from (workers_at bytes) (tasks_at bytes) h.set r.set

pub read_real : (v : ℕ) (bytes : List ℕ) (h : Header) → IsRead v bytes h → h.set.real ≡ real_at bytes
read_real v bytes h r = (accepted_has _ _ _ (read_accepted v bytes h r)).real ∙ length-weights_of (real_at bytes) (drop 17 bytes)

pub size_from : (m segment : ℕ) → is_segment_size m segment ≡ true → IsSegmentSize m segment
size_from m segment is = let parts = and_parts _ _ is in (leb-true _ _ parts.0, leb-true _ _ parts.1)

pub size_to : (m segment : ℕ) → IsSegmentSize m segment → is_segment_size m segment ≡ true
size_to m segment h = and_from _ _ (le-leb _ _ h.0) (le-leb _ _ h.1)

pub head_inside : (v : ℕ) (bytes : List ℕ) (h : Header) → read_header v bytes ≡ Ok h → header_len h.set ≤ length bytes
head_inside v bytes h is =
    let r = read_is v bytes h is in
    let real = read_real v bytes h r in
    let long = r.long in
    omega arith

pub read_filled : (v : ℕ) (bytes : List ℕ) (h : Header) → read_header v bytes ≡ Ok h → IsFilled h.set
read_filled v bytes h is = accepted_filled _ _ _ (read_accepted v bytes h (read_is v bytes h is))

pub read_a_header : (v : ℕ) (bytes : List ℕ) (h : Header) → read_header v bytes ≡ Ok h → IsHeader h
read_a_header v bytes h is =
    let r = read_is v bytes h is in
    record { accepted = accepted_again _ _ _ (read_accepted v bytes h r); segment = size_from _ _ r.limits }

-- what is refused

guard_err : {A : Type 0} (P : Refusal → Type 0) (b : Bool) (x : Result A Refusal) (e r : Refusal) → P e → (x ≡ Err r → P r) → (if b then x else Err e) ≡ Err r → P r
guard_err P true x e r here more is = more is
guard_err P false x e r here more is = let same : e ≡ r = cc in subst P same here

sized_err : (segment : ℕ) (o : Option FilledSet) (r : Refusal) → sized segment o ≡ Err r → IsOfHeader r
unfolding sized
sized_err segment None r is = let same : damaged ≡ r = cc in subst IsOfHeader same (refl, refl)
sized_err segment (Some s) r is =
    let made : Result Header Refusal = Ok (record { set = s; segment = segment }) in
    guard_err IsOfHeader (is_segment_size s.workers segment) made damaged r (refl, refl) (λ (e : made ≡ Err r). absurd cc) is

pub refused_of_header : (v : ℕ) (bytes : List ℕ) (r : Refusal) → read_header v bytes ≡ Err r → IsOfHeader r
unfolding read_header read_version read_counts read_tasks
refused_of_header v bytes r is =
    guard_err IsOfHeader (is_store bytes) (read_version v bytes) NotAStore r tt (λ e1.
    guard_err IsOfHeader (version_at bytes == v) (read_counts bytes) (WrongVersion (version_at bytes)) r tt (λ e2.
    guard_err IsOfHeader (are_counts (workers_at bytes) (real_at bytes)) (read_tasks bytes) damaged r (refl, refl) (λ e3.
    guard_err IsOfHeader (nat_le (17 + 8 * real_at bytes) (length bytes)) (sized (segment_at bytes) (set_of (workers_at bytes) (tasks_at bytes))) NotAStore r tt (λ e4.
    sized_err (segment_at bytes) (set_of (workers_at bytes) (tasks_at bytes)) r e4) e3) e2) e1) is

pub closed_no_store : (v : ℕ) (bytes : List ℕ) → slice_index bytes 0 ≢ GATE_OPEN → read_header v bytes ≡ Err NotAStore
unfolding read_header
closed_no_store v bytes closed =
    cond-false (is_store bytes) (read_version v bytes) (Err NotAStore) (false_from_ne_true (is_store bytes) (λ (is : is_store bytes ≡ true).
    let parts = and_parts (nat_le 17 (length bytes)) (bytes_eq (take 9 bytes) mark) is in
    let first : take 9 bytes ≡ mark = (bytes_eq-Decides (take 9 bytes) mark).0 parts.1 in
    closed (sym (get_or-take 9 bytes 0 0 (omega arith)) ∙ ap (λ xs. slice_index xs 0) first)))
