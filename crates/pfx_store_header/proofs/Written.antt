-- What is written is read, and what is read was written.
use Rattle.std.specs.Prelude.{◌≡◌, ℕ, ◌+◌, ◌*◌, ◌<◌, ◌≤◌, List, ◌∷◌, ◌++◌, length, take, drop, Ok, All, refl}
use Rattle.std.proofs.Common.{sym, ◌∙◌, ap, ap₂, subst, arith, length-append}
use Rattle.std.proofs.Math.Seq.{take-append_seam}
use Rattle.std.proofs.lemmas.Bool.{and_from, lt-ltb, le-leb}
use Rattle.std.proofs.lemmas.List.{take-append-drop, drop-drop, drop_more, length-drop}
use Rattle.std.proofs.lemmas.List.Elements.{All-drop}
use Rattle.byteorder.specs.Endian.{little_bytes, little_number}
use Rattle.byteorder.specs.Numbers.{little_number-reads_back}
use Rattle.pfx_weights.specs.Bytes.{weights_bytes, weights_of}
use Rattle.pfx_weights.specs.Sets.{FilledSet, Accepts}
use Rattle.pfx_weights.specs.Tests.{set_of}
use Rattle.pfx_weights.proofs.Tests.{sets_ok}
use Rattle.pfx_weights.proofs.Written.{length-weights, weights_back, small_weights, number_split, weights_split}
use Rattle.pfx_store_header.specs.Headers.{Header, IsHeader, IsSegmentSize, real_tasks, front_bytes, header_bytes, header_len, version_at, workers_at, real_at, segment_at, tasks_at, read_header}
use Rattle.pfx_store_header.proofs.Meanings.{IsRead, read_is, is_read, accepted_has, accepted_again, read_accepted, read_real, size_to}

length-front : (v : ℕ) (h : Header) → length (front_bytes v h) ≡ 17
unfolding front_bytes
length-front v h = refl

header_long_by : (v : ℕ) (h : Header) → h.set.real ≡ length (real_tasks h.set) → length (header_bytes v h) ≡ header_len h.set
unfolding header_bytes
header_long_by v h real =
    let front = length-front v h in
    let tasks = length-weights (real_tasks h.set) in
    length-append (front_bytes v h) (weights_bytes (real_tasks h.set)) ∙ omega arith

pub header_long : (v : ℕ) (h : Header) → IsHeader h → length (header_bytes v h) ≡ header_len h.set
header_long v h is = header_long_by v h (accepted_has _ _ _ is.accepted).real

-- what is written is read

written_is : (v : ℕ) (h : Header) (rest : List ℕ) → IsHeader h → IsRead v (header_bytes v h ++ rest) h
unfolding header_bytes front_bytes
written_is v h rest is =
    let s = h.set in
    let a = is.accepted in
    let tasks = real_tasks s in
    let real : s.real ≡ length tasks = (accepted_has _ _ _ a).real in
    let few = a.count in
    let bytes = header_bytes v h ++ rest in
    let behind = weights_bytes tasks ++ rest in
    let count : real_at bytes ≡ s.real = little_number-reads_back 2 s.real (little_bytes 4 h.segment ++ behind) (omega arith) in
    let size : segment_at bytes ≡ h.segment = little_number-reads_back 4 h.segment behind (let most = is.segment.1 in omega arith) in
    let long : length bytes ≡ 17 + length behind = omega arith in
    let body : length behind ≡ 8 * length tasks + length rest = (let all = length-weights tasks in length-append (weights_bytes tasks) rest ∙ omega arith) in
    let some : 0 < real_at bytes = omega arith in
    let most : real_at bytes ≤ 1024 = omega arith in
    let given : tasks_at bytes ≡ tasks = ap (λ n. weights_of n behind) (count ∙ real) ∙ weights_back tasks rest (small_weights s.workers tasks s a) in
    record {
      front = omega arith;
      mark = refl;
      version = refl;
      counts = and_from _ _ (and_from _ _ (lt-ltb _ _ a.workers.0) (le-leb _ _ a.workers.1))
          (and_from _ _ (lt-ltb 0 (real_at bytes) some) (le-leb (real_at bytes) 1024 most));
      long = omega arith;
      set = ap (set_of s.workers) given ∙ sets_ok s.workers tasks s a;
      segment = size;
      limits = size_to _ _ is.segment;
    }

pub written_read : (v : ℕ) (h : Header) (rest : List ℕ) → IsHeader h → read_header v (header_bytes v h ++ rest) ≡ Ok h
written_read v h rest is = is_read v (header_bytes v h ++ rest) h (written_is v h rest is)

pub accepted_header : (m : ℕ) (tasks : List (ℕ × ℕ)) (h : Header) → Accepts m tasks h.set → IsSegmentSize m h.segment → IsHeader h
accepted_header m tasks h a size = record {
  accepted = accepted_again m tasks h.set a;
  segment = subst (λ n. IsSegmentSize n h.segment) (sym (accepted_has m tasks h.set a).workers) size;
}

-- bytes that are read were written

abbrev AreBytes : List ℕ → Type 0
AreBytes xs = All (λ b. b < 256) xs

-- all the bytes, as what stands in them
front_split : (bytes : List ℕ) → 17 ≤ length bytes → AreBytes bytes →
    bytes ≡ take 9 bytes ++ (version_at bytes ∷ workers_at bytes ∷ (little_bytes 2 (real_at bytes) ++ (little_bytes 4 (segment_at bytes) ++ drop 17 bytes)))
front_split bytes long small =
    let counts = drop 11 bytes in
    let size = drop 13 bytes in
    let l11 : length counts + 11 ≡ length bytes = (let n = length-drop 11 bytes in omega arith) in
    let l13 : length size + 13 ≡ length bytes = (let n = length-drop 13 bytes in omega arith) in
    let two = number_split 2 counts (omega arith) (All-drop (λ b. b < 256) 11 bytes small) ∙ ap (λ t. little_bytes 2 (real_at bytes) ++ t) (drop-drop 2 11 bytes) in
    let four = number_split 4 size (omega arith) (All-drop (λ b. b < 256) 13 bytes small) ∙ ap (λ t. little_bytes 4 (segment_at bytes) ++ t) (drop-drop 4 13 bytes) in
    sym (take-append-drop 9 bytes)
    ∙ ap (λ t. take 9 bytes ++ t) (drop_more bytes 9 0 (omega arith)
    ∙ ap (λ t. version_at bytes ∷ t) (drop_more bytes 10 0 (omega arith)
    ∙ ap (λ t. workers_at bytes ∷ t) (two ∙ ap (λ t. little_bytes 2 (real_at bytes) ++ t) four)))

read_split : (v : ℕ) (bytes : List ℕ) (h : Header) → AreBytes bytes → IsRead v bytes h → bytes ≡ header_bytes v h ++ drop (header_len h.set) bytes
unfolding header_bytes front_bytes
read_split v bytes h small r =
    let s = h.set in
    let n = real_at bytes in
    let has = accepted_has _ _ _ (read_accepted v bytes h r) in
    let real : n ≡ s.real = sym (read_real v bytes h r) in
    let behind = drop 17 bytes in
    let left : length behind + 17 ≡ length bytes = (let k = length-drop 17 bytes in let f = r.front in omega arith) in
    let end : 17 + 8 * n ≡ header_len s = omega arith in
    let tasks : behind ≡ weights_bytes (real_tasks s) ++ drop (header_len s) bytes =
    weights_split n behind (let all = r.long in omega arith) (All-drop (λ b. b < 256) 17 bytes small)
    ∙ ap₂ (λ ts t. weights_bytes ts ++ t) (sym has.tasks) (drop-drop (8 * n) 17 bytes ∙ ap (λ k. drop k bytes) end) in
    let version = r.version in
    let workers = sym has.workers in
    front_split bytes r.front small
    ∙ (λ i. r.mark i ++ (version i ∷ workers i ∷ (little_bytes 2 (real i) ++ (little_bytes 4 (r.segment i) ++ tasks i))))

pub read_written : (v : ℕ) (bytes : List ℕ) (h : Header) → All (λ b. b < 256) bytes → read_header v bytes ≡ Ok h → take (header_len h.set) bytes ≡ header_bytes v h
read_written v bytes h small is =
    let r = read_is v bytes h is in
    let a = read_accepted v bytes h r in
    let long : length (header_bytes v h) ≡ header_len h.set = (let has = accepted_has _ _ _ a in header_long_by v h (has.real ∙ ap length (sym has.tasks))) in
    ap (λ n. take n bytes) (sym long)
    ∙ (ap (take (length (header_bytes v h))) (read_split v bytes h small r)
    ∙ take-append_seam (header_bytes v h) (drop (header_len h.set) bytes))

-- bytes that begin with a header's are read as it
pub begun_read : (v : ℕ) (bytes : List ℕ) (h : Header) → IsHeader h → take (header_len h.set) bytes ≡ header_bytes v h → read_header v bytes ≡ Ok h
begun_read v bytes h is same =
    let n = header_len h.set in
    let split : header_bytes v h ++ drop n bytes ≡ bytes = ap (λ t. t ++ drop n bytes) (sym same) ∙ take-append-drop n bytes in
    ap (read_header v) (sym split) ∙ written_read v h (drop n bytes) is
