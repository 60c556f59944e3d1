-- A header is read from its own bytes.
use Rattle.std.specs.Prelude.{◌≡◌, ℕ, zero, suc, ◌+◌, ◌-◌, ◌*◌, ◌<◌, ◌≤◌, ◌==◌, ◌&&◌, nat_le, if◌then◌else◌, false, List, ◌∷◌, length, take, drop, Ok, Err, refl}
use Rattle.std.specs.Str.{bytes_eq}
use Rattle.std.proofs.Common.{sym, ◌∙◌, ap, arith, inl, inr}
use Rattle.std.proofs.lemmas.Bool.{cond-false, cases_lt, le-leb, lt-leb, false_from_ne_true, and_parts, leb-true}
use Rattle.std.proofs.lemmas.List.{get_or-take, drop-take, take-take, length-take}
use Rattle.byteorder.specs.Endian.{little_number}
use Rattle.byteorder.specs.Numbers.{little_from-take}
use Rattle.pfx_store_image.specs.Refusals.{NotAStore, WrongVersion}
use Rattle.pfx_weights.specs.Bytes.{weight_of, weights_of}
use Rattle.pfx_weights.specs.Tests.{set_of}
use Rattle.pfx_store_header.specs.Headers.{Header, mark, header_len, version_at, workers_at, real_at, segment_at, tasks_at, damaged, sized, read_tasks, are_counts, read_counts, read_version, read_header}
use Rattle.pfx_store_header.proofs.Meanings.{read_is, read_real}

drop_taken : (i n : ℕ) (xs : List ℕ) → i ≤ n → drop i (take n xs) ≡ take (n - i) (drop i xs)
drop_taken i n xs h =
    let split : n ≡ i + (n - i) = omega arith in
    ap (λ k. drop i (take k xs)) split ∙ drop-take i (n - i) xs

number_taken : (i k n : ℕ) (xs : List ℕ) → i + k ≤ n → little_number k (drop i (take n xs)) ≡ little_number k (drop i xs)
number_taken i k n xs h =
    ap (little_number k) (drop_taken i n xs (omega arith)) ∙ little_from-take 0 k (n - i) (drop i xs) (omega arith)

weight_taken : (n : ℕ) (xs : List ℕ) → 8 ≤ n → weight_of (take n xs) ≡ weight_of xs
weight_taken n xs h =
    let first = little_from-take 0 4 n xs (omega arith) in
    let second = number_taken 4 4 n xs (omega arith) in
    λ i. (first i, second i)

weights_taken : (r n : ℕ) (xs : List ℕ) → 8 * r ≤ n → weights_of r (take n xs) ≡ weights_of r xs
weights_taken zero n xs h = refl
weights_taken (suc r) n xs h =
    let first = weight_taken n xs (omega arith) in
    let rest : weights_of r (drop 8 (take n xs)) ≡ weights_of r (drop 8 xs) = ap (weights_of r) (drop_taken 8 n xs (omega arith)) ∙ weights_taken r (n - 8) (drop 8 xs) (omega arith) in
    λ i. first i ∷ rest i

long_taken : (k n : ℕ) (xs : List ℕ) → k ≤ n → nat_le k (length (take n xs)) ≡ nat_le k (length xs)
long_taken k n xs h =
    let both = length-take n xs in
    elim (cases_lt (length xs) k) [
      | inl less ↦ lt-leb k _ (omega arith) ∙ sym (lt-leb k _ less)
      | inr more ↦ le-leb k _ (omega arith) ∙ sym (le-leb k _ more)
    ]

real_taken : (n : ℕ) (bytes : List ℕ) → 17 ≤ n → real_at (take n bytes) ≡ real_at bytes
real_taken n bytes h = number_taken 11 2 n bytes (omega arith)

workers_taken : (n : ℕ) (bytes : List ℕ) → 17 ≤ n → workers_at (take n bytes) ≡ workers_at bytes
workers_taken n bytes h = get_or-take n bytes 10 0 (omega arith)

body_taken : (n : ℕ) (bytes : List ℕ) → 17 ≤ n → 17 + 8 * real_at bytes ≤ n → read_tasks (take n bytes) ≡ read_tasks bytes
unfolding read_tasks
body_taken n bytes h more =
    let real = real_taken n bytes h in
    let workers = workers_taken n bytes h in
    let segment : segment_at (take n bytes) ≡ segment_at bytes = number_taken 13 4 n bytes (omega arith) in
    let long : nat_le (17 + 8 * real_at (take n bytes)) (length (take n bytes)) ≡ nat_le (17 + 8 * real_at bytes) (length bytes) =
    ap (λ r. nat_le (17 + 8 * r) (length (take n bytes))) real ∙ long_taken (17 + 8 * real_at bytes) n bytes more in
    let tasks : tasks_at (take n bytes) ≡ tasks_at bytes =
    ap (λ r. weights_of r (drop 17 (take n bytes))) real
    ∙ (ap (weights_of (real_at bytes)) (drop_taken 17 n bytes h)
    ∙ weights_taken (real_at bytes) (n - 17) (drop 17 bytes) (omega arith)) in
    λ i. if long i then sized (segment i) (set_of (workers i) (tasks i)) else Err NotAStore

counts_in : (n : ℕ) (bytes : List ℕ) → 17 ≤ n → 17 + 8 * real_at bytes ≤ n → read_counts (take n bytes) ≡ read_counts bytes
unfolding read_counts
counts_in n bytes h more =
    let real = real_taken n bytes h in
    let workers = workers_taken n bytes h in
    let tasks = body_taken n bytes h more in
    λ i. if are_counts (workers i) (real i) then tasks i else Err damaged

-- too many tasks are refused without a look at them
counts_out : (n : ℕ) (bytes : List ℕ) → 17 ≤ n → 1024 < real_at bytes → read_counts (take n bytes) ≡ read_counts bytes
unfolding read_counts
counts_out n bytes h more =
    let real = real_taken n bytes h in
    let many : (b : List ℕ) → 1024 < real_at b → are_counts (workers_at b) (real_at b) ≡ false = λ b c. false_from_ne_true _ (λ is.
    let few : real_at b ≤ 1024 = leb-true _ _ (and_parts _ _ (and_parts _ _ is).1).1 in
    omega arith) in
    cond-false _ _ _ (many (take n bytes) (omega arith)) ∙ sym (cond-false _ _ _ (many bytes more))

header_taken : (v n : ℕ) (bytes : List ℕ) → 17 ≤ n → read_counts (take n bytes) ≡ read_counts bytes → read_header v (take n bytes) ≡ read_header v bytes
unfolding read_header read_version
header_taken v n bytes h counts =
    let long = long_taken 17 n bytes h in
    let front : take 9 (take n bytes) ≡ take 9 bytes = take-take 9 n bytes (omega arith) in
    let version : version_at (take n bytes) ≡ version_at bytes = get_or-take n bytes 9 0 (omega arith) in
    λ i. if long i && bytes_eq (front i) mark then (if version i == v then counts i else Err (WrongVersion (version i))) else Err NotAStore

pub enough : (v n : ℕ) (bytes : List ℕ) → 17 + 8 * 1024 ≤ n → read_header v (take n bytes) ≡ read_header v bytes
enough v n bytes h =
    elim (cases_lt 1024 (real_at bytes)) [
      | inl more ↦ header_taken v n bytes (omega arith) (counts_out n bytes (omega arith) more)
      | inr few ↦ header_taken v n bytes (omega arith) (counts_in n bytes (omega arith) (omega arith))
    ]

taken_alone : (v n : ℕ) (bytes : List ℕ) → 17 ≤ n → 17 + 8 * real_at bytes ≤ n → read_header v (take n bytes) ≡ read_header v bytes
taken_alone v n bytes h more = header_taken v n bytes h (counts_in n bytes h more)

pub alone : (v : ℕ) (bytes other : List ℕ) (h : Header) → read_header v bytes ≡ Ok h → take (header_len h.set) other ≡ take (header_len h.set) bytes → read_header v other ≡ Ok h
alone v bytes other h is same =
    let n = header_len h.set in
    let real : h.set.real ≡ real_at bytes = read_real v bytes h (read_is v bytes h is) in
    let there : real_at other ≡ real_at bytes = sym (real_taken n other (omega arith)) ∙ (ap real_at same ∙ real_taken n bytes (omega arith)) in
    sym (taken_alone v n other (omega arith) (omega arith))
    ∙ (ap (read_header v) same ∙ (taken_alone v n bytes (omega arith) (omega arith) ∙ is))
