-- The head of a frame in the bytes.
use Rattle.std.proofs.Common.{◌≡◌, ◌≤◌, ◌<◌, ℕ, ◌+◌, ◌^◌, ◌&&◌, nat_lt, nat_le, List, ◌∷◌, ◌++◌, length, get_or, drop, arith, length-append}
use Rattle.std.specs.Bool.{IsTrue}
use Rattle.std.proofs.lemmas.Bool.{ltb-true, leb-true}
use Rattle.pfx_record.specs.Begins.{Begins}
use Rattle.pfx_record.specs.Numbers.{number_bytes}
use Rattle.pfx_record.specs.Batches.{counts_fit, head_bytes}
use Rattle.pfx_record.specs.Reading.{IsHead}
use Rattle.pfx_record.proofs.Rising.{both}
use Rattle.pfx_record.proofs.Again.{length-number_bytes}
use Rattle.pfx_record.proofs.Fronts.{begins_left, begins_behind, begins_with, begins_head, begins_tail, begins_cons}
use Rattle.pfx_record.proofs.Spellings.{same_number}

pub length-head : (len first count : ℕ) → length (head_bytes len first count) ≡ 15
length-head len first count = omega (
  arith,
  length-number_bytes 4 len,
  length-number_bytes 8 first,
  length-number_bytes 2 count,
  length-append (number_bytes 4 len) (number_bytes 8 first),
  length-append (number_bytes 4 len ++ number_bytes 8 first) (number_bytes 2 count),
)

pub record Parts (bytes : List ℕ) (len first count : ℕ) : Type 0 where
  pub gate : get_or bytes 0 0 ≡ 195
  pub len_at : Begins (drop 1 bytes) (number_bytes 4 len)
  pub first_at : Begins (drop 5 bytes) (number_bytes 8 first)
  pub count_at : Begins (drop 13 bytes) (number_bytes 2 count)

pub parts_of : (bytes : List ℕ) (len first count : ℕ) → Begins bytes (head_bytes len first count) → Parts bytes len first count
parts_of bytes len first count b =
    let n4 = number_bytes 4 len in
    let n8 = number_bytes 8 first in
    let n2 = number_bytes 2 count in
    let b13 : Begins bytes ((195 ∷ n4) ++ n8) = begins_left bytes ((195 ∷ n4) ++ n8) n2 b in
    let b5 : Begins bytes (195 ∷ n4) = begins_left bytes (195 ∷ n4) n8 b13 in
    record {
      gate = begins_head bytes 195 n4 b5;
      len_at = begins_tail bytes 195 n4 b5;
      first_at = begins_behind 5 bytes (195 ∷ n4) n8 (omega (arith, length-number_bytes 4 len)) b13;
      count_at = begins_behind 13 bytes ((195 ∷ n4) ++ n8) n2 (omega (arith, length-number_bytes 4 len, length-number_bytes 8 first, length-append n4 n8)) b;
    }

pub head_from : (bytes : List ℕ) (len first count : ℕ) → 0 < length bytes → Parts bytes len first count → Begins bytes (head_bytes len first count)
head_from bytes len first count some parts =
    let n4 = number_bytes 4 len in
    let n8 = number_bytes 8 first in
    let n2 = number_bytes 2 count in
    let b5 : Begins bytes (195 ∷ n4) = begins_cons bytes 195 n4 some parts.gate parts.len_at in
    let b13 : Begins bytes ((195 ∷ n4) ++ n8) = begins_with 5 bytes (195 ∷ n4) n8 (omega (arith, length-number_bytes 4 len)) b5 parts.first_at in
    begins_with 13 bytes ((195 ∷ n4) ++ n8) n2 (omega (arith, length-number_bytes 4 len, length-number_bytes 8 first, length-append n4 n8)) b13 parts.count_at

-- what it says of numbers that they are in range
pub record Counts (workers first count : ℕ) : Type 0 where
  pub some_workers : 0 < workers
  pub few_workers : workers ≤ 64
  pub some : 0 < count
  pub few : count ≤ 16
  pub from : 0 < first
  pub last : first + count ≤ 2 ^ 48

pub counts_of : (workers first count : ℕ) → IsTrue (counts_fit workers first count) → Counts workers first count
counts_of workers first count h =
    let a = both (nat_lt 0 workers && nat_le workers 64) _ h in
    let w = both (nat_lt 0 workers) (nat_le workers 64) a.0 in
    let b = both (nat_lt 0 count && nat_le count 16) (nat_lt 0 first && nat_le (first + count) (2 ^ 48)) a.1 in
    let n = both (nat_lt 0 count) (nat_le count 16) b.0 in
    let f = both (nat_lt 0 first) (nat_le (first + count) (2 ^ 48)) b.1 in
    record {
      some_workers = ltb-true 0 workers w.0;
      few_workers = leb-true workers 64 w.1;
      some = ltb-true 0 count n.0;
      few = leb-true count 16 n.1;
      from = ltb-true 0 first f.0;
      last = leb-true (first + count) (2 ^ 48) f.1;
    }

pub record SameNumbers (len first count other_len other_first other_count : ℕ) : Type 0 where
  pub lens : other_len ≡ len
  pub firsts : other_first ≡ first
  pub counts : other_count ≡ count

-- a head that bytes begin with has the numbers that stand there
pub same_numbers : (workers : ℕ) (bytes : List ℕ) (len first count other_len other_first other_count : ℕ) → len < 2 ^ 32 → first < 2 ^ 64 → count < 2 ^ 16
    → Begins (drop 1 bytes) (number_bytes 4 len) → Begins (drop 5 bytes) (number_bytes 8 first) → Begins (drop 13 bytes) (number_bytes 2 count)
    → IsHead workers bytes other_len other_first other_count → SameNumbers len first count other_len other_first other_count
same_numbers workers bytes len first count other_len other_first other_count small_len small_first small_count at_1 at_5 at_13 head =
    let counts = counts_of workers other_first other_count head.counts in
    let parts = parts_of bytes other_len other_first other_count head.begins in
    record {
      lens = same_number 4 (drop 1 bytes) other_len len (omega (arith, head.short)) (omega (arith, small_len)) parts.len_at at_1;
      firsts = same_number 8 (drop 5 bytes) other_first first (omega (arith, counts.last)) (omega (arith, small_first)) parts.first_at at_5;
      counts = same_number 2 (drop 13 bytes) other_count count (omega (arith, counts.few)) (omega (arith, small_count)) parts.count_at at_13;
    }
