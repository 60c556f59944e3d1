-- The header of a store's file: a task set, and how many bytes a segment has.
use Rattle.std.specs.Prelude.{ℕ, ◌+◌, ◌*◌, ◌^◌, ◌≤◌, ◌==◌, ◌&&◌, nat_lt, nat_le, if◌then◌else◌, Bool, List, [], ◌∷◌, ◌++◌, length, take, drop}
use Rattle.std.specs.Prelude.{slice_index, Option, Some, None, Result, Ok, Err}
use Rattle.std.specs.Str.{bytes_eq}
use Rattle.byteorder.specs.Endian.{little_bytes, little_number}
use Rattle.pfx_disk.specs.declared.gates.TheConstants.{GATE_OPEN}
use Rattle.pfx_store_image.specs.Refusals.{Refusal, NotAStore, WrongVersion, Damaged, Header as ThePart}
use Rattle.pfx_weights.specs.Bytes.{weights_bytes, weights_of}
use Rattle.pfx_weights.specs.Sets.{FilledSet, Accepts}
use Rattle.pfx_weights.specs.Tests.{set_of}

pub record Header : Type 0 where
  pub set : FilledSet
  pub segment : ℕ

-- the shortest segment, in which the longest batch of m workers has room, and the longest one
abbrev pub least_segment : ℕ → ℕ
least_segment m = 41 + 2096 * m

abbrev pub longest_segment : ℕ
longest_segment = 2 ^ 24

abbrev pub IsSegmentSize : ℕ → ℕ → Type 0
IsSegmentSize m segment = (least_segment m ≤ segment) × (segment ≤ longest_segment)

-- the tasks of a set but for the idle ones
abbrev pub real_tasks : FilledSet → List (ℕ × ℕ)
real_tasks s = take s.real s.weights

-- the set is one of its workers and real tasks, and the segment is within its limits
pub record IsHeader (h : Header) : Type 0 where
  pub accepted : Accepts h.set.workers (real_tasks h.set) h.set
  pub segment : IsSegmentSize h.set.workers h.segment

-- Written.

-- an open gate and the letters PFXSTORE
abbrev pub mark : List ℕ
mark = GATE_OPEN ∷ 0x50 ∷ 0x46 ∷ 0x58 ∷ 0x53 ∷ 0x54 ∷ 0x4F ∷ 0x52 ∷ 0x45 ∷ []

-- the version of stores that are written; those of version 1 are read to be copied
abbrev pub this_version : ℕ
this_version = 2

-- the mark, the version, the workers, how many tasks are real, and the segment's length
unfoldable pub front_bytes : ℕ → Header → List ℕ
front_bytes v h = mark ++ (v ∷ h.set.workers ∷ (little_bytes 2 h.set.real ++ little_bytes 4 h.segment))

-- the header of a store of version v
unfoldable pub header_bytes : ℕ → Header → List ℕ
header_bytes v h = front_bytes v h ++ weights_bytes (real_tasks h.set)

abbrev pub header_len : FilledSet → ℕ
header_len s = 17 + 8 * s.real

-- Read.

abbrev pub version_at : List ℕ → ℕ
version_at bytes = slice_index bytes 9

abbrev pub workers_at : List ℕ → ℕ
workers_at bytes = slice_index bytes 10

abbrev pub real_at : List ℕ → ℕ
real_at bytes = little_number 2 (drop 11 bytes)

abbrev pub segment_at : List ℕ → ℕ
segment_at bytes = little_number 4 (drop 13 bytes)

abbrev pub tasks_at : List ℕ → List (ℕ × ℕ)
tasks_at bytes = weights_of (real_at bytes) (drop 17 bytes)

-- The tests, the last one first: the result of each is that of the ones above it here, if it is passed.

abbrev pub damaged : Refusal
damaged = Damaged 0 ThePart

abbrev pub is_segment_size : ℕ → ℕ → Bool
is_segment_size m segment = nat_le (least_segment m) segment && nat_le segment longest_segment

-- the set, if it is one, with a segment within its limits
unfoldable pub sized : ℕ → Option FilledSet → Result Header Refusal
sized segment None = Err damaged
sized segment (Some s) = if is_segment_size s.workers segment then Ok (record { set = s; segment = segment }) else Err damaged

-- bytes for all the real tasks
unfoldable pub read_tasks : List ℕ → Result Header Refusal
read_tasks bytes = if nat_le (17 + 8 * real_at bytes) (length bytes) then sized (segment_at bytes) (set_of (workers_at bytes) (tasks_at bytes))
    else Err NotAStore

abbrev pub are_counts : ℕ → ℕ → Bool
are_counts m n = (nat_lt 0 m && nat_le m 64) && (nat_lt 0 n && nat_le n 1024)

-- 1 to 64 workers and 1 to 1,024 real tasks
unfoldable pub read_counts : List ℕ → Result Header Refusal
read_counts bytes = if are_counts (workers_at bytes) (real_at bytes) then read_tasks bytes else Err damaged

-- version v
unfoldable pub read_version : ℕ → List ℕ → Result Header Refusal
read_version v bytes = if version_at bytes == v then read_counts bytes else Err (WrongVersion (version_at bytes))

abbrev pub is_store : List ℕ → Bool
is_store bytes = nat_le 17 (length bytes) && bytes_eq (take 9 bytes) mark

-- Bytes for all that comes before the tasks, with the mark in front: with this test first, it is the header at the front
-- of the bytes of a store of version v, or why there is none. What stands behind the header doesn't matter.
unfoldable pub read_header : ℕ → List ℕ → Result Header Refusal
read_header v bytes = if is_store bytes then read_version v bytes else Err NotAStore
