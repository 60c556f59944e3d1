-- The calls that the making of a store takes, and which fault comes if it isn't made.
use Rattle.std.specs.Prelude.{◌≡◌, ◌<◌, ◌≤◌, ◌+◌, ◌-◌, ℕ, List, ⊤}
use Rattle.pfx_checkpoint.specs.Whole.{whole_bytes}
use Rattle.pfx_store_format.specs.Format.{layout}
use Rattle.pfx_store_header.specs.Headers.{Header, IsHeader, IsSegmentSize, header_bytes, least_segment, longest_segment, this_version}
use Rattle.pfx_jobs.specs.Kind.{Kind}
use Rattle.pfx_machine.specs.Plain.{Plain}
use Rattle.pfx_record.specs.Batches.{batch_most}
use Rattle.pfx_store_image.specs.Layout.{file_len}
use Rattle.pfx_store_file.specs.Tending.{pieces}
use Rattle.pfx_weights.specs.Sets.{FilledSet}
use Rattle.pfx_store.specs.declared.making.InitFault.{InitFault}
use Rattle.pfx_store.specs.declared.making.InitFault.TheVariants.{SegmentTooSmall, SegmentTooLarge, NotEmpty, Device, NoMemory}

-- how many calls of the disk it takes: six, and one for each 4,096 bytes behind the first
abbrev pub making_calls : FilledSet → ℕ → ℕ
making_calls set segment = 6 + pieces (file_len (layout (record { set = set; segment = segment })) - 1)

-- a segment of this length is below the limits of m workers, or above them; every other fault comes within them
abbrev pub IsSizeFault : ℕ → ℕ → InitFault → Type 0
IsSizeFault m segment (SegmentTooSmall least) = (least ≡ least_segment m) × (segment < least)
IsSizeFault m segment SegmentTooLarge = longest_segment < segment
IsSizeFault m segment NotEmpty = IsSegmentSize m segment
IsSizeFault m segment Device = IsSegmentSize m segment
IsSizeFault m segment NoMemory = IsSegmentSize m segment

-- a fault that comes before the disk is asked anything
abbrev pub IsBeforeAnyCall : InitFault → Type 0
IsBeforeAnyCall (SegmentTooSmall least) = ⊤
IsBeforeAnyCall SegmentTooLarge = ⊤
IsBeforeAnyCall NotEmpty = ⊥
IsBeforeAnyCall Device = ⊥
IsBeforeAnyCall NoMemory = ⊤

-- the header of a store that begins at a state: its set, and its length of segments
abbrev pub header_of : {J : Type 0} → Plain J → Header
header_of s = record { set = s.ledger.set; segment = s.segment }

-- a store can begin at the state, whose set is this one, in segments within the limits
pub record CanBegin {J : Type 0} (set : FilledSet) (s : Plain J) : Type 0 where
  pub same : s.ledger.set ≡ set
  pub size : IsSegmentSize s.ledger.set.workers s.segment

-- All that a store is made of is there: a header within the limits and its bytes, the bytes of the state, and room for a frame.
pub record IsPrepared {J : Type 0} (K : Kind J) (s : Plain J) (head_bytes spelled_bytes : List ℕ) (capacity : ℕ) : Type 0 where
  pub header : IsHeader (header_of s)
  pub head : head_bytes ≡ header_bytes this_version (header_of s)
  pub spelled : spelled_bytes ≡ whole_bytes K s
  pub room : batch_most s.ledger.set.workers s.ledger.set.real + 1 ≤ capacity
