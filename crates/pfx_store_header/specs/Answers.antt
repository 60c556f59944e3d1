-- What the functions answer, by what is so.
use Rattle.std.specs.Prelude.{◌≡◌, ℕ, ◌<◌, Result, Ok, Err, ⊤}
use Rattle.pfx_store_image.specs.Refusals.{Refusal}
use Rattle.pfx_store_image.specs.Refusals.{NotAStore as NoStoreIs, WrongVersion as VersionIs}
use Rattle.pfx_weights.specs.Sets.{FilledSet}
use Rattle.pfx_store_header.specs.declared.faults.HeaderFault.{HeaderFault}
use Rattle.pfx_store_header.specs.declared.faults.HeaderFault.TheVariants.{NotAStore, WrongVersion, Damaged, NoMemory}
use Rattle.pfx_store_header.specs.declared.faults.SegmentSizeFault.{SegmentSizeFault}
use Rattle.pfx_store_header.specs.declared.faults.SegmentSizeFault.TheVariants.{SegmentTooSmall, SegmentTooLarge}
use Rattle.pfx_store_header.specs.Headers.{Header, least_segment, longest_segment, damaged, IsSegmentSize}

-- what was answered is what is read, unless an allocation failed
abbrev pub Reads : Result Header Refusal → Result (FilledSet × ℕ) HeaderFault → Type 0
Reads read (Ok h) = read ≡ Ok (record { set = h.0; segment = h.1 })
Reads read (Err NotAStore) = read ≡ Err NoStoreIs
Reads read (Err (WrongVersion version)) = read ≡ Err (VersionIs version)
Reads read (Err Damaged) = read ≡ Err damaged
Reads read (Err NoMemory) = ⊤

-- a segment of this length is within the limits of m workers, or below or above them: no two cases hold together
abbrev pub Sizes : ℕ → ℕ → Result (Unit {0}) SegmentSizeFault → Type 0
Sizes m segment (Ok done) = IsSegmentSize m segment
Sizes m segment (Err (SegmentTooSmall least)) = (least ≡ least_segment m) × (segment < least)
Sizes m segment (Err SegmentTooLarge) = longest_segment < segment
