-- A new file, as it is written onto an empty disk.
use Rattle.std.specs.Prelude.{◌≡◌, ◌≤◌, ◌<◌, ◌⊎◌, ℕ, ◌+◌, ◌*◌, ◌^◌, List, [], ◌∷◌, length, drop, slice_index}
use Rattle.pfx_disk.specs.declared.gates.TheConstants.{GATE_OPEN}
use Rattle.pfx_disk.specs.Gates.{IsClosed}
use Rattle.pfx_store_image.specs.declared.head.TheConstants.{SEGMENT_HEAD}
use Rattle.pfx_store_image.specs.Layout.{Layout, IsClosedAt}

-- how long a file with this header, this body of a checkpoint area and segments of this length is
abbrev pub len_of : List ℕ → List ℕ → ℕ → ℕ
len_of head body segment = length head + 2 * (1 + length body) + 2 * segment

-- the first segment's number has eight bytes, a segment more than its head, and the file fewer than 2^62
pub record IsInLimits (head body first : List ℕ) (segment : ℕ) : Type 0 where
  pub number : length first ≡ 8
  pub room : SEGMENT_HEAD < segment
  pub short : len_of head body segment < 2 ^ 62

-- a place behind the first byte of such a file
pub record IsBehindFirst (head body first : List ℕ) (segment at : ℕ) : Type 0 where
  pub limits : IsInLimits head body first segment
  pub behind : 0 < at
  pub inside : at < len_of head body segment

-- a part of a new file of fewer than 2^62 bytes, with this end; the first segment's number has eight
pub record IsPartTo (head body first : List ℕ) (segment end : ℕ) : Type 0 where
  pub number : length first ≡ 8
  pub short : len_of head body segment < 2 ^ 62
  pub inside : end ≤ len_of head body segment

-- A new file can be made with this header, this body of its first checkpoint area, this number of its first segment and such segments:
-- they are in the limits, and the header begins with its open gate.
pub record CanBeMade (head body first : List ℕ) (segment : ℕ) : Type 0 where
  pub limits : IsInLimits head body first segment
  pub gate : slice_index head 0 ≡ GATE_OPEN

-- the layout has these lengths
pub record HasLengths (L : Layout) (head body : List ℕ) (segment : ℕ) : Type 0 where
  pub of_head : length head ≡ L.head
  pub of_body : length body ≡ L.body
  pub of_segment : segment ≡ L.segment

-- the file with a closed gate for its first byte
abbrev pub unopened : List ℕ → List ℕ
unopened file = 0 ∷ drop 1 file

-- a byte at most, or a closed gate for the first byte: no store's file yet
abbrev pub IsUnmade : List ℕ → Type 0
IsUnmade image = (length image ≤ 1) ⊎ IsClosedAt 0 image

-- what was empty is no store's file yet
abbrev pub Beginning : List ℕ → List ℕ → Type 0
Beginning old new = old ≡ [] → IsUnmade new

-- what was empty is no store's file yet, or this one, whole
abbrev pub Creating : List ℕ → List ℕ → List ℕ → Type 0
Creating file old new = old ≡ [] → IsUnmade new ⊎ (new ≡ file)

-- a first gate that was closed is closed
abbrev pub StaysClosed : List ℕ → List ℕ → Type 0
StaysClosed old new = IsClosed 0 old → IsClosed 0 new
