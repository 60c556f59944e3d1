-- What the making of a new file leaves on a disk, and what a codec says of it.
use Rattle.std.specs.Prelude.{◌≡◌, ◌≤◌, ◌<◌, ◌+◌, ◌⊎◌, ◌↔◌, ℕ, List, [], length, take, Result, Ok, Err, OnOk, IsErr}
use Rattle.pfx_disk.specs.Disk.{View, HasFailed, IsHonest, Leaves, Only, Same, Ticks}
use Rattle.pfx_disk.specs.declared.device.DeviceFailed.{DeviceFailed}
use Rattle.pfx_store_image.specs.Codec.{Codec, Laws}
use Rattle.pfx_store_image.specs.Layout.{Layout}
use Rattle.pfx_store_image.specs.NewFile.{ArePartsOfNew, new_file}
use Rattle.pfx_store_image.specs.Recovery.{recovered}
use Rattle.pfx_store_image.specs.Refusals.{NotAStore}
use Rattle.pfx_segment.specs.Segment.{Takes}
use Rattle.pfx_store_file.specs.declared.checkpoint.TheConstants.{PIECE}
use Rattle.pfx_store_create.specs.Creating.{Creating, HasLengths, IsBehindFirst, IsInLimits, IsUnmade, StaysClosed, unopened}

-- It takes so many calls of the disk; if it answers that the device failed, the disk did; and an honest disk stays one.
pub record IsCall {T E : Type 0} (calls : ℕ) (device : Type 0) (old new : View) (result : Result T E) : Type 0 where
  pub failed : device → HasFailed old new
  pub takes : Takes calls old new result
  pub honest : IsHonest old ↔ IsHonest new

-- one call of a disk, and an honest one stays so
pub record IsOneCall {T : Type 0} (old new : View) (result : Result T DeviceFailed) : Type 0 where
  pub time : Ticks old new result
  pub honest : IsHonest old ↔ IsHonest new

-- A new file in the limits can be written onto a disk that holds these bytes, if it is honest.
pub record CanBeWritten (head body first : List ℕ) (segment : ℕ) (held : List ℕ) (disk : View) : Type 0 where
  pub limits : IsInLimits head body first segment
  pub holds : IsHonest disk → disk.contents ≡ held

-- The next piece of a new file goes to this place behind its first byte, where an honest disk ends.
pub record IsNextPiece (head body first : List ℕ) (segment at : ℕ) (disk : View) : Type 0 where
  pub place : IsBehindFirst head body first segment at
  pub end : IsHonest disk → length disk.contents ≡ at

-- One call that writes it: a first gate that was closed stays so at any moment of it, and if the file stood there up to this place, with
-- its first gate closed, it does up to the end of the piece once the call succeeded.
pub record WritesPiece {T : Type 0} (head body first : List ℕ) (segment at : ℕ) (old new : View) (result : Result T DeviceFailed)
    : Type 0 where
  pub call : IsOneCall old new result
  pub leaves : IsHonest old → Leaves StaysClosed old new
  pub written : IsHonest old → (L : Layout) → HasLengths L head body segment
      → old.contents ≡ take at (unopened (new_file L head body first))
      → OnOk result (new.contents ≡ take (at + PIECE) (unopened (new_file L head body first)))

-- Calls that write a new file with its first gate closed, so many: a stop at any moment of them leaves what was there in this relation
-- to it, and once they succeeded all of the file stands there.
pub record WritesUnopened {T E : Type 0} (calls : ℕ) (step : List ℕ → List ℕ → Type 0) (head body first : List ℕ) (segment : ℕ)
    (old new : View)
    (result : Result T E) : Type 0 where
  pub call : IsCall calls (IsErr result) old new result
  pub leaves : IsHonest old → Leaves step old new
  pub written : IsHonest old → (L : Layout) → HasLengths L head body segment
      → OnOk result (new.contents ≡ unopened (new_file L head body first))

-- The disk wasn't empty: one call found bytes on it.
pub record WasNotEmpty (old new : View) : Type 0 where
  pub some : IsHonest old → 0 < length old.contents
  pub one_call : new.clock ≡ old.clock + 1

-- The disk was empty, and holds the new file, whole and durable.
pub record IsMade (head body first : List ℕ) (segment : ℕ) (old new : View) : Type 0 where
  pub empty : old.contents ≡ []
  pub written : (L : Layout) → HasLengths L head body segment → new.contents ≡ new_file L head body first
  pub durable : Only new.contents new

-- At every moment of the call, and afterwards, what was empty is no store's file yet, or the new one. On a disk that holds
-- bytes nothing is written.
pub record Attempts (head body first : List ℕ) (segment : ℕ) (old new : View) : Type 0 where
  pub honest : IsHonest old ↔ IsHonest new
  pub leaves : IsHonest old → (L : Layout) → HasLengths L head body segment → Leaves (Creating (new_file L head body first)) old new
  pub untouched : IsHonest old → 0 < length old.contents → Leaves Same old new

module _ {H S : Type 0} (K : Codec H S) where
  -- the bytes are those of the parts of a new file of this header at this state
  pub record IsMadeOf (h : H) (s : S) (head body first : List ℕ) (segment : ℕ) : Type 0 where
    pub laws : Laws K
    pub parts : ArePartsOfNew K h s head body first
    pub of_segment : segment ≡ (K.layout h).segment

  -- what is no store's file yet is refused as none
  abbrev pub RefusesUnmade : Type 0
  RefusesUnmade = (image : List ℕ) → IsUnmade image → K.read_head image ≡ Err NotAStore

  -- If the disk was empty since some moment, each image since then is refused as no store's, or recovered to this state.
  abbrev pub IsNoneOrMade : S → View → View → Type 0
  IsNoneOrMade s old new = (c : ℕ) → c ≤ old.clock → ((image : List ℕ) → old.since c image → image ≡ [])
      → (image : List ℕ) → new.since c image → (recovered K image ≡ Err NotAStore) ⊎ (recovered K image ≡ Ok s)
