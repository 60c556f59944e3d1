-- What an opened file is.
use Rattle.std.specs.Prelude.{◌≡◌, ◌<◌, ◌^◌, ℕ, List, length, Bool, true, false, Option, Some, None, Result, Ok, Vec, IfOk, IsErrOf}
use Rattle.std.specs.declared.alloc.Global.{Global}
use Rattle.pfx_disk.specs.Disk.{View, IsHonest}
use Rattle.pfx_store_image.specs.Codec.{Codec}
use Rattle.pfx_store_image.specs.Recovery.{Found, found, found_of}
use Rattle.pfx_store_image.specs.Refusals.{Refusal}
use Rattle.pfx_store_image.specs.Store.{Parts}
use Rattle.pfx_store_file.specs.Checkpoints.{is_begun}
use Rattle.pfx_store_file.specs.Files.{AreOf, file_in}
use Rattle.pfx_store_file.specs.Holding.{Holds}
use Rattle.pfx_store_file.specs.Sizes.{HasSizes, total_len}
use Rattle.pfx_store_file.specs.declared.places.Places.{Places}
use Rattle.pfx_store_recover.specs.Answers.{Gives, IsRead}
use Rattle.pfx_store_recover.specs.Choosing.{area_state}
use Rattle.pfx_store_recover.specs.Looking.{IsKept, OnlyReads, Reaches, ReadsKept}
use Rattle.pfx_store_recover.specs.Walking.{StandIn}
use Rattle.pfx_store_recover.specs.declared.faults.OpenFault.{OpenFault}
use Rattle.pfx_store_recover.specs.declared.faults.OpenFault.TheVariants.{Device}
use Rattle.pfx_store_recover.specs.declared.contents.Contents.{Contents}
use Rattle.pfx_store_recover.specs.declared.walked.Walked.{Walked}

module _ {H S : Type 0} (K : Codec H S) (h : H) where
  -- where two segments were read, the body of a checkpoint area that holds the state between them; else there is none
  abbrev pub IsMiddle : Parts S → Option (Vec ℕ Global) → Type 0
  IsMiddle p None = p.turned ≡ false
  IsMiddle p (Some spelled) = (p.turned ≡ true) × (length spelled.items ≡ (K.layout h).body)
      × (K.read_state h spelled.items ≡ Some p.middle)

  -- In these bytes these parts and this state are found, and the places are those of the file with these parts: its gates
  -- stand as they do there, and of the checkpoint in progress nothing is done.
  pub record IsFound (bytes : List ℕ) (places : Places) (state : S) (middle : Option (Vec ℕ Global)) (read : Result (Found H S) Refusal)
      : Type 0 where
    pub parts : Parts S
    pub found : read ≡ Ok (found_of h parts state)
    pub file : AreOf K (file_in K bytes h parts) places
    pub between : IsMiddle parts middle

  -- That is what is found in these bytes; the store of it holds on the disk, which has these bytes, also after a stop.
  pub record IsOpened (bytes : List ℕ) (places : Places) (state : S) (middle : Option (Vec ℕ Global)) (disk : View) : Type 0 where
    pub parts : Parts S
    pub found : found K bytes ≡ Ok (found_of h parts state)
    pub file : AreOf K (file_in K bytes h parts) places
    pub kept : IsKept bytes disk
    pub holds : (spelling : List ℕ) → Holds K h places parts state spelling disk
    pub between : IsMiddle parts middle

-- A store can go on with what was found: its checkpoint areas can hold the state, the places are those of a file of its
-- layout, and no checkpoint is begun.
pub record IsUsable {H S : Type 0} (K : Codec H S) (can_hold : H → S → Type 0) (h : H) (places : Places) (state : S) : Type 0 where
  pub fits : can_hold h state
  pub sized : HasSizes (K.layout h) places.sizes
  pub unbegun : is_begun places.checkpoint ≡ false

-- A store can go on with what was found on a disk, which has so many bytes, and keeps those that it had.
pub record CanBeHeld {H S : Type 0} (K : Codec H S) (can_hold : H → S → Type 0) (h : H) (places : Places) (state : S) (old new : View)
    : Type 0 where
  pub usable : IsUsable K can_hold h places state
  pub inside : Reaches (total_len places.sizes) new
  pub kept : IsHonest old → IsKept old.contents new

-- A store can go on with the file that was opened: it isn't broken, no checkpoint is begun, also if one is in progress, the places are
-- those of a file of this layout, and its checkpoint areas can hold the state.
pub record CanGoOn {H S : Type 0} (K : Codec H S) (can_hold : H → S → Type 0) (h : H) (broken : Bool) (places : Places) (state : S)
    : Type 0 where
  pub whole : broken ≡ false
  pub unbegun : is_begun places.checkpoint ≡ false
  pub sized : HasSizes (K.layout h) places.sizes
  pub fits : can_hold h state

-- Calls that only read a file with this header from some stage on: a store can go on with what they find; and whatever bytes the disk
-- keeps, this is so of what they answer.
pub record ReadsContents {F H S : Type 0} (K : Codec H S) (can_hold : H → S → Type 0) (h : H) (old new : View)
    (result : Result (Contents F H S) OpenFault) (answered : List ℕ → Type 0) : Type 0 where
  pub call : OnlyReads old new result
  pub usable : IfOk result (λ c. IsUsable K can_hold h c.places c.state)
  pub exact : (bytes : List ℕ) → IsKept bytes old → answered bytes

-- The contents of a file with this header, of what was read before: no call of the disk fails; a store can go on with them; and whatever
-- bytes those are, this is so of what is answered.
pub record MakesContents {F H S : Type 0} (K : Codec H S) (can_hold : H → S → Type 0) (h : H)
    (result : Result (Contents F H S) OpenFault) (answered : List ℕ → Type 0) : Type 0 where
  pub device : ¬ IsErrOf result Device
  pub usable : IfOk result (λ c. IsUsable K can_hold h c.places c.state)
  pub exact : (bytes : List ℕ) → answered bytes

-- a state that a checkpoint area can hold, and whose last command has a number below 2^48
pub record IsHeldState {H S : Type 0} (K : Codec H S) (can_hold : H → S → Type 0) (h : H) (state : S) : Type 0 where
  pub fits : can_hold h state
  pub number : K.number state < 2 ^ 48

-- The state in this checkpoint area was read, by calls that only read: whatever bytes the disk keeps, it is the one there, or refused for
-- the same reason; and a checkpoint area can hold it.
pub record ReadsState {H S : Type 0} (K : Codec H S) (can_hold : H → S → Type 0) (h : H) (second : Bool) (old new : View)
    (result : Result S OpenFault) : Type 0 where
  pub reads : ReadsKept old new result (λ bytes. Gives IsRead (area_state K h bytes second) result)
  pub state : IfOk result (IsHeldState K can_hold h)

-- frames come after a state that a checkpoint area can hold, and stand in this segment
pub record ComeAfter {H S : Type 0} (K : Codec H S) (can_hold : H → S → Type 0) (h : H) (state : S) (second : Bool) (walked : Walked)
    : Type 0 where
  pub fits : can_hold h state
  pub stand : StandIn (K.layout h) second walked
