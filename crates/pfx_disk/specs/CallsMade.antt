-- A disk, and the calls that were made on it.
use Rattle.std.specs.Prelude.{◌≡◌, ◌⊎◌, ℕ, ◌≤◌, List, [], ◌∷◌, ◌++◌}
use Rattle.pfx_disk.specs.Disk.{View}
use Rattle.pfx_disk.specs.Stop.{Act, Sync, Write, Look, contents_after, Left}

-- the calls with one more that failed: a write may have done any part of its work, any other call nothing
abbrev pub with_failed : List Act → Act → List Act
with_failed done Sync = done
with_failed done (Write at bytes) = done ++ Write at bytes ∷ []
with_failed done Look = done

-- a stop now leaves no image that these calls don't leave of a disk that held these bytes and nothing else
abbrev pub LeavesAtMost : View → List ℕ → List Act → Type 0
LeavesAtMost disk start done = (image : List ℕ) → disk.now image → Left start done image

-- the disk is one that held these bytes, after these calls: a read gives what they wrote, a stop leaves what they leave
pub record IsAfter (disk : View) (start : List ℕ) (done : List Act) : Type 0 where
  pub contents : disk.contents ≡ contents_after start done
  pub images : LeavesAtMost disk start done

-- after these calls, some more of the list `calls` went through, the next of them failed, and none was made after it
pub record BrokeOff (disk : View) (start : List ℕ) (done calls : List Act) : Type 0 where
  pub gone : List Act
  pub act : Act
  pub rest : List Act
  pub are : gone ++ act ∷ rest ≡ calls
  pub images : LeavesAtMost disk start (with_failed (done ++ gone) act)

-- a stop after these calls and some more of the list `calls` leaves the image
abbrev pub Among : List ℕ → List Act → List Act → List ℕ → Type 0
Among start done calls image = (gone : List Act) × (coming : List Act) × (gone ++ coming ≡ calls) × Left start (done ++ gone) image

-- The disk made these calls, one after the other, and each went through.
abbrev pub HasMade : List Act → View → View → Type 0
HasMade calls old new = (start : List ℕ) → (done : List Act) → IsAfter old start done → IsAfter new start (done ++ calls)

-- It made some of them, the next one failed, and it made none after that.
abbrev pub HasBrokenOff : List Act → View → View → Type 0
HasBrokenOff calls old new = (start : List ℕ) → (done : List Act) → IsAfter old start done → BrokeOff new start done calls

-- At no moment in between did a stop leave anything but what some of these calls leave.
abbrev pub HasKeptTo : List Act → View → View → Type 0
HasKeptTo calls old new = (start : List ℕ) → (done : List Act) → IsAfter old start done
    → (c : ℕ) → (image : List ℕ) → c ≤ old.clock → new.since c image → old.since c image ⊎ Among start done calls image
