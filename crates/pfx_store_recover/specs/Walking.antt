-- The frames of a segment, as they were read, and the places of a file that was read.
use Rattle.std.specs.Prelude.{◌≡◌, ◌<◌, ◌≤◌, ◌+◌, ◌^◌, ◌⊎◌, ℕ, List, Bool, false, All, length, take, drop, Some, None, Result, Ok, IfOk}
use Rattle.std.specs.Prelude.{IsErrOf}
use Rattle.std.specs.List.{concat}
use Rattle.pfx_store_image.specs.Codec.{Codec}
use Rattle.pfx_disk.specs.Disk.{View}
use Rattle.pfx_store_image.specs.Layout.{Layout, first_gate, segment_end}
use Rattle.pfx_store_image.specs.Recovery.{replay, walk}
use Rattle.pfx_store_image.specs.Refusals as means
use Rattle.pfx_segment.specs.Frames.{frame_len}
use Rattle.pfx_store_file.specs.Sizes.{HasSizes}
use Rattle.pfx_store_file.specs.declared.places.Places.{Places}
use Rattle.pfx_store_file.specs.declared.progress.Checkpoint.{Checkpoint}
use Rattle.pfx_store_recover.specs.Answers.{Gives, IsRead}
use Rattle.pfx_store_recover.specs.Looking.{IsKept, OnlyReads}
use Rattle.pfx_store_recover.specs.declared.faults.OpenFault.{OpenFault}
use Rattle.pfx_store_recover.specs.declared.faults.OpenFault.TheVariants.{Device}
use Rattle.pfx_store_recover.specs.declared.walked.Walked.{Walked}

-- these frames, each as long as its head says, fill the bytes, one behind the other
pub record Fill (frames : List (List ℕ)) (bytes : List ℕ) : Type 0 where
  pub whole : All (λ frame. length frame ≡ frame_len 0 frame) frames
  pub joined : concat frames ≡ bytes

-- the frames that fill these bytes were read, and this is the last one's number
abbrev pub IsWalk : List ℕ → ℕ → Result (List (List ℕ) × ℕ) means.Refusal → Type 0
IsWalk bytes last read = (frames : List (List ℕ)) × Fill frames bytes × (read ≡ Ok (frames, last))

-- the bytes of the frames
abbrev pub frames_of : Walked → List ℕ
frames_of walked = take walked.len walked.bytes.items

-- the frame here is as long as its head says, if the bytes go on so far; it is some bytes, and ends no later than they do
pub record IsFrameLen (bytes : List ℕ) (at len : ℕ) : Type 0 where
  pub some : 0 < len
  pub inside : at + len ≤ length bytes
  pub whole : at + frame_len at bytes ≤ length bytes → len ≡ frame_len at bytes

-- the frame here is as long as its head says, it ends before the bytes do, and with it comes this number
pub record IsHead {H S : Type 0} (K : Codec H S) (bytes : List ℕ) (at last len next : ℕ) : Type 0 where
  pub fits : at + len < length bytes
  pub long : len ≡ frame_len at bytes
  pub after : K.after last (take len (drop at bytes)) ≡ Some next

-- there is no such head: the frame doesn't end before the bytes do, or its head isn't right after this number
abbrev pub IsNoHead : {H S : Type 0} → Codec H S → List ℕ → ℕ → ℕ → Type 0
IsNoHead K bytes at last = (length bytes ≤ at + frame_len at bytes)
    ⊎ ((at + frame_len at bytes < length bytes) × (K.after last (take (frame_len at bytes) (drop at bytes)) ≡ None))

-- Some bytes were read, from this place on, and end below 2^64; frames there come after the command of this number, which is below 2^48.
pub record CanBeWalked (first last : ℕ) (held : List ℕ) : Type 0 where
  pub some : 0 < length held
  pub place : first + length held < 2 ^ 64
  pub number : last < 2 ^ 48

-- How many of these bytes the frames take that they begin with, and their last number: no call of the disk fails; the closed gate after
-- them is one of the bytes, and the number below 2^48; and if the bytes stand from this place on, these frames are read there, or refused
-- for the same reason.
pub record WalksHeld {H S : Type 0} (K : Codec H S) (first number : ℕ) (held : List ℕ) (result : Result (ℕ × ℕ) OpenFault) : Type 0 where
  pub device : ¬ IsErrOf result Device
  pub ends : IfOk result (λ walked. (walked.0 < length held) × (walked.1 < 2 ^ 48))
  pub exact : (image : List ℕ) → held ≡ take (length held) (drop first image) → (n : ℕ) → first + length held ≤ n
      → Gives (λ walked. IsWalk (take walked.0 held) walked.1) (walk K (1 + n) first (first + length held) number image) result

-- The records of the frames that fill these bytes, the first of which has this gate, applied to a state: no call of the disk fails; what
-- a checkpoint area can hold stays so; and it is the state to which they lead, or refused for the same reason.
pub record ReplaysFrames {H S : Type 0} (K : Codec H S) (can_hold : H → S → Type 0) (gate : ℕ) (state : S) (bytes : List ℕ)
    (result : Result S OpenFault) : Type 0 where
  pub device : ¬ IsErrOf result Device
  pub fits : (h : H) → can_hold h state → IfOk result (can_hold h)
  pub exact : (frames : List (List ℕ)) → Fill frames bytes → Gives IsRead (replay K gate state frames) result

-- they begin here, their closed gate lies before the end, and the last command's number is below 2^48
pub record IsWalked (first end : ℕ) (walked : Walked) : Type 0 where
  pub gate : walked.gate ≡ first + walked.len
  pub inside : walked.gate < end
  pub last : walked.last < 2 ^ 48

-- The frames from this gate on were read, after the command of this number: by calls that only read; and whatever bytes the disk keeps,
-- they are the ones there, or refused for the same reason.
pub record ReadsFrames {H S : Type 0} (K : Codec H S) (first end number : ℕ) (old new : View) (result : Result Walked OpenFault)
    : Type 0 where
  pub call : OnlyReads old new result
  pub walked : IfOk result (IsWalked first end)
  pub exact : (bytes : List ℕ) → IsKept bytes old → (n : ℕ) → end ≤ n
      → Gives (λ walked. IsWalk (frames_of walked) walked.last) (walk K (1 + n) first end number bytes) result

-- they stand in this segment, with the gate after them, and the last command's number is below 2^48
pub record StandIn (L : Layout) (second : Bool) (walked : Walked) : Type 0 where
  pub gate : walked.gate ≡ first_gate L second + walked.len
  pub inside : walked.gate < segment_end L second
  pub last : walked.last < 2 ^ 48

-- These are the checkpoint area and the segment in use, how the gates of the others stand, and the next frame's gate; and so far is the
-- checkpoint in progress.
pub record AreInUse (L : Layout) (in_area other_area : Bool) (checkpoint : Checkpoint) (second other_segment : Bool) (next : ℕ)
    (places : Places) : Type 0 where
  pub fits : HasSizes L places.sizes
  pub area : places.area ≡ in_area
  pub area_open : places.area_open ≡ other_area
  pub progress : places.checkpoint ≡ checkpoint
  pub segment : places.segment ≡ second
  pub segment_open : places.segment_open ≡ other_segment
  pub gate : places.gate ≡ next
  pub end : places.end ≡ segment_end L second
