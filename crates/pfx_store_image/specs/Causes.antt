-- Which file is refused why: each refusal with its cause, where all that comes before is in order.
use Rattle.std.specs.Prelude.{◌≡◌, ◌≢◌, ◌⊎◌, ℕ, ◌+◌, ◌<◌, ◌≤◌, List, [], ◌∷◌, ◌++◌, length, take, drop, Bool, true, false, not}
use Rattle.std.specs.Prelude.{Some, None, Ok, Err}
use Rattle.pfx_segment.specs.Segment.{StandAt}
use Rattle.pfx_segment.specs.Frames.{IsFrame, AreFrames, frame_len, size}
use Rattle.pfx_store_image.specs.Codec.{Codec}
use Rattle.pfx_store_image.specs.Layout.{area_at, segment_at, first_gate, segment_end, file_len, IsOpenAt, IsClosedAt, body_at}
use Rattle.pfx_store_image.specs.Recovery.{segment_first, area_numbered}
use Rattle.pfx_store_image.specs.Refusals.{Refusal, Damaged, Length, Checkpoint, Segment, Frame, Record}
use Rattle.pfx_store_image.specs.Store.{Replays, Numbers, IsLower}

-- these frames stand one behind the other from this gate on, and each ends before the end
abbrev pub StandInRow : ℕ → ℕ → List (List ℕ) → List ℕ → Type 0
StandInRow gate end [] image = Unit {0}
StandInRow gate end (frame ∷ frames) image = StandAt gate frame image × IsFrame frame × (gate + length frame < end)
    × StandInRow (gate + length frame) end frames image

module _ {H S : Type 0} (K : Codec H S) where
  -- Of the frames from the first gate on, the one at this place is the first whose head is wrong: it doesn't fit, or
  -- hasn't the number after the last one's.
  pub record IsBadHead (first end last at : ℕ) (image : List ℕ) : Type 0 where
    pub frames : List (List ℕ)
    pub reached : ℕ
    pub stand : StandInRow first end frames image
    pub numbers : Numbers K last frames reached
    pub place : at ≡ first + size frames
    pub gate : IsOpenAt at image
    pub wrong : (end ≤ at + frame_len at image) ⊎ (K.after reached (take (frame_len at image) (drop at image)) ≡ None)

  -- Of these frames, the first of which has this gate, the one at this place is the first whose records are wrong.
  pub record IsBadRecord (first : ℕ) (s : S) (frames : List (List ℕ)) (at : ℕ) : Type 0 where
    pub before : List (List ℕ)
    pub frame : List ℕ
    pub behind : List (List ℕ)
    pub reached : S
    pub whole : frames ≡ before ++ frame ∷ behind
    pub run : Replays K s before reached
    pub wrong : K.apply reached frame ≡ None
    pub place : at ≡ first + size before

  module _ (h : H) (image : List ℕ) where
    -- the file has this header, and its length
    pub record HasHeader : Type 0 where
      pub head : K.read_head image ≡ Ok h
      pub long : length image ≡ file_len (K.layout h)

    -- the checkpoint area is open, and the other is closed or has a lower number
    pub record IsTaken (c : Bool) : Type 0 where
      pub header : HasHeader
      pub gate : IsOpenAt (area_at (K.layout h) c) image
      pub lower : IsLower K h (area_numbered K h image c) (area_at (K.layout h) (not c)) image

    -- and holds this state
    pub record HasState (c : Bool) (s : S) : Type 0 where
      pub taken : IsTaken c
      pub body : K.read_state h (body_at (K.layout h) (area_at (K.layout h) c) image) ≡ Some s

    -- the segment is closed or begins with another number
    abbrev pub BeginsElse : Bool → ℕ → Type 0
    BeginsElse b n = IsClosedAt (segment_at (K.layout h) b) image ⊎ (segment_first K h image b ≢ n)

    -- the segment is open and begins with this number
    abbrev pub BeginsWith : Bool → ℕ → Type 0
    BeginsWith b n = IsOpenAt (segment_at (K.layout h) b) image × (segment_first K h image b ≡ n)

    -- the segment begins after the checkpoint area's number, and the other doesn't
    pub record IsFirst (c : Bool) (s : S) (b : Bool) : Type 0 where
      pub state : HasState c s
      pub begins : BeginsWith b (K.number s + 1)
      pub other : BeginsElse (not b) (K.number s + 1)

    -- the frames of the segment that is read first, with right heads, and their last number
    pub record HasFrames (c : Bool) (s : S) (b : Bool) (frames : List (List ℕ)) (last : ℕ) : Type 0 where
      pub first : IsFirst c s b
      pub are : AreFrames (first_gate (K.layout h) b) (segment_end (K.layout h) b) frames image
      pub numbers : Numbers K (K.number s) frames last

    -- the other segment goes on after them, and has these frames, with right heads; or it doesn't go on, and there are none
    abbrev pub GoesOn : Bool → ℕ → List (List ℕ) → Type 0
    GoesOn b last more = (BeginsWith (not b) (last + 1)
        × AreFrames (first_gate (K.layout h) (not b)) (segment_end (K.layout h) (not b)) more image
        × ((end : ℕ) × Numbers K last more end))
        ⊎ (BeginsElse (not b) (last + 1) × (more ≡ []))

  -- the file is refused for a cause: each way in which that happens
  pub data IsRefused (image : List ℕ) : Refusal → Type 0 where
    -- the header
    bad_header : {refusal : Refusal} → K.read_head image ≡ Err refusal → IsRefused image refusal
    -- the length
    bad_length : (h : H) → K.read_head image ≡ Ok h → length image ≢ file_len (K.layout h) → IsRefused image (Damaged (length image) Length)
    -- the checkpoint areas
    no_area : (h : H) → HasHeader h image → ((c : Bool) → IsClosedAt (area_at (K.layout h) c) image)
        → IsRefused image (Damaged (area_at (K.layout h) false) Checkpoint)
    equal_areas : (h : H) → HasHeader h image → ((c : Bool) → IsOpenAt (area_at (K.layout h) c) image)
        → area_numbered K h image false ≡ area_numbered K h image true → IsRefused image (Damaged (area_at (K.layout h) true) Checkpoint)
    bad_area : (h : H) (c : Bool) → IsTaken h image c → K.read_state h (body_at (K.layout h) (area_at (K.layout h) c) image) ≡ None
        → IsRefused image (Damaged (area_at (K.layout h) c) Checkpoint)
    -- the segments
    equal_segments : (h : H) (c : Bool) (s : S) → HasState h image c s → ((b : Bool) → IsOpenAt (segment_at (K.layout h) b) image)
        → segment_first K h image false ≡ segment_first K h image true → IsRefused image (Damaged (segment_at (K.layout h) true) Segment)
    no_segment : (h : H) (c : Bool) (s : S) → HasState h image c s
        → (((b : Bool) → IsOpenAt (segment_at (K.layout h) b) image) → segment_first K h image false ≢ segment_first K h image true)
        → ((b : Bool) → BeginsElse h image b (K.number s + 1)) → IsRefused image (Damaged (segment_at (K.layout h) false) Segment)
    -- the heads of the frames, of the segment that is read first and then of the other
    bad_head : (h : H) (c : Bool) (s : S) (b : Bool) (at : ℕ) → IsFirst h image c s b
        → IsBadHead (first_gate (K.layout h) b) (segment_end (K.layout h) b) (K.number s) at image → IsRefused image (Damaged at Frame)
    other_head : (h : H) (c : Bool) (s : S) (b : Bool) (frames : List (List ℕ)) (last at : ℕ)
        → HasFrames h image c s b frames last → BeginsWith h image (not b) (last + 1)
        → IsBadHead (first_gate (K.layout h) (not b)) (segment_end (K.layout h) (not b)) last at image → IsRefused image (Damaged at Frame)
    -- their records, likewise
    bad_record : (h : H) (c : Bool) (s : S) (b : Bool) (frames : List (List ℕ)) (last : ℕ) (more : List (List ℕ)) (at : ℕ)
        → HasFrames h image c s b frames last → GoesOn h image b last more
        → IsBadRecord (first_gate (K.layout h) b) s frames at → IsRefused image (Damaged at Record)
    other_record : (h : H) (c : Bool) (s : S) (b : Bool) (frames : List (List ℕ)) (last : ℕ) (middle : S) (more : List (List ℕ)) (at : ℕ)
        → HasFrames h image c s b frames last → GoesOn h image b last more → Replays K s frames middle
        → IsBadRecord (first_gate (K.layout h) (not b)) middle more at → IsRefused image (Damaged at Record)
    -- the segment that isn't read
    bad_rest : (h : H) (c : Bool) (s : S) (b : Bool) (frames : List (List ℕ)) (last : ℕ) (t : S)
        → HasFrames h image c s b frames last → Replays K s frames t → IsOpenAt (segment_at (K.layout h) (not b)) image
        → last + 1 < segment_first K h image (not b) → IsRefused image (Damaged (segment_at (K.layout h) (not b)) Segment)
