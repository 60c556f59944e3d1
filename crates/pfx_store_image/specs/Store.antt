-- The files that a store leaves, as those who write them see them.
use Rattle.std.specs.Prelude.{◌≡◌, ◌≢◌, ◌⊎◌, ℕ, ◌+◌, ◌<◌, List, [], ◌∷◌, ◌++◌, length, Bool, true, false, not, Some, Ok}
use Rattle.pfx_segment.specs.Frames.{AreFrames, size}
use Rattle.pfx_store_image.specs.declared.head.TheConstants.{SEGMENT_HEAD}
use Rattle.pfx_store_image.specs.Layout.{area_at, segment_at, file_len, IsOpenAt, IsClosedAt, body_at, first_at}
use Rattle.pfx_store_image.specs.Codec.{Codec}

-- The checkpoint area in use, and its state. Whether two segments are to be read: then the frames of the first, and the state
-- after them; else there are none, and the state after them is the checkpoint area's. The segment read last, and its frames.
pub record Parts (S : Type 0) : Type 0 where
  pub area : Bool
  pub base : S
  pub turned : Bool
  pub before : List (List ℕ)
  pub middle : S
  pub segment : Bool
  pub frames : List (List ℕ)

module _ {H S : Type 0} (K : Codec H S) where
  -- the frames' records lead from one state to the other
  abbrev pub Replays : S → List (List ℕ) → S → Type 0
  Replays s [] t = s ≡ t
  Replays s (frame ∷ frames) t = (r : S) × (K.apply s frame ≡ Some r) × Replays r frames t

  -- the frames' heads lead from one number to the other
  abbrev pub Numbers : ℕ → List (List ℕ) → ℕ → Type 0
  Numbers n [] m = n ≡ m
  Numbers n (frame ∷ frames) m = (k : ℕ) × (K.after n frame ≡ Some k) × Numbers k frames m

  -- the segment at this place is closed, or begins with a number below the one and not with the other
  abbrev pub IsPassed : ℕ → ℕ → ℕ → List ℕ → Type 0
  IsPassed n other at image = IsClosedAt at image
      ⊎ ((K.segment_number (first_at at image) < n) × (K.segment_number (first_at at image) ≢ other))

  module _ (h : H) where
    -- an open checkpoint area at this place holds this state
    pub record InArea (s : S) (at : ℕ) (image : List ℕ) : Type 0 where
      pub gate : IsOpenAt at image
      pub body : K.read_state h (body_at (K.layout h) at image) ≡ Some s

    -- the checkpoint area at this place is closed, or has a lower number
    abbrev pub IsLower : ℕ → ℕ → List ℕ → Type 0
    IsLower n at image = IsClosedAt at image ⊎ (K.area_number (body_at (K.layout h) at image) < n)

    -- an open segment at this place begins with this number and holds these frames, with a closed gate behind them
    pub record InSegment (first : ℕ) (frames : List (List ℕ)) (at : ℕ) (image : List ℕ) : Type 0 where
      pub gate : IsOpenAt at image
      pub number : K.segment_number (first_at at image) ≡ first
      pub are : AreFrames (at + SEGMENT_HEAD) (at + (K.layout h).segment) frames image

    -- how the segment that isn't read last stands: it isn't read, or it is read first and has a frame at least
    abbrev pub Other : Bool → Parts S → S → List ℕ → Type 0
    Other false p s image = IsPassed (K.number s + 1) (K.number p.base + 1) (segment_at (K.layout h) (not p.segment)) image
        × (p.base ≡ p.middle) × (p.before ≡ [])
    Other true p s image = InSegment (K.number p.base + 1) p.before (segment_at (K.layout h) (not p.segment)) image
        × Replays p.base p.before p.middle × (K.number p.base < K.number p.middle)

    -- a store of this header and these parts, at this state, may leave this file
    pub record IsStore (p : Parts S) (s : S) (image : List ℕ) : Type 0 where
      pub head : K.read_head image ≡ Ok h
      pub long : length image ≡ file_len (K.layout h)
      pub area : InArea p.base (area_at (K.layout h) p.area) image
      pub lower : IsLower (K.number p.base) (area_at (K.layout h) (not p.area)) image
      pub current : InSegment (K.number p.middle + 1) p.frames (segment_at (K.layout h) p.segment) image
      pub other : Other p.turned p s image
      pub state : Replays p.middle p.frames s

    -- the gate that the next frame gets
    abbrev pub next_gate : Parts S → ℕ
    next_gate p = segment_at (K.layout h) p.segment + SEGMENT_HEAD + size p.frames

-- the parts if this one segment is read
abbrev pub single : {S : Type 0} → Bool → S → Bool → List (List ℕ) → Parts S
single c s b frames = record {
  area = c;
  base = s;
  turned = false;
  before = [];
  middle = s;
  segment = b;
  frames = frames;
}

-- the parts if two segments are read, this one first
abbrev pub double : {S : Type 0} → Bool → S → Bool → List (List ℕ) → S → List (List ℕ) → Parts S
double c s b before middle frames = record {
  area = c;
  base = s;
  turned = true;
  before = before;
  middle = middle;
  segment = not b;
  frames = frames;
}

-- with a frame more
abbrev pub with_frame : {S : Type 0} → Parts S → List ℕ → Parts S
with_frame p frame = record p { frames = p.frames ++ frame ∷ [] }

-- turned to the other segment at this state
abbrev pub turned_at : {S : Type 0} → Parts S → S → Parts S
turned_at p s = record {
  area = p.area;
  base = p.base;
  turned = true;
  before = p.frames;
  middle = s;
  segment = not p.segment;
  frames = [];
}

-- with the state of the turn in the other checkpoint area, if the checkpoint has ended
abbrev pub finished : {S : Type 0} → Parts S → Parts S
finished p = record {
  area = not p.area;
  base = p.middle;
  turned = false;
  before = [];
  middle = p.middle;
  segment = p.segment;
  frames = p.frames;
}
