-- A new file.
use Rattle.std.specs.Prelude.{◌≡◌, ℕ, ◌+◌, ◌*◌, ◌-◌, List, [], ◌∷◌, ◌++◌, length, replicate, false, true, Some, Ok}
use Rattle.pfx_disk.specs.declared.gates.TheConstants.{GATE_OPEN}
use Rattle.pfx_store_image.specs.declared.head.TheConstants.{SEGMENT_HEAD}
use Rattle.pfx_store_image.specs.Layout.{Layout, area_at, segment_at, first_gate, file_len, IsOpenAt, IsClosedAt, first_at}
use Rattle.pfx_store_image.specs.Codec.{Codec}
use Rattle.pfx_store_image.specs.Store.{Parts, InArea, single}

-- the first checkpoint area is open and holds the state, the first segment is open, begins with the number after the state's and
-- has no frame, and the other checkpoint area and segment are closed
pub record IsNewFile {H S : Type 0} (K : Codec H S) (h : H) (s : S) (image : List ℕ) : Type 0 where
  pub head : K.read_head image ≡ Ok h
  pub long : length image ≡ file_len (K.layout h)
  pub area : InArea K h s (area_at (K.layout h) false) image
  pub other_area : IsClosedAt (area_at (K.layout h) true) image
  pub segment : IsOpenAt (segment_at (K.layout h) false) image
  pub first : K.segment_number (first_at (segment_at (K.layout h) false) image) ≡ K.number s + 1
  pub no_frame : IsClosedAt (first_gate (K.layout h) false) image
  pub other_segment : IsClosedAt (segment_at (K.layout h) true) image

-- the parts of a new file
abbrev pub new_parts : {S : Type 0} → S → Parts S
new_parts s = single false s false []

-- the bytes of a new file, of its header, of the body of its first checkpoint area and of the number of its first segment; zeros
-- are all that is after
abbrev pub new_file : Layout → List ℕ → List ℕ → List ℕ → List ℕ
new_file L head body first =
    head ++ (GATE_OPEN ∷ body) ++ replicate (1 + L.body) 0 ++ (GATE_OPEN ∷ first) ++ replicate (2 * L.segment - SEGMENT_HEAD) 0

-- what these bytes are to stand for: the header, the state, and the number after the state's
pub record ArePartsOfNew {H S : Type 0} (K : Codec H S) (h : H) (s : S) (head body first : List ℕ) : Type 0 where
  pub header : K.read_head head ≡ Ok h
  pub head_long : length head ≡ (K.layout h).head
  pub state : K.read_state h body ≡ Some s
  pub body_long : length body ≡ (K.layout h).body
  pub next : K.segment_number first ≡ K.number s + 1
  pub first_long : length first ≡ 8
