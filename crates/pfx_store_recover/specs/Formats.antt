-- What is known of a format beside the laws of its codec.
use Rattle.std.specs.Prelude.{◌≡◌, ℕ, ◌<◌, ◌≤◌, ◌^◌, List, length, take, Bool, IsTrue, IsFalse, Some, None}
use Rattle.pfx_store_image.specs.Codec.{Codec}
use Rattle.pfx_store_image.specs.Layout.{Layout}
use Rattle.pfx_store_file.specs.Sizes.{HasSizes}
use Rattle.pfx_store_file.specs.declared.sizes.Sizes.{Sizes}

-- what reading a file needs of its format, beside the laws
pub record Bounds {H S : Type 0} (K : Codec H S) (fits : H → S → Type 0) (most : ℕ) : Type 0 where
  -- so many bytes at the front are enough for each header
  pub front : (bytes : List ℕ) → K.read_head (take most bytes) ≡ K.read_head bytes
  -- the number in a checkpoint area is read from its first eight bytes
  pub eight : (bytes : List ℕ) → K.area_number (take 8 bytes) ≡ K.area_number bytes
  -- numbers stay below 2^48
  pub after : (n : ℕ) (frame : List ℕ) (m : ℕ) → K.after n frame ≡ Some m → m < 2 ^ 48
  pub number : (h : H) (bytes : List ℕ) (s : S) → K.read_state h bytes ≡ Some s → K.number s < 2 ^ 48
  -- a state that is read fits, and so does one after a frame's records
  pub read : (h : H) (bytes : List ℕ) (s : S) → K.read_state h bytes ≡ Some s → fits h s
  pub applied : (h : H) (s : S) (frame : List ℕ) (t : S) → fits h s → K.apply s frame ≡ Some t → fits h t

-- these are the lengths of the layout's parts, and a checkpoint area's body has room for the eight bytes of its number
pub record AreSizes (L : Layout) (lengths : Sizes) : Type 0 where
  pub sizes : HasSizes L lengths
  pub number : 8 ≤ lengths.body

-- the frame's records were right at a state, and lead to the next one; or they weren't
pub record Applies {H S : Type 0} (K : Codec H S) (old : S) (frame : List ℕ) (new : S) (right : Bool) : Type 0 where
  pub taken : IsTrue right → K.apply old frame ≡ Some new
  pub wrong : IsFalse right → K.apply old frame ≡ None

-- a checkpoint area of a file with this header can hold the state, and here is room for its body
pub record CanEncode {H S : Type 0} (K : Codec H S) (can_hold : H → S → Type 0) (h : H) (s : S) (room : List ℕ) : Type 0 where
  pub state : can_hold h s
  pub long : length room ≡ (K.layout h).body

-- that room has such a body now, and the state is read from it
pub record Encodes {H S : Type 0} (K : Codec H S) (h : H) (state : S) (room body : List ℕ) : Type 0 where
  pub read : K.read_state h body ≡ Some state
  pub long : length body ≡ length room
