-- A write in one part of a file leaves the others.
use Rattle.std.proofs.Common.{◌≡◌, ◌⊎◌, inl, inr, ⊎_elim, ℕ, ◌+◌, ◌≤◌, ◌<◌, List, [], ◌∷◌, length, take, drop, sym, ◌∙◌, ap, arith, length-take, length-drop, Bool, true, false, not}
use Rattle.std.proofs.lemmas.List.{ext_get_or, get_or-take, get_or-drop}
use Rattle.pfx_disk.specs.Disk.{Torn}
use Rattle.pfx_segment.specs.Frames.{AreFrames, size}
use Rattle.pfx_segment.proofs.FrameLemmas.{Agree, frames_local, shut_behind}
use Rattle.pfx_store_image.specs.Layout.{Layout, area_at, segment_at, file_len, first_at}
use Rattle.pfx_store_image.specs.Codec.{Codec}
use Rattle.pfx_store_image.specs.Store.{InArea, IsLower, InSegment, IsPassed}

pub part_local : (at n : ℕ) (x y : List ℕ) → at + n ≤ length x → length y ≡ length x → Agree at (at + n) x y → take n (drop at y) ≡ take n (drop at x)
part_local at n x y inside long agree =
    ext_get_or 0 (take n (drop at y)) (take n (drop at x)) (same_len) (λ i below.
    get_or-take n (drop at y) i 0 (short i below) ∙ get_or-drop at y i 0 ∙ agree (at + i) (omega arith) (omega (arith, short i below)) ∙ sym (get_or-take n (drop at x) i 0 (short i below) ∙ get_or-drop at x i 0))
  where
    same_len : length (take n (drop at y)) ≡ length (take n (drop at x))
    same_len = omega (arith, length-take n (drop at y), length-take n (drop at x), length-drop at y, length-drop at x, long)

    short : (i : ℕ) → i < length (take n (drop at y)) → i < n
    short i below = omega (arith, below, length-take n (drop at y))

pub agree_part : (from to a b : ℕ) (x y : List ℕ) → Agree from to x y → from ≤ a → b ≤ to → Agree a b x y
agree_part from to a b x y agree low high i above below = agree i (omega (arith, low, above)) (omega (arith, high, below))

pub ends_inside : (gate end : ℕ) (frames : List (List ℕ)) (x : List ℕ) → gate < end → AreFrames gate end frames x → gate + size frames < end
ends_inside gate end [] x inside are = omega (arith, inside)
ends_inside gate end (frame ∷ frames) x inside are = omega (arith, ends_inside (gate + length frame) end frames x are.2 are.3)

module _ {H S : Type 0} (K : Codec H S) (h : H) (x y : List ℕ) (long : length y ≡ length x) where
  pub area_local : (s : S) (at : ℕ) → at + 1 + (K.layout h).body ≤ length x → Agree at (at + 1 + (K.layout h).body) x y → InArea K h s at x → InArea K h s at y
  area_local s at inside agree is = record {
    gate = agree at (omega arith) (omega arith) ∙ is.gate;
    body = ap (K.read_state h) (part_local (at + 1) (K.layout h).body x y inside long (agree_part at (at + 1 + (K.layout h).body) (at + 1) (at + 1 + (K.layout h).body) x y agree (omega arith) (omega arith))) ∙ is.body;
  }

  pub lower_local : (n at : ℕ) → at + 1 + (K.layout h).body ≤ length x → Agree at (at + 1 + (K.layout h).body) x y → IsLower K h n at x → IsLower K h n at y
  lower_local n at inside agree (inl shut) = inl (λ opened. shut (sym (agree at (omega arith) (omega arith)) ∙ opened))
  lower_local n at inside agree (inr low) = inr (omega (arith, low, ap K.area_number (part_local (at + 1) (K.layout h).body x y inside long (agree_part at (at + 1 + (K.layout h).body) (at + 1) (at + 1 + (K.layout h).body) x y agree (omega arith) (omega arith)))))

  pub first_local : (at : ℕ) → at + (K.layout h).segment ≤ length x → Agree at (at + (K.layout h).segment) x y → first_at at y ≡ first_at at x
  first_local at inside agree = part_local (at + 1) 8 x y (omega (arith, inside, (K.layout h).room)) long (agree_part at (at + (K.layout h).segment) (at + 1) (at + 1 + 8) x y agree (omega arith) (omega (arith, (K.layout h).room)))

  pub segment_local : (first : ℕ) (frames : List (List ℕ)) (at : ℕ) → at + (K.layout h).segment ≤ length x → Agree at (at + (K.layout h).segment) x y → InSegment K h first frames at x → InSegment K h first frames at y
  segment_local first frames at inside agree is =
      let ends = ends_inside (at + 9) (at + (K.layout h).segment) frames x (omega (arith, (K.layout h).room)) is.are in
      record {
        gate = agree at (omega arith) (omega (arith, (K.layout h).room)) ∙ is.gate;
        number = ap K.segment_number (first_local at inside agree) ∙ is.number;
        are = frames_local (at + 9) (at + (K.layout h).segment) frames x y (agree_part at (at + (K.layout h).segment) (at + 9) (at + 9 + size frames) x y agree (omega arith) (omega (arith, ends)))
            (λ opened. shut_behind (at + 9) (at + (K.layout h).segment) frames x is.are (sym (agree (at + 9 + size frames) (omega arith) ends) ∙ opened)) is.are;
      }

  pub passed_local : (n other at : ℕ) → at + (K.layout h).segment ≤ length x → Agree at (at + (K.layout h).segment) x y → IsPassed K n other at x → IsPassed K n other at y
  passed_local n other at inside agree (inl shut) = inl (λ opened. shut (sym (agree at (omega arith) (omega (arith, (K.layout h).room))) ∙ opened))
  passed_local n other at inside agree (inr low) = let same = ap K.segment_number (first_local at inside agree) in inr (omega (arith, low.0, same), λ is. low.1 (sym same ∙ is))

module _ (L : Layout) where
  pub area_inside : (b : Bool) → area_at L b + 1 + L.body ≤ file_len L
  area_inside false = omega arith
  area_inside true = omega arith

  pub segment_inside : (b : Bool) → segment_at L b + L.segment ≤ file_len L
  segment_inside false = omega arith
  segment_inside true = omega arith

  pub area_before : (b c : Bool) → area_at L b + 1 + L.body ≤ segment_at L c
  area_before false false = omega arith
  area_before false true = omega arith
  area_before true false = omega arith
  area_before true true = omega arith

  pub head_before : (b : Bool) → L.head ≤ area_at L b
  head_before false = omega arith
  head_before true = omega arith

  pub areas_apart : (b : Bool) → (area_at L b + 1 + L.body ≤ area_at L (not b)) ⊎ (area_at L (not b) + 1 + L.body ≤ area_at L b)
  areas_apart false = inl (omega arith)
  areas_apart true = inr (omega arith)

  pub segments_apart : (b : Bool) → (segment_at L b + L.segment ≤ segment_at L (not b)) ⊎ (segment_at L (not b) + L.segment ≤ segment_at L b)
  segments_apart false = inl (omega arith)
  segments_apart true = inr (omega arith)

module _ (L : Layout) (at n : ℕ) (x y : List ℕ) (long : length x ≡ file_len L) (torn : Torn at n x y) where
  pub agree_aside : (from to : ℕ) → to ≤ file_len L → (to ≤ at) ⊎ (at + n ≤ from) → Agree from to x y
  agree_aside from to inside aside i low high = torn.elsewhere i (omega (arith, high, inside, long)) (⊎_elim (λ before. inl (omega (arith, high, before))) (λ behind. inr (omega (arith, low, behind))) aside)

  pub same_long : at + n ≤ file_len L → length y ≡ length x
  same_long inside = omega (arith, torn.no_shorter, torn.no_longer, inside, long)

  pub same_head : at + n ≤ file_len L → L.head ≤ at → take L.head y ≡ take L.head x
  same_head inside behind = part_local 0 L.head x y (omega (arith, behind, inside, long)) (same_long inside) (λ i low high. agree_aside 0 L.head (omega (arith, behind, inside)) (inl behind) i low (omega (arith, high)))

  -- a write in the segment b
  pub area_of_segment : (b c : Bool) → segment_at L b ≤ at → Agree (area_at L c) (area_at L c + 1 + L.body) x y
  area_of_segment b c low = agree_aside (area_at L c) (area_at L c + 1 + L.body) (area_inside L c) (inl (omega (arith, area_before L c b, low)))

  pub other_segment : (b : Bool) → segment_at L b ≤ at → at + n ≤ segment_at L b + L.segment → Agree (segment_at L (not b)) (segment_at L (not b) + L.segment) x y
  other_segment b low high = agree_aside (segment_at L (not b)) (segment_at L (not b) + L.segment) (segment_inside L (not b))
      (⊎_elim (λ before. inr (omega (arith, before, high))) (λ behind. inl (omega (arith, behind, low))) (segments_apart L b))

  -- a write in the checkpoint area b
  pub segment_of_area : (b c : Bool) → at + n ≤ area_at L b + 1 + L.body → Agree (segment_at L c) (segment_at L c + L.segment) x y
  segment_of_area b c high = agree_aside (segment_at L c) (segment_at L c + L.segment) (segment_inside L c) (inr (omega (arith, area_before L b c, high)))

  pub other_area : (b : Bool) → area_at L b ≤ at → at + n ≤ area_at L b + 1 + L.body → Agree (area_at L (not b)) (area_at L (not b) + 1 + L.body) x y
  other_area b low high = agree_aside (area_at L (not b)) (area_at L (not b) + 1 + L.body) (area_inside L (not b))
      (⊎_elim (λ before. inr (omega (arith, before, high))) (λ behind. inl (omega (arith, behind, low))) (areas_apart L b))
