-- A new file as a store's.
use Rattle.std.proofs.Common.{◌≡◌, ℕ, ◌+◌, ◌*◌, List, length, sym, ◌∙◌, ap, subst, arith, Bool, true, false, not}
use Rattle.std.proofs.lemmas.Bool.{true≢false}
use Rattle.pfx_store_image.specs.Codec.{Codec}
use Rattle.pfx_store_image.specs.Layout.{Layout, area_at, segment_at, IsClosedAt}
use Rattle.pfx_store_image.specs.NewFile.{new_file, new_parts, IsNewFile}
use Rattle.pfx_store_image.proofs.NewFiles.{made_new}
use Rattle.pfx_store_file.specs.Checkpoints.{in_progress}
use Rattle.pfx_store_file.specs.Holding.{ArePlaces, IsGate}
use Rattle.pfx_store_file.specs.declared.places.Places.{Places}
use Rattle.pfx_store_create.specs.Attempts.{IsMadeOf}
use Rattle.pfx_store_create.specs.Creating.{HasLengths}
use Rattle.pfx_store_create.specs.NewPlaces.{AreNew}
use Rattle.pfx_store_create.proofs.NewBytes.{long_file}

-- the places end where the file does
pub as_long : (L : Layout) (head body first : List ℕ) (segment n head_len body_len segment_len : ℕ) (contents : List ℕ) → length first ≡ 8 → HasLengths L head body segment
    → head_len ≡ length head → body_len ≡ length body → segment_len ≡ segment → head_len + 2 * (1 + body_len) + 2 * segment_len ≡ n
    → contents ≡ new_file L head body first → n ≡ length contents
as_long L head body first segment n head_len body_len segment_len contents eight has of_head of_body of_segment whole is =
    omega (arith, of_head, of_body, of_segment, whole, ap length is, long_file L head body first segment eight has)

gate_of : (is_open : Bool) (at : ℕ) (image : List ℕ) → is_open ≡ false → IsClosedAt at image → IsGate is_open at image
gate_of true at image is shut = absurd (true≢false is)
gate_of false at image is shut = shut

module _ {H S : Type 0} (K : Codec H S) (h : H) (s : S) (head body first : List ℕ) (segment : ℕ) (made : IsMadeOf K h s head body first segment) where
  is_new : IsNewFile K h s (new_file (K.layout h) head body first)
  is_new = made_new K made.laws h s head body first made.parts

  module _ (places : Places) (are : AreNew (length head) (length body) segment places) where
    pub are_places : ArePlaces K h (new_parts s) places
    are_places = record {
      fits = record { head = are.head ∙ made.parts.head_long; body = are.body ∙ made.parts.body_long; segment = are.segment_len ∙ made.of_segment };
      area = are.area;
      segment = are.segment;
      turned = ap in_progress are.checkpoint;
      gate = omega (arith, are.gate, made.parts.head_long, made.parts.body_long);
      end = omega (arith, are.end, made.parts.head_long, made.parts.body_long, made.of_segment);
    }

    module _ (contents : List ℕ) (is : contents ≡ new_file (K.layout h) head body first) where
      pub area_gate : IsGate places.area_open (area_at (K.layout h) (not false)) contents
      area_gate = gate_of places.area_open (area_at (K.layout h) (not false)) contents are.area_open (subst (λ (l : List ℕ). IsClosedAt (area_at (K.layout h) true) l) (sym is) is_new.other_area)

      pub segment_gate : IsGate places.segment_open (segment_at (K.layout h) (not false)) contents
      segment_gate = gate_of places.segment_open (segment_at (K.layout h) (not false)) contents are.segment_open (subst (λ (l : List ℕ). IsClosedAt (segment_at (K.layout h) true) l) (sym is) is_new.other_segment)
