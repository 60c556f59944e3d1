-- Which refusals come from the header.
use Rattle.std.proofs.Common.{◌≡◌, ◌≢◌, ℕ, List, sym, ◌∙◌, Ok, Err}
use Rattle.std.proofs.Math.Logic.{◌↔◌}
use Rattle.pfx_store_image.specs.Causes.{IsRefused, bad_header, bad_length, no_area, equal_areas, bad_area, equal_segments, no_segment, bad_head, other_head, bad_record, other_record, bad_rest}
use Rattle.pfx_store_image.specs.Codec.{Codec, Laws}
use Rattle.pfx_store_image.specs.Refusals.{Part, Refusal, Damaged, Header, Length, Checkpoint, Segment, Frame, Record, IsOfHeader}
use Rattle.pfx_store_image.proofs.Answers.{not_ok}

module _ {H S : Type 0} (K : Codec H S) (laws : Laws K) where
  other_part : (h : H) (x : List ℕ) (at : ℕ) (part : Part) → K.read_head x ≡ Ok h → part ≢ Header → IsOfHeader (Damaged at part) ↔ (K.read_head x ≡ Err (Damaged at part))
  other_part h x at part head apart = (λ of. absurd (apart of.1), λ is. not_ok h (Damaged at part) (sym head ∙ is))

  pub of_header : (x : List ℕ) (e : Refusal) → IsRefused K x e → IsOfHeader e ↔ (K.read_head x ≡ Err e)
  of_header x e (bad_header is) = (λ of. is, λ is. laws.head_refused x e is)
  of_header x e (bad_length h head long) = other_part h x _ Length head (λ is. cc)
  of_header x e (no_area h header shut) = other_part h x _ Checkpoint header.head (λ is. cc)
  of_header x e (equal_areas h header opened same) = other_part h x _ Checkpoint header.head (λ is. cc)
  of_header x e (bad_area h c area is) = other_part h x _ Checkpoint area.header.head (λ is. cc)
  of_header x e (equal_segments h c s state opened same) = other_part h x _ Segment state.taken.header.head (λ is. cc)
  of_header x e (no_segment h c s state apart others) = other_part h x _ Segment state.taken.header.head (λ is. cc)
  of_header x e (bad_head h c s b at first is) = other_part h x _ Frame first.state.taken.header.head (λ is. cc)
  of_header x e (other_head h c s b frames last at has begins is) = other_part h x _ Frame has.first.state.taken.header.head (λ is. cc)
  of_header x e (bad_record h c s b frames last more at has on is) = other_part h x _ Record has.first.state.taken.header.head (λ is. cc)
  of_header x e (other_record h c s b frames last middle more at has on run is) = other_part h x _ Record has.first.state.taken.header.head (λ is. cc)
  of_header x e (bad_rest h c s b frames last t has run opened high) = other_part h x _ Segment has.first.state.taken.header.head (λ is. cc)
