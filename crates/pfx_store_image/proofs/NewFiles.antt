-- New files.
use Rattle.std.proofs.Common.{◌≡◌, ◌≢◌, inl, ℕ, suc, ◌+◌, ◌*◌, ◌-◌, ◌<◌, List, ◌∷◌, ◌++◌, length, get_or, take, drop, replicate, refl, sym, ◌∙◌, ap, arith, length-append, length-take, true, false, Some, Ok}
use Rattle.std.proofs.lemmas.List.{ext_get_or, get_or-take, get_or_append_left, get_or-append-add, get_or-replicate, length-replicate}
use Rattle.pfx_disk.specs.declared.gates.TheConstants.{GATE_OPEN}
use Rattle.pfx_segment.specs.Segment.{StandAt}
use Rattle.pfx_segment.proofs.FrameLemmas.{part_is}
use Rattle.pfx_store_image.specs.Codec.{Codec, Laws}
use Rattle.pfx_store_image.specs.Layout.{Layout, area_at, segment_at, first_gate, file_len, body_at, first_at}
use Rattle.pfx_store_image.specs.NewFile.{IsNewFile, new_parts, new_file, ArePartsOfNew}
use Rattle.pfx_store_image.specs.Store.{IsStore}

pub new_store : {H S : Type 0} (K : Codec H S) (h : H) (s : S) (image : List ℕ) → IsNewFile K h s image → IsStore K h (new_parts s) s image
new_store K h s image is = record {
  head = is.head;
  long = is.long;
  area = is.area;
  lower = inl is.other_area;
  current = record { gate = is.segment; number = is.first; are = is.no_frame };
  other = (inl is.other_segment, refl, refl);
  state = refl;
}

module _ (L : Layout) (head body first : List ℕ) (of_head : length head ≡ L.head) (of_body : length body ≡ L.body) (of_first : length first ≡ 8) where
  abbrev to_area : List ℕ
  to_area = head ++ (GATE_OPEN ∷ body)

  abbrev to_segments : List ℕ
  to_segments = head ++ (GATE_OPEN ∷ body) ++ replicate (1 + L.body) 0

  abbrev to_number : List ℕ
  to_number = head ++ (GATE_OPEN ∷ body) ++ replicate (1 + L.body) 0 ++ (GATE_OPEN ∷ first)

  long_area : length to_area ≡ L.head + (1 + L.body)
  long_area = omega (arith, length-append head (GATE_OPEN ∷ body), of_head, of_body)

  long_segments : length to_segments ≡ L.head + 2 * (1 + L.body)
  long_segments = omega (arith, length-append to_area (replicate (1 + L.body) 0), length-replicate {A = ℕ} (1 + L.body) 0, long_area)

  long_number : length to_number ≡ L.head + 2 * (1 + L.body) + 9
  long_number = omega (arith, length-append to_segments (GATE_OPEN ∷ first), long_segments, of_first)

  pub long : length (new_file L head body first) ≡ file_len L
  long = omega (arith, length-append to_number (replicate (2 * L.segment - 9) 0), length-replicate {A = ℕ} (2 * L.segment - 9) 0, long_number, L.room)

  in_number : (i : ℕ) → i < length to_number → get_or (new_file L head body first) i 0 ≡ get_or to_number i 0
  in_number i below = get_or_append_left to_number (replicate (2 * L.segment - 9) 0) 0 i below

  in_segments : (i : ℕ) → i < length to_segments → get_or (new_file L head body first) i 0 ≡ get_or to_segments i 0
  in_segments i below = in_number i (omega (arith, below, long_segments, long_number)) ∙ get_or_append_left to_segments (GATE_OPEN ∷ first) 0 i below

  in_area : (i : ℕ) → i < length to_area → get_or (new_file L head body first) i 0 ≡ get_or to_area i 0
  in_area i below = in_segments i (omega (arith, below, long_area, long_segments)) ∙ get_or_append_left to_area (replicate (1 + L.body) 0) 0 i below

  pub head_stands : StandAt 0 head (new_file L head body first)
  head_stands i below = ap (λ (k : ℕ). get_or (new_file L head body first) k 0) (none i) ∙ in_area i (omega (arith, below, long_area, of_head)) ∙ get_or_append_left head (GATE_OPEN ∷ body) 0 i below
    where
      none : (i : ℕ) → 0 + i ≡ i
      none i = omega arith

  pub area_stands : StandAt (area_at L false) (GATE_OPEN ∷ body) (new_file L head body first)
  area_stands i below = in_area (L.head + i) (omega (arith, below, long_area, of_body)) ∙ ap (λ (k : ℕ). get_or to_area k 0) (place i) ∙ get_or-append-add head (GATE_OPEN ∷ body) i 0
    where
      place : (i : ℕ) → L.head + i ≡ length head + i
      place i = omega (arith, of_head)

  pub other_area_zero : (i : ℕ) → i < 1 + L.body → get_or (new_file L head body first) (area_at L true + i) 0 ≡ 0
  other_area_zero i below = in_segments (area_at L true + i) (omega (arith, below, long_segments)) ∙ ap (λ (k : ℕ). get_or to_segments k 0) (place i) ∙ get_or-append-add to_area (replicate (1 + L.body) 0) i 0 ∙ get_or-replicate (1 + L.body) i 0 0 below
    where
      place : (i : ℕ) → area_at L true + i ≡ length to_area + i
      place i = omega (arith, long_area)

  pub segment_stands : StandAt (segment_at L false) (GATE_OPEN ∷ first) (new_file L head body first)
  segment_stands i below = in_number (segment_at L false + i) (omega (arith, below, long_number, of_first)) ∙ ap (λ (k : ℕ). get_or to_number k 0) (place i) ∙ get_or-append-add to_segments (GATE_OPEN ∷ first) i 0
    where
      place : (i : ℕ) → segment_at L false + i ≡ length to_segments + i
      place i = omega (arith, long_segments)

  pub rest_zero : (i : ℕ) → i < 2 * L.segment - 9 → get_or (new_file L head body first) (first_gate L false + i) 0 ≡ 0
  rest_zero i below = ap (λ (k : ℕ). get_or (new_file L head body first) k 0) (place i) ∙ get_or-append-add to_number (replicate (2 * L.segment - 9) 0) i 0 ∙ get_or-replicate (2 * L.segment - 9) i 0 0 below
    where
      place : (i : ℕ) → first_gate L false + i ≡ length to_number + i
      place i = omega (arith, long_number)

module _ {H S : Type 0} (K : Codec H S) (laws : Laws K) (h : H) (s : S) (head body first : List ℕ) (reads : K.read_head head ≡ Ok h) (of_head : length head ≡ (K.layout h).head) (state : K.read_state h body ≡ Some s) (of_body : length body ≡ (K.layout h).body)
    (goes_on : K.segment_number first ≡ K.number s + 1) (of_first : length first ≡ 8) where
  abbrev image : List ℕ
  image = new_file (K.layout h) head body first

  long_image : length image ≡ file_len (K.layout h)
  long_image = long (K.layout h) head body first of_head of_body of_first

  at_place : (at : ℕ) (byte : ℕ) → get_or image (at + 0) 0 ≡ byte → get_or image at 0 ≡ byte
  at_place at byte is = ap (λ (k : ℕ). get_or image k 0) (same at) ∙ is
    where
      same : (at : ℕ) → at ≡ at + 0
      same at = omega arith

  not_open : (byte : ℕ) → byte ≡ 0 → byte ≢ GATE_OPEN
  not_open byte is opened = omega (arith, is, opened)

  behind : (at : ℕ) (bytes : List ℕ) → StandAt at (GATE_OPEN ∷ bytes) image → StandAt (at + 1) bytes image
  behind at bytes stand i below = ap (λ (k : ℕ). get_or image k 0) (next at i) ∙ stand (suc i) (omega (arith, below))
    where
      next : (at i : ℕ) → at + 1 + i ≡ at + suc i
      next at i = omega arith

  head_is : take (K.layout h).head image ≡ take (K.layout h).head head
  head_is = ext_get_or 0 (take (K.layout h).head image) (take (K.layout h).head head)
      (omega (arith, length-take (K.layout h).head image, length-take (K.layout h).head head, long_image, of_head))
      (λ i below. get_or-take (K.layout h).head image i 0 (short i below) ∙ first_bytes i (omega (arith, short i below, of_head)) ∙ sym (get_or-take (K.layout h).head head i 0 (short i below)))
    where
      short : (i : ℕ) → i < length (take (K.layout h).head image) → i < (K.layout h).head
      short i below = omega (arith, below, length-take (K.layout h).head image)

      first_bytes : (i : ℕ) → i < length head → get_or image i 0 ≡ get_or head i 0
      first_bytes i below = ap (λ (k : ℕ). get_or image k 0) (same i) ∙ head_stands (K.layout h) head body first of_head of_body of_first i below
        where
          same : (i : ℕ) → i ≡ 0 + i
          same i = omega arith

  body_is : body_at (K.layout h) (area_at (K.layout h) false) image ≡ body
  body_is = ap (λ n. take n (drop (area_at (K.layout h) false + 1) image)) (sym of_body)
      ∙ part_is (area_at (K.layout h) false + 1) body image (omega (arith, long_image, of_body)) (behind (area_at (K.layout h) false) body (area_stands (K.layout h) head body first of_head of_body of_first))

  first_is : first_at (segment_at (K.layout h) false) image ≡ first
  first_is = ap (λ n. take n (drop (segment_at (K.layout h) false + 1) image)) (sym of_first)
      ∙ part_is (segment_at (K.layout h) false + 1) first image (omega (arith, long_image, of_first, (K.layout h).room)) (behind (segment_at (K.layout h) false) first (segment_stands (K.layout h) head body first of_head of_body of_first))

  pub new_file_is : IsNewFile K h s (new_file (K.layout h) head body first)
  new_file_is = record {
    head = laws.head_alone h head image reads head_is;
    long = long_image;
    area = record { gate = at_place (area_at (K.layout h) false) GATE_OPEN (area_stands (K.layout h) head body first of_head of_body of_first 0 (omega arith)); body = ap (K.read_state h) body_is ∙ state };
    other_area = not_open _ (at_place (area_at (K.layout h) true) 0 (other_area_zero (K.layout h) head body first of_head of_body of_first 0 (omega arith)));
    segment = at_place (segment_at (K.layout h) false) GATE_OPEN (segment_stands (K.layout h) head body first of_head of_body of_first 0 (omega arith));
    first = ap K.segment_number first_is ∙ goes_on;
    no_frame = not_open _ (at_place (first_gate (K.layout h) false) 0 (rest_zero (K.layout h) head body first of_head of_body of_first 0 (omega (arith, (K.layout h).room))));
    other_segment = not_open _ (ap (λ (k : ℕ). get_or image k 0) (place (K.layout h) (K.layout h).room) ∙ rest_zero (K.layout h) head body first of_head of_body of_first ((K.layout h).segment - 9) (omega (arith, (K.layout h).room)));
  }
    where
      place : (L : Layout) → 9 < L.segment → segment_at L true ≡ first_gate L false + (L.segment - 9)
      place L room = omega (arith, room)

pub made_new : {H S : Type 0} (K : Codec H S) → Laws K → (h : H) (s : S) (head body first : List ℕ) → ArePartsOfNew K h s head body first → IsNewFile K h s (new_file (K.layout h) head body first)
made_new K laws h s head body first are = new_file_is K laws h s head body first are.header are.head_long are.state are.body_long are.next are.first_long
