-- A file that is recovered is one that a store may leave.
use Rattle.std.proofs.Common.{◌≡◌, ◌≢◌, ◌⊎◌, inl, inr, ⊎_elim, ℕ, ◌+◌, List, length, get_or, refl, sym, subst, arith, Bool, not, Ok}
use Rattle.std.proofs.lemmas.Bool.{cases_eq}
use Rattle.pfx_disk.specs.declared.gates.TheConstants.{GATE_OPEN}
use Rattle.pfx_segment.specs.Frames.{AreFrames}
use Rattle.pfx_store_image.specs.Causes.{BeginsElse}
use Rattle.pfx_store_image.specs.Codec.{Codec, Laws}
use Rattle.pfx_store_image.specs.Layout.{area_at, segment_at, first_gate, segment_end, file_len, IsOpenAt, body_at}
use Rattle.pfx_store_image.specs.Recovery.{Found, segment_first, walk_segment, from_one, from_two, from_head, found, recovered}
use Rattle.pfx_store_image.specs.Store.{Parts, Numbers, InArea, IsLower, InSegment, IsStore}
use Rattle.pfx_store_image.proofs.Answers.{ok_same, ok_back}
use Rattle.pfx_store_image.proofs.Runs.{not_not, numbers_of, numbers_rise}
use Rattle.pfx_store_image.proofs.Backs.{from_one_back, from_two_back, from_frames_back, from_segment_back, from_state_back, from_area_back, from_head_back, passed_back, end_inside, area_of, segment_of, BegunSegment, replays_back, numbers_same, walk_back}

module _ {H S : Type 0} (K : Codec H S) (laws : Laws K) where
  module _ (h : H) (x : List ℕ) where
    -- What is found there: a store's file, if the header is this one.
    abbrev Stands : Found H S → Type 0
    Stands t = (t.head ≡ h) × IsStore K h t.parts t.state x

    one_stands : (c : Bool) (s : S) (b : Bool) (frames : List (List ℕ)) (last : ℕ) (t : Found H S) → K.read_head x ≡ Ok h → length x ≡ file_len (K.layout h) → InArea K h s (area_at (K.layout h) c) x → IsLower K h (K.number s) (area_at (K.layout h) (not c)) x → BegunSegment K h x (K.number s + 1) b
        → AreFrames (first_gate (K.layout h) b) (segment_end (K.layout h) b) frames x → Numbers K (K.number s) frames last → BeginsElse K h x (not b) (last + 1) → from_one K h x c s b frames last ≡ Ok t → Stands t
    one_stands c s b frames last t head long area lower begins are numbers past is =
        let e = from_one_back K h x c s b frames last t is in
        let u = e.0 in
        let run = replays_back K (first_gate (K.layout h) b) s frames u e.1 in
        let last_is : last ≡ K.number u = numbers_same K (K.number s) frames last (K.number u) numbers (numbers_of K laws s frames u run) in
        let low = passed_back K h x last (not b) e.2 in
        subst Stands e.3 (
          refl,
          record {
            head = head;
            long = long;
            area = area;
            lower = lower;
            current = record { gate = begins.0; number = begins.1; are = are };
            other = (
              elim (cases_eq (get_or x (segment_at (K.layout h) (not b)) 0) GATE_OPEN) [
                | inr shut ↦ inl shut
                | inl opened ↦ inr (
                  ⊎_elim (λ shut. absurd (shut opened)) (λ below. omega (arith, below, last_is)) low,
                  ⊎_elim (λ shut. absurd (shut opened)) (λ other. other) begins.2,
                )
              ],
              refl,
              refl,
            );
            state = run;
          },
        )

    two_stands : (c : Bool) (s : S) (b : Bool) (before frames : List (List ℕ)) (last end : ℕ) (t : Found H S) → K.read_head x ≡ Ok h → length x ≡ file_len (K.layout h) → InArea K h s (area_at (K.layout h) c) x → IsLower K h (K.number s) (area_at (K.layout h) (not c)) x → BegunSegment K h x (K.number s + 1) b
        → AreFrames (first_gate (K.layout h) b) (segment_end (K.layout h) b) before x → Numbers K (K.number s) before last → IsOpenAt (segment_at (K.layout h) (not b)) x → segment_first K h x (not b) ≡ last + 1
        → AreFrames (first_gate (K.layout h) (not b)) (segment_end (K.layout h) (not b)) frames x → Numbers K last frames end → from_two K h x c s b before frames ≡ Ok t → Stands t
    two_stands c s b before frames last end t head long area lower begins are numbers opened next are_next numbers_next is =
        let e = from_two_back K h x c s b before frames t is in
        let middle = e.0 in
        let run_1 = replays_back K (first_gate (K.layout h) b) s before middle e.1 in
        let run_2 = replays_back K (first_gate (K.layout h) (not b)) middle frames e.2.0 e.2.1 in
        let last_is : last ≡ K.number middle = numbers_same K (K.number s) before last (K.number middle) numbers (numbers_of K laws s before middle run_1) in
        let rise = numbers_rise K laws (K.number s) before (K.number middle) (numbers_of K laws s before middle run_1) in
        let different : K.number s + 1 ≢ K.number middle + 1 = ⊎_elim (λ shut. absurd (shut opened)) (λ other. λ same. other (omega (arith, next, last_is, same))) begins.2 in
        subst Stands e.2.2 (
          refl,
          record {
            head = head;
            long = long;
            area = area;
            lower = lower;
            current = record { gate = opened; number = omega (arith, next, last_is); are = are_next };
            other = (subst (λ d. InSegment K h (K.number s + 1) before (segment_at (K.layout h) d) x) (sym (not_not b)) (record { gate = begins.0; number = begins.1; are = are }), run_1, omega (arith, rise, different));
            state = run_2;
          },
        )

    frames_stand : (c : Bool) (s : S) (b : Bool) (frames : List (List ℕ)) (last : ℕ) (t : Found H S) → K.read_head x ≡ Ok h → length x ≡ file_len (K.layout h) → InArea K h s (area_at (K.layout h) c) x → IsLower K h (K.number s) (area_at (K.layout h) (not c)) x → BegunSegment K h x (K.number s + 1) b
        → AreFrames (first_gate (K.layout h) b) (segment_end (K.layout h) b) frames x → Numbers K (K.number s) frames last
        → (IsOpenAt (segment_at (K.layout h) (not b)) x × (segment_first K h x (not b) ≡ last + 1) × ((w : List (List ℕ) × ℕ) × (walk_segment K h x last (not b) ≡ Ok w) × (from_two K h x c s b frames w.0 ≡ Ok t)))
        ⊎ (BeginsElse K h x (not b) (last + 1) × (from_one K h x c s b frames last ≡ Ok t))
        → Stands t
    frames_stand c s b frames last t head long area lower begins are numbers (inl on) =
        let second = walk_back K (1 + file_len (K.layout h)) (first_gate (K.layout h) (not b)) (segment_end (K.layout h) (not b)) last x on.2.0.0 on.2.0.1 (end_inside K h x (not b) long) on.2.1 in
        two_stands c s b frames on.2.0.0 last on.2.0.1 t head long area lower begins are numbers on.0 on.1 second.0 second.1 on.2.2
    frames_stand c s b frames last t head long area lower begins are numbers (inr past) = one_stands c s b frames last t head long area lower begins are numbers past.0 past.1

    head_stands : (t : Found H S) → K.read_head x ≡ Ok h → from_head K h x ≡ Ok t → Stands t
    head_stands t head is =
        let r = from_head_back K h x t is in
        let c = r.1.0 in
        let area = area_of K h x c r.1.1 in
        let f = from_area_back K h x c t r.1.2 in
        let s = f.0 in
        let in_area : InArea K h s (area_at (K.layout h) c) x = record { gate = area.0; body = f.1 } in
        let numbered = laws.area_number h (body_at (K.layout h) (area_at (K.layout h) c) x) s f.1 in
        let lower : IsLower K h (K.number s) (area_at (K.layout h) (not c)) x = ⊎_elim (λ shut. inl shut) (λ low. inr (omega (arith, low, numbered))) area.1 in
        let g = from_state_back K h x c s t f.2 in
        let b = g.0 in
        let begins = segment_of K h x (K.number s + 1) b g.1 in
        let w = from_segment_back K h x c s b t g.2 in
        let first = walk_back K (1 + file_len (K.layout h)) (first_gate (K.layout h) b) (segment_end (K.layout h) b) (K.number s) x w.0.0 w.0.1 (end_inside K h x b r.0) w.1 in
        frames_stand c s b w.0.0 w.0.1 t head r.0 in_area lower begins first.0 first.1 (from_frames_back K h x c s b w.0.0 w.0.1 t w.2)

  pub found_stands : (t : Found H S) (x : List ℕ) → found K x ≡ Ok t → IsStore K t.head t.parts t.state x
  unfolding found
  found_stands t x is =
      let e = ok_back (K.read_head x) (λ h. from_head K h x) t is in
      let f = head_stands e.0 x t e.1 e.2 in
      subst (λ h. IsStore K h t.parts t.state x) (sym f.0) f.1

  pub stands : (s : S) (x : List ℕ) → recovered K x ≡ Ok s → (h : H) × (p : Parts S) × IsStore K h p s x
  unfolding recovered
  stands s x is =
      let e = ok_back (found K x) (λ f. Ok f.state) s is in
      let f = found_stands e.0 x e.1 in
      (e.0.head, e.0.parts, subst (λ t. IsStore K e.0.head e.0.parts t x) (ok_same e.0.state s e.2) f)
