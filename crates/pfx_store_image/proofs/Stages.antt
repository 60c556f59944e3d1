-- Each stage of recovery, if its tests are passed.
use Rattle.std.proofs.Common.{◌≡◌, ◌≢◌, ◌⊎◌, inl, inr, ⊎_elim, ℕ, zero, suc, ◌+◌, ◌≤◌, ◌<◌, List, [], ◌∷◌, length, get_or, take, drop, refl, sym, ◌∙◌, ap, arith, cond, Bool, true, false, not, Some, Result, Ok, Err}
use Rattle.std.proofs.lemmas.Bool.{cases_eq, lt-ltb, le-ltb, false≢true}
use Rattle.pfx_disk.specs.declared.gates.TheConstants.{GATE_OPEN}
use Rattle.pfx_segment.specs.Frames.{AreFrames, number_4}
use Rattle.pfx_segment.proofs.FrameLemmas.{part_is, number_is}
use Rattle.pfx_store_image.specs.Causes.{BeginsElse}
use Rattle.pfx_store_image.specs.Codec.{Codec}
use Rattle.pfx_store_image.specs.Layout.{area_at, segment_at, first_gate, segment_end, file_len, is_open, IsClosedAt, IsOpenAt, body_at}
use Rattle.pfx_store_image.specs.Refusals.{Refusal, Damaged, Checkpoint, Segment, Frame, Record}
use Rattle.pfx_store_image.specs.Recovery.{found_of, on_ok, on_some, taken, begun, walk, replay, segment_first, area_numbered, area_taken, segment_begun, walk_segment, follows, is_passed, from_one, from_two, from_frames, from_segment, from_state, from_area, from_head, found}
use Rattle.pfx_store_image.specs.Store.{Replays, Numbers, IsLower, InSegment, single, double}
use Rattle.pfx_store_image.proofs.Regions.{segment_inside}
use Rattle.pfx_store_image.proofs.Runs.{same_true, other_false}

taken_low : (at_0 at_1 : ℕ) (g h : Bool) (a b : ℕ) → g ≡ true → (h ≡ false) ⊎ (b < a) → taken at_0 at_1 g h a b ≡ Ok false
taken_low at_0 at_1 false h a b opened low = absurd (false≢true opened)
taken_low at_0 at_1 true false a b opened low = refl
taken_low at_0 at_1 true true a b opened (inl shut) = absurd (false≢true (sym shut))
taken_low at_0 at_1 true true a b opened (inr low) = rw (other_false a b (λ is. omega (arith, is, low))) (rw (le-ltb a b (omega (arith, low))) refl)

taken_high : (at_0 at_1 : ℕ) (g h : Bool) (a b : ℕ) → h ≡ true → (g ≡ false) ⊎ (a < b) → taken at_0 at_1 g h a b ≡ Ok true
taken_high at_0 at_1 g false a b opened low = absurd (false≢true opened)
taken_high at_0 at_1 false true a b opened low = refl
taken_high at_0 at_1 true true a b opened (inl shut) = absurd (false≢true (sym shut))
taken_high at_0 at_1 true true a b opened (inr low) = rw (other_false a b (λ is. omega (arith, is, low))) (rw (lt-ltb a b low) refl)

begun_low : (at_0 at_1 : ℕ) (g h : Bool) (n a b : ℕ) → g ≡ true → a ≡ n → (h ≡ false) ⊎ (b ≢ n) → begun at_0 at_1 g h n a b ≡ Ok false
begun_low at_0 at_1 false h n a b opened is other = absurd (false≢true opened)
begun_low at_0 at_1 true false n a b opened is other = rw (same_true a n is) refl
begun_low at_0 at_1 true true n a b opened is (inl shut) = absurd (false≢true (sym shut))
begun_low at_0 at_1 true true n a b opened is (inr other) = rw (other_false a b (λ same. other (sym same ∙ is))) (rw (same_true a n is) refl)

begun_high : (at_0 at_1 : ℕ) (g h : Bool) (n a b : ℕ) → h ≡ true → b ≡ n → (g ≡ false) ⊎ (a ≢ n) → begun at_0 at_1 g h n a b ≡ Ok true
begun_high at_0 at_1 g false n a b opened is other = absurd (false≢true opened)
begun_high at_0 at_1 false true n a b opened is other = rw (same_true b n is) refl
begun_high at_0 at_1 true true n a b opened is (inl shut) = absurd (false≢true (sym shut))
begun_high at_0 at_1 true true n a b opened is (inr other) = rw (other_false a b (λ same. other (same ∙ is))) (rw (other_false a n other) (rw (same_true b n is) refl))

module _ {H S : Type 0} (K : Codec H S) where
  pub replay_is : (gate : ℕ) (s : S) (frames : List (List ℕ)) (t : S) → Replays K s frames t → replay K gate s frames ≡ Ok t
  replay_is gate s [] t is = ap Ok is
  replay_is gate s (frame ∷ frames) t is = ap (λ r. on_some r (Damaged gate Record) (λ u. replay K (gate + length frame) u frames)) is.1 ∙ replay_is (gate + length frame) is.0 frames t is.2

  pub walk_shut : (n gate end last : ℕ) (x : List ℕ) → get_or x gate 0 ≢ GATE_OPEN → walk K (suc n) gate end last x ≡ Ok ([], last)
  walk_shut n gate end last x shut = rw (other_false (get_or x gate 0) GATE_OPEN shut) refl

  pub walk_one : (n gate end last : ℕ) (x frame : List ℕ) (m : ℕ) → get_or x gate 0 ≡ GATE_OPEN → take (15 + number_4 (gate + 1) x) (drop gate x) ≡ frame → 15 + number_4 (gate + 1) x ≡ length frame → gate + length frame < end → K.after last frame ≡ Some m
      → walk K (suc n) gate end last x ≡ on_ok (walk K n (gate + length frame) end m x) (λ w. Ok (frame ∷ w.0, w.1))
  walk_one n gate end last x frame m opened part len fits after =
      rw (same_true (get_or x gate 0) GATE_OPEN opened) (rw part (rw len (rw (lt-ltb (gate + length frame) end fits) (rw after refl))))

  -- what follows on a frame that fits
  abbrev pub rest : ℕ → ℕ → ℕ → ℕ → List ℕ → Result (List (List ℕ) × ℕ) Refusal
  rest n gate end last x =
      let frame = take (15 + number_4 (gate + 1) x) (drop gate x) in
      on_some (K.after last frame) (Damaged gate Frame) (λ m. on_ok (walk K n (gate + (15 + number_4 (gate + 1) x)) end m x) (λ w. Ok (frame ∷ w.0, w.1)))

  pub walk_past : (n gate end last : ℕ) (x : List ℕ) → get_or x gate 0 ≡ GATE_OPEN → end ≤ gate + (15 + number_4 (gate + 1) x) → walk K (suc n) gate end last x ≡ Err (Damaged gate Frame)
  walk_past n gate end last x opened past = rw (same_true (get_or x gate 0) GATE_OPEN opened) (rw (le-ltb (gate + (15 + number_4 (gate + 1) x)) end past) refl)

  pub walk_open : (n gate end last : ℕ) (x : List ℕ) → get_or x gate 0 ≡ GATE_OPEN → gate + (15 + number_4 (gate + 1) x) < end → walk K (suc n) gate end last x ≡ rest n gate end last x
  walk_open n gate end last x opened fits = rw (same_true (get_or x gate 0) GATE_OPEN opened) (rw (lt-ltb (gate + (15 + number_4 (gate + 1) x)) end fits) refl)

  pub walk_is : (n gate end last : ℕ) (frames : List (List ℕ)) (m : ℕ) (x : List ℕ) → AreFrames gate end frames x → Numbers K last frames m → length frames < n → end ≤ length x → walk K n gate end last x ≡ Ok (frames, m)
  walk_is zero gate end last frames m x are numbers short inside = absurd (omega (arith, short))
  walk_is (suc n) gate end last [] m x are numbers short inside = walk_shut n gate end last x are ∙ ap (λ k. Ok ([], k)) numbers
  walk_is (suc n) gate end last (frame ∷ frames) m x are numbers short inside =
      let len : 15 + number_4 (gate + 1) x ≡ length frame = omega (arith, are.1.whole, number_is gate frame x (omega (arith, are.1.whole)) are.0) in
      walk_one n gate end last x frame numbers.0 (at gate (are.0 0 (omega (arith, are.1.whole))) ∙ are.1.gate) (ap (λ k. take k (drop gate x)) len ∙ part_is gate frame x (omega (arith, are.2, inside)) are.0) len are.2 numbers.1
      ∙ ap (λ r. on_ok r (λ w. Ok (frame ∷ w.0, w.1))) (walk_is n (gate + length frame) end numbers.0 frames m x are.3 numbers.2 (omega (arith, short)) inside)
    where
      at : (g : ℕ) {v : ℕ} → get_or x (g + 0) 0 ≡ v → get_or x g 0 ≡ v
      at g is = ap (λ (k : ℕ). get_or x k 0) (none g) ∙ is
        where
          none : (g : ℕ) → g ≡ g + 0
          none g = omega arith

  few : (gate end : ℕ) (frames : List (List ℕ)) (x : List ℕ) → AreFrames gate end frames x → length frames ≤ end
  few gate end [] x are = omega arith
  few gate end (frame ∷ frames) x are = omega (arith, fewer gate end (frame ∷ frames) x are)
    where
      fewer : (gate end : ℕ) (frames : List (List ℕ)) (x : List ℕ) → AreFrames gate end frames x → (length frames ≡ 0) ⊎ (gate + length frames ≤ end)
      fewer gate end [] x are = inl refl
      fewer gate end (frame ∷ frames) x are = inr (⊎_elim (λ none. omega (arith, none, are.1.whole, are.2)) (λ more. omega (arith, more, are.1.whole)) (fewer (gate + length frame) end frames x are.3))

  module _ (h : H) (x : List ℕ) where
    pub walk_segment_is : (last : ℕ) (b : Bool) (first : ℕ) (frames : List (List ℕ)) (m : ℕ) → length x ≡ file_len (K.layout h) → InSegment K h first frames (segment_at (K.layout h) b) x → Numbers K last frames m → walk_segment K h x last b ≡ Ok (frames, m)
    walk_segment_is last b first frames m long is numbers =
        walk_is (1 + file_len (K.layout h)) (first_gate (K.layout h) b) (segment_end (K.layout h) b) last frames m x is.are numbers
        (omega (arith, few (first_gate (K.layout h) b) (segment_end (K.layout h) b) frames x is.are, segment_inside (K.layout h) b)) (omega (arith, long, segment_inside (K.layout h) b))

    pub taken_by : (c : Bool) → IsOpenAt (area_at (K.layout h) c) x → IsLower K h (area_numbered K h x c) (area_at (K.layout h) (not c)) x → area_taken K h x ≡ Ok c
    taken_by false opened lower = taken_low (area_at (K.layout h) false) (area_at (K.layout h) true) (is_open (area_at (K.layout h) false) x) (is_open (area_at (K.layout h) true) x) (area_numbered K h x false) (area_numbered K h x true)
        (same_true _ _ opened) (⊎_elim (λ shut. inl (other_false _ _ shut)) (λ low. inr low) lower)
    taken_by true opened lower = taken_high (area_at (K.layout h) false) (area_at (K.layout h) true) (is_open (area_at (K.layout h) false) x) (is_open (area_at (K.layout h) true) x) (area_numbered K h x false) (area_numbered K h x true)
        (same_true _ _ opened) (⊎_elim (λ shut. inl (other_false _ _ shut)) (λ low. inr low) lower)

    pub begun_is : (n : ℕ) (b : Bool) → IsOpenAt (segment_at (K.layout h) b) x → segment_first K h x b ≡ n → BeginsElse K h x (not b) n → segment_begun K h x n ≡ Ok b
    begun_is n false opened is other = begun_low (segment_at (K.layout h) false) (segment_at (K.layout h) true) (is_open (segment_at (K.layout h) false) x) (is_open (segment_at (K.layout h) true) x) n (segment_first K h x false) (segment_first K h x true)
        (same_true _ _ opened) is (⊎_elim (λ shut. inl (other_false _ _ shut)) (λ apart. inr apart) other)
    begun_is n true opened is other = begun_high (segment_at (K.layout h) false) (segment_at (K.layout h) true) (is_open (segment_at (K.layout h) false) x) (is_open (segment_at (K.layout h) true) x) n (segment_first K h x false) (segment_first K h x true)
        (same_true _ _ opened) is (⊎_elim (λ shut. inl (other_false _ _ shut)) (λ apart. inr apart) other)

    -- each stage, if its tests are passed
    pub found_as : K.read_head x ≡ Ok h → found K x ≡ from_head K h x
    unfolding found
    found_as is = ap (λ r. on_ok r (λ i. from_head K i x)) is

    pub from_head_as : (c : Bool) → length x ≡ file_len (K.layout h) → area_taken K h x ≡ Ok c → from_head K h x ≡ from_area K h x c
    unfolding from_head
    from_head_as c long is = rw (same_true _ _ long) (ap (λ r. on_ok r (λ d. from_area K h x d)) is)

    pub from_area_as : (c : Bool) (s : S) → K.read_state h (body_at (K.layout h) (area_at (K.layout h) c) x) ≡ Some s → from_area K h x c ≡ from_state K h x c s
    unfolding from_area
    from_area_as c s is = ap (λ r. on_some r (Damaged (area_at (K.layout h) c) Checkpoint) (λ t. from_state K h x c t)) is

    pub from_state_as : (c : Bool) (s : S) (b : Bool) → segment_begun K h x (K.number s + 1) ≡ Ok b → from_state K h x c s ≡ from_segment K h x c s b
    unfolding from_state
    from_state_as c s b is = ap (λ r. on_ok r (λ d. from_segment K h x c s d)) is

    pub from_segment_as : (c : Bool) (s : S) (b : Bool) (frames : List (List ℕ)) (m : ℕ) → walk_segment K h x (K.number s) b ≡ Ok (frames, m) → from_segment K h x c s b ≡ from_frames K h x c s b frames m
    unfolding from_segment
    from_segment_as c s b frames m is = ap (λ r. on_ok r (λ w. from_frames K h x c s b w.0 w.1)) is

    pub from_frames_two : (c : Bool) (s : S) (b : Bool) (frames : List (List ℕ)) (last : ℕ) (more : List (List ℕ)) (m : ℕ) → follows K h x last (not b) ≡ true → walk_segment K h x last (not b) ≡ Ok (more, m) → from_frames K h x c s b frames last ≡ from_two K h x c s b frames more
    unfolding from_frames
    from_frames_two c s b frames last more m next is = ap (λ t. cond t (on_ok (walk_segment K h x last (not b)) (λ w. from_two K h x c s b frames w.0)) (from_one K h x c s b frames last)) next ∙ ap (λ r. on_ok r (λ w. from_two K h x c s b frames w.0)) is

    pub from_frames_one : (c : Bool) (s : S) (b : Bool) (frames : List (List ℕ)) (last : ℕ) → follows K h x last (not b) ≡ false → from_frames K h x c s b frames last ≡ from_one K h x c s b frames last
    unfolding from_frames
    from_frames_one c s b frames last next = ap (λ t. cond t (on_ok (walk_segment K h x last (not b)) (λ w. from_two K h x c s b frames w.0)) (from_one K h x c s b frames last)) next

    pub from_one_as : (c : Bool) (s : S) (b : Bool) (frames : List (List ℕ)) (last : ℕ) (t : S) → replay K (first_gate (K.layout h) b) s frames ≡ Ok t → is_passed K h x last (not b) ≡ true → from_one K h x c s b frames last ≡ Ok (found_of h (single c s b frames) t)
    unfolding from_one
    from_one_as c s b frames last t is past =
        ap (λ r. on_ok r (λ u. cond (is_passed K h x last (not b)) (Ok (found_of h (single c s b frames) u)) (Err (Damaged (segment_at (K.layout h) (not b)) Segment)))) is
        ∙ ap (λ p. cond p (Ok (found_of h (single c s b frames) t)) (Err (Damaged (segment_at (K.layout h) (not b)) Segment))) past

    pub from_two_as : (c : Bool) (s : S) (b : Bool) (before frames : List (List ℕ)) (middle t : S) → replay K (first_gate (K.layout h) b) s before ≡ Ok middle → replay K (first_gate (K.layout h) (not b)) middle frames ≡ Ok t → from_two K h x c s b before frames ≡ Ok (found_of h (double c s b before middle frames) t)
    unfolding from_two
    from_two_as c s b before frames middle t first second =
        ap (λ r. on_ok r (λ i. on_ok (replay K (first_gate (K.layout h) (not b)) i frames) (λ u. Ok (found_of h (double c s b before i frames) u)))) first
        ∙ ap (λ r. on_ok r (λ u. Ok (found_of h (double c s b before middle frames) u))) second

    pub follows_not : (last : ℕ) (b : Bool) → BeginsElse K h x b (last + 1) → follows K h x last b ≡ false
    follows_not last b (inl shut) = rw (other_false _ _ shut) refl
    follows_not last b (inr apart) = elim (cases_eq (get_or x (segment_at (K.layout h) b) 0) GATE_OPEN) [
      | inl opened ↦ rw (same_true _ _ opened) (other_false _ _ apart)
      | inr shut ↦ rw (other_false _ _ shut) refl
    ]

    pub follows_is : (last : ℕ) (b : Bool) → IsOpenAt (segment_at (K.layout h) b) x → segment_first K h x b ≡ last + 1 → follows K h x last b ≡ true
    follows_is last b opened is = rw (same_true _ _ opened) (same_true _ _ is)

    pub passed_is : (last : ℕ) (b : Bool) → IsClosedAt (segment_at (K.layout h) b) x ⊎ (segment_first K h x b < last + 1) → is_passed K h x last b ≡ true
    passed_is last b (inl shut) = rw (other_false _ _ shut) refl
    passed_is last b (inr low) = elim (cases_eq (get_or x (segment_at (K.layout h) b) 0) GATE_OPEN) [
      | inl opened ↦ rw (same_true _ _ opened) (lt-ltb _ _ low)
      | inr shut ↦ rw (other_false _ _ shut) refl
    ]
