-- Each cause of a refusal is the answer.
use Rattle.std.proofs.Common.{◌≡◌, ◌≢◌, ◌⊎◌, inl, inr, ⊎_elim, ℕ, zero, suc, ◌+◌, ◌≤◌, ◌<◌, List, [], ◌∷◌, ◌++◌, length, get_or, take, drop, refl, sym, ◌∙◌, ap, subst, arith, length-append, nat_lt, cond, Bool, true, false, not, None, ◌==◌, Ok, Err}
use Rattle.std.proofs.lemmas.Bool.{cases_lt, le-ltb, false≢true, eqb-true}
use Rattle.pfx_segment.specs.Frames.{AreFrames, frame_len, number_4, size}
use Rattle.pfx_segment.proofs.FrameLemmas.{part_is, number_is}
use Rattle.pfx_store_image.specs.Causes.{StandInRow, IsBadHead, IsBadRecord, HasHeader, IsTaken, HasState, BeginsElse, BeginsWith, IsFirst, HasFrames, GoesOn, IsRefused, bad_header, bad_length, no_area, equal_areas, bad_area, equal_segments, no_segment, bad_head, other_head, bad_record, other_record, bad_rest}
use Rattle.pfx_store_image.specs.Codec.{Codec}
use Rattle.pfx_store_image.specs.Layout.{area_at, segment_at, first_gate, segment_end, file_len, is_open, IsOpenAt, body_at}
use Rattle.pfx_store_image.specs.Recovery.{found_of, on_ok, on_some, taken, begun, walk, replay, segment_first, area_taken, segment_begun, walk_segment, is_passed, from_one, from_two, from_frames, from_segment, from_state, from_area, from_head, found, recovered}
use Rattle.pfx_store_image.specs.Refusals.{Refusal, Damaged, Length, Checkpoint, Segment, Frame, Record}
use Rattle.pfx_store_image.specs.Store.{Replays, Numbers, single, double}
use Rattle.pfx_store_image.proofs.Regions.{segment_inside}
use Rattle.pfx_store_image.proofs.Runs.{same_true, other_false}
use Rattle.pfx_store_image.proofs.Stages.{walk_past, walk_open, walk_one, replay_is, taken_by, begun_is, found_as, from_head_as, from_area_as, from_state_as, from_segment_as, from_frames_two, from_frames_one, walk_segment_is, follows_is, follows_not}

taken_none : (at_0 at_1 : ℕ) (g h : Bool) (a b : ℕ) → g ≡ false → h ≡ false → taken at_0 at_1 g h a b ≡ Err (Damaged at_0 Checkpoint)
taken_none at_0 at_1 g h a b shut_0 shut_1 = rw shut_0 (rw shut_1 refl)

taken_equal : (at_0 at_1 : ℕ) (g h : Bool) (a b : ℕ) → g ≡ true → h ≡ true → a ≡ b → taken at_0 at_1 g h a b ≡ Err (Damaged at_1 Checkpoint)
taken_equal at_0 at_1 g h a b open_0 open_1 same = rw open_0 (rw open_1 (ap (λ t. cond t (Err (Damaged at_1 Checkpoint)) (Ok (nat_lt a b))) (same_true a b same)))

begun_equal : (at_0 at_1 : ℕ) (g h : Bool) (n a b : ℕ) → g ≡ true → h ≡ true → a ≡ b → begun at_0 at_1 g h n a b ≡ Err (Damaged at_1 Segment)
begun_equal at_0 at_1 g h n a b open_0 open_1 same = rw open_0 (rw open_1 (ap (λ t. cond t (Err (Damaged at_1 Segment)) (cond (a == n) (Ok false) (cond (b == n) (Ok true) (Err (Damaged at_0 Segment))))) (same_true a b same)))

begun_none : (at_0 at_1 : ℕ) (g h : Bool) (n a b : ℕ) → (g ≡ true → h ≡ true → a ≢ b) → (g ≡ false) ⊎ (a ≢ n) → (h ≡ false) ⊎ (b ≢ n) → begun at_0 at_1 g h n a b ≡ Err (Damaged at_0 Segment)
begun_none at_0 at_1 false false n a b apart one two = refl
begun_none at_0 at_1 true false n a b apart (inl shut) two = absurd (false≢true (sym shut))
begun_none at_0 at_1 true false n a b apart (inr other) two = rw (other_false a n other) refl
begun_none at_0 at_1 false true n a b apart one (inl shut) = absurd (false≢true (sym shut))
begun_none at_0 at_1 false true n a b apart one (inr other) = rw (other_false b n other) refl
begun_none at_0 at_1 true true n a b apart (inl shut) two = absurd (false≢true (sym shut))
begun_none at_0 at_1 true true n a b apart (inr other) (inl shut) = absurd (false≢true (sym shut))
begun_none at_0 at_1 true true n a b apart (inr one) (inr two) = rw (other_false a b (apart refl refl)) (rw (other_false a n one) (rw (other_false b n two) refl))

module _ {H S : Type 0} (K : Codec H S) where
  few_in_row : (gate end : ℕ) (frames : List (List ℕ)) (x : List ℕ) → StandInRow gate end frames x → (length frames ≡ 0) ⊎ (gate + length frames ≤ end)
  few_in_row gate end [] x are = inl refl
  few_in_row gate end (frame ∷ frames) x are = inr (⊎_elim (λ none. omega (arith, none, are.1.whole, are.2)) (λ more. omega (arith, more, are.1.whole)) (few_in_row (gate + length frame) end frames x are.3))

  abbrev IsWrong : ℕ → ℕ → ℕ → List ℕ → Type 0
  IsWrong gate end last x = (end ≤ gate + frame_len gate x) ⊎ (K.after last (take (frame_len gate x) (drop gate x)) ≡ None)

  walk_wrong : (n gate end last : ℕ) (x : List ℕ) → IsOpenAt gate x → IsWrong gate end last x → walk K (suc n) gate end last x ≡ Err (Damaged gate Frame)
  walk_wrong n gate end last x opened (inl past) = walk_past K n gate end last x opened past
  walk_wrong n gate end last x opened (inr no_number) = elim (cases_lt (gate + frame_len gate x) end) [
    | inr past ↦ walk_past K n gate end last x opened past
    | inl fits ↦ walk_open K n gate end last x opened fits ∙ ap (λ r. on_some r (Damaged gate Frame) (λ m. on_ok (walk K n (gate + frame_len gate x) end m x) (λ w. Ok (take (frame_len gate x) (drop gate x) ∷ w.0, w.1)))) no_number
  ]

  walk_stops : (n gate end last at : ℕ) (frames : List (List ℕ)) (reached : ℕ) (x : List ℕ) → StandInRow gate end frames x → Numbers K last frames reached → at ≡ gate + size frames → IsOpenAt at x → IsWrong at end reached x → length frames < n → end ≤ length x
      → walk K n gate end last x ≡ Err (Damaged at Frame)
  walk_stops zero gate end last at frames reached x are numbers place opened wrong short inside = absurd (omega (arith, short))
  walk_stops (suc n) gate end last at [] reached x are numbers place opened wrong short inside =
      subst (λ a. walk K (suc n) gate end last x ≡ Err (Damaged a Frame)) (sym here) (walk_wrong n gate end last x (subst (λ a. IsOpenAt a x) here opened) (subst (λ m. IsWrong gate end m x) (sym numbers) (subst (λ a. IsWrong a end reached x) here wrong)))
    where
      here : at ≡ gate
      here = omega (arith, place)
  walk_stops (suc n) gate end last at (frame ∷ frames) reached x are numbers place opened wrong short inside =
      let len : 15 + number_4 (gate + 1) x ≡ length frame = omega (arith, are.1.whole, number_is gate frame x (omega (arith, are.1.whole)) are.0) in
      walk_one K n gate end last x frame numbers.0 (first gate (are.0 0 (omega (arith, are.1.whole))) ∙ are.1.gate) (ap (λ k. take k (drop gate x)) len ∙ part_is gate frame x (omega (arith, are.2, inside)) are.0) len are.2 numbers.1
      ∙ ap (λ r. on_ok r (λ w. Ok (frame ∷ w.0, w.1))) (walk_stops n (gate + length frame) end numbers.0 at frames reached x are.3 numbers.2 (omega (arith, place)) opened wrong (omega (arith, short)) inside)
    where
      first : (g : ℕ) {v : ℕ} → get_or x (g + 0) 0 ≡ v → get_or x g 0 ≡ v
      first g is = ap (λ (k : ℕ). get_or x k 0) (none g) ∙ is
        where
          none : (g : ℕ) → g ≡ g + 0
          none g = omega arith

  replay_stops : (gate : ℕ) (s : S) (before : List (List ℕ)) (frame : List ℕ) (behind : List (List ℕ)) (reached : S) → Replays K s before reached → K.apply reached frame ≡ None → replay K gate s (before ++ frame ∷ behind) ≡ Err (Damaged (gate + size before) Record)
  replay_stops gate s [] frame behind reached run wrong =
      ap (λ r. on_some r (Damaged gate Record) (λ u. replay K (gate + length frame) u behind)) (ap (λ r. K.apply r frame) run ∙ wrong) ∙ ap (λ g. Err (Damaged g Record)) (none gate)
    where
      none : (g : ℕ) → g ≡ g + 0
      none g = omega arith
  replay_stops gate s (first ∷ before) frame behind reached run wrong =
      ap (λ r. on_some r (Damaged gate Record) (λ u. replay K (gate + length first) u (before ++ frame ∷ behind))) run.1
      ∙ replay_stops (gate + length first) run.0 before frame behind reached run.2 wrong
      ∙ ap (λ g. Err (Damaged g Record)) (further gate (length first) (size before))
    where
      further : (a b c : ℕ) → a + b + c ≡ a + (b + c)
      further a b c = omega arith

  record_stops : (gate : ℕ) (s : S) (frames : List (List ℕ)) (at : ℕ) → IsBadRecord K gate s frames at → replay K gate s frames ≡ Err (Damaged at Record)
  record_stops gate s frames at is =
      ap (λ l. replay K gate s l) is.whole ∙ replay_stops gate s is.before is.frame is.behind is.reached is.run is.wrong ∙ ap (λ g. Err (Damaged g Record)) (sym is.place)

  module _ (h : H) (x : List ℕ) where
    walk_segment_stops : (last : ℕ) (b : Bool) (at : ℕ) → length x ≡ file_len (K.layout h) → IsBadHead K (first_gate (K.layout h) b) (segment_end (K.layout h) b) last at x → walk_segment K h x last b ≡ Err (Damaged at Frame)
    walk_segment_stops last b at long is = walk_stops (1 + file_len (K.layout h)) (first_gate (K.layout h) b) (segment_end (K.layout h) b) last at is.frames is.reached x is.stand is.numbers is.place is.gate is.wrong
        (⊎_elim (λ none. omega (arith, none)) (λ some. omega (arith, some, segment_inside (K.layout h) b)) (few_in_row (first_gate (K.layout h) b) (segment_end (K.layout h) b) is.frames x is.stand))
        (omega (arith, long, segment_inside (K.layout h) b))

    -- each stage, if it gives this refusal
    head_err : (e : Refusal) → HasHeader K h x → area_taken K h x ≡ Err e → found K x ≡ Err e
    unfolding from_head
    head_err e header is = found_as K h x header.head ∙ stage
      where
        stage : from_head K h x ≡ Err e
        stage = rw (same_true _ _ header.long) (ap (λ r. on_ok r (λ c. from_area K h x c)) is)

    at_area : (c : Bool) → IsTaken K h x c → found K x ≡ from_area K h x c
    at_area c taken_area = found_as K h x taken_area.header.head ∙ from_head_as K h x c taken_area.header.long (taken_by K h x c taken_area.gate taken_area.lower)

    area_err : (c : Bool) → IsTaken K h x c → K.read_state h (body_at (K.layout h) (area_at (K.layout h) c) x) ≡ None → found K x ≡ Err (Damaged (area_at (K.layout h) c) Checkpoint)
    unfolding from_area
    area_err c taken_area is = at_area c taken_area ∙ stage
      where
        stage : from_area K h x c ≡ Err (Damaged (area_at (K.layout h) c) Checkpoint)
        stage = ap (λ r. on_some r (Damaged (area_at (K.layout h) c) Checkpoint) (λ s. from_state K h x c s)) is

    at_state : (c : Bool) (s : S) → HasState K h x c s → found K x ≡ from_state K h x c s
    at_state c s state = at_area c state.taken ∙ from_area_as K h x c s state.body

    state_err : (c : Bool) (s : S) (e : Refusal) → HasState K h x c s → segment_begun K h x (K.number s + 1) ≡ Err e → found K x ≡ Err e
    unfolding from_state
    state_err c s e state is = at_state c s state ∙ stage
      where
        stage : from_state K h x c s ≡ Err e
        stage = ap (λ r. on_ok r (λ b. from_segment K h x c s b)) is

    at_segment : (c : Bool) (s : S) (b : Bool) → IsFirst K h x c s b → found K x ≡ from_segment K h x c s b
    at_segment c s b first = at_state c s first.state ∙ from_state_as K h x c s b (begun_is K h x (K.number s + 1) b first.begins.0 first.begins.1 first.other)

    long_of : (c : Bool) (s : S) (b : Bool) → IsFirst K h x c s b → length x ≡ file_len (K.layout h)
    long_of c s b first = first.state.taken.header.long

    segment_err : (c : Bool) (s : S) (b : Bool) (at : ℕ) → IsFirst K h x c s b → IsBadHead K (first_gate (K.layout h) b) (segment_end (K.layout h) b) (K.number s) at x → found K x ≡ Err (Damaged at Frame)
    unfolding from_segment
    segment_err c s b at first is = at_segment c s b first ∙ stage
      where
        stage : from_segment K h x c s b ≡ Err (Damaged at Frame)
        stage = ap (λ r. on_ok r (λ w. from_frames K h x c s b w.0 w.1)) (walk_segment_stops (K.number s) b at (long_of c s b first) is)

    at_frames : (c : Bool) (s : S) (b : Bool) (frames : List (List ℕ)) (last : ℕ) → HasFrames K h x c s b frames last → found K x ≡ from_frames K h x c s b frames last
    at_frames c s b frames last has = at_segment c s b has.first
        ∙ from_segment_as K h x c s b frames last (walk_segment_is K h x (K.number s) b (K.number s + 1) frames last (long_of c s b has.first) (record { gate = has.first.begins.0; number = has.first.begins.1; are = has.are }) has.numbers)

    other_err : (c : Bool) (s : S) (b : Bool) (frames : List (List ℕ)) (last at : ℕ) → HasFrames K h x c s b frames last → BeginsWith K h x (not b) (last + 1) → IsBadHead K (first_gate (K.layout h) (not b)) (segment_end (K.layout h) (not b)) last at x → found K x ≡ Err (Damaged at Frame)
    unfolding from_frames
    other_err c s b frames last at has begins is = at_frames c s b frames last has ∙ stage
      where
        stage : from_frames K h x c s b frames last ≡ Err (Damaged at Frame)
        stage = ap (λ t. cond t (on_ok (walk_segment K h x last (not b)) (λ w. from_two K h x c s b frames w.0)) (from_one K h x c s b frames last)) (follows_is K h x last (not b) begins.0 begins.1)
            ∙ ap (λ r. on_ok r (λ w. from_two K h x c s b frames w.0)) (walk_segment_stops last (not b) at (long_of c s b has.first) is)

    -- the records of one segment, or of two
    at_two : (c : Bool) (s : S) (b : Bool) (frames : List (List ℕ)) (last : ℕ) (more : List (List ℕ)) (end : ℕ) → HasFrames K h x c s b frames last → BeginsWith K h x (not b) (last + 1) → AreFrames (first_gate (K.layout h) (not b)) (segment_end (K.layout h) (not b)) more x → Numbers K last more end → found K x ≡ from_two K h x c s b frames more
    at_two c s b frames last more end has begins are numbers = at_frames c s b frames last has
        ∙ from_frames_two K h x c s b frames last more end (follows_is K h x last (not b) begins.0 begins.1) (walk_segment_is K h x last (not b) (last + 1) more end (long_of c s b has.first) (record { gate = begins.0; number = begins.1; are = are }) numbers)

    at_one : (c : Bool) (s : S) (b : Bool) (frames : List (List ℕ)) (last : ℕ) → HasFrames K h x c s b frames last → BeginsElse K h x (not b) (last + 1) → found K x ≡ from_one K h x c s b frames last
    at_one c s b frames last has elsewhere = at_frames c s b frames last has ∙ from_frames_one K h x c s b frames last (follows_not K h x last (not b) elsewhere)

    two_first : (c : Bool) (s : S) (b : Bool) (frames more : List (List ℕ)) (e : Refusal) → replay K (first_gate (K.layout h) b) s frames ≡ Err e → from_two K h x c s b frames more ≡ Err e
    unfolding from_two
    two_first c s b frames more e is = ap (λ r. on_ok r (λ i. on_ok (replay K (first_gate (K.layout h) (not b)) i more) (λ u. Ok (found_of h (double c s b frames i more) u)))) is

    one_first : (c : Bool) (s : S) (b : Bool) (frames : List (List ℕ)) (last : ℕ) (e : Refusal) → replay K (first_gate (K.layout h) b) s frames ≡ Err e → from_one K h x c s b frames last ≡ Err e
    unfolding from_one
    one_first c s b frames last e is = ap (λ r. on_ok r (λ u. cond (is_passed K h x last (not b)) (Ok (found_of h (single c s b frames) u)) (Err (Damaged (segment_at (K.layout h) (not b)) Segment)))) is

    two_second : (c : Bool) (s : S) (b : Bool) (frames more : List (List ℕ)) (middle : S) (e : Refusal) → Replays K s frames middle → replay K (first_gate (K.layout h) (not b)) middle more ≡ Err e → from_two K h x c s b frames more ≡ Err e
    unfolding from_two
    two_second c s b frames more middle e run is =
        ap (λ r. on_ok r (λ i. on_ok (replay K (first_gate (K.layout h) (not b)) i more) (λ u. Ok (found_of h (double c s b frames i more) u)))) (replay_is K (first_gate (K.layout h) b) s frames middle run)
        ∙ ap (λ r. on_ok r (λ u. Ok (found_of h (double c s b frames middle more) u))) is

    record_err : (c : Bool) (s : S) (b : Bool) (frames : List (List ℕ)) (last : ℕ) (more : List (List ℕ)) (at : ℕ) → HasFrames K h x c s b frames last → GoesOn K h x b last more → IsBadRecord K (first_gate (K.layout h) b) s frames at → found K x ≡ Err (Damaged at Record)
    record_err c s b frames last more at has (inl (begins, are, numbers)) is = at_two c s b frames last more numbers.0 has begins are numbers.1 ∙ two_first c s b frames more (Damaged at Record) (record_stops (first_gate (K.layout h) b) s frames at is)
    record_err c s b frames last more at has (inr (elsewhere, none)) is = at_one c s b frames last has elsewhere ∙ one_first c s b frames last (Damaged at Record) (record_stops (first_gate (K.layout h) b) s frames at is)

    other_record_err : (c : Bool) (s : S) (b : Bool) (frames : List (List ℕ)) (last : ℕ) (middle : S) (more : List (List ℕ)) (at : ℕ) → HasFrames K h x c s b frames last → GoesOn K h x b last more → Replays K s frames middle → IsBadRecord K (first_gate (K.layout h) (not b)) middle more at → found K x ≡ Err (Damaged at Record)
    other_record_err c s b frames last middle more at has (inl (begins, are, numbers)) run is = at_two c s b frames last more numbers.0 has begins are numbers.1 ∙ two_second c s b frames more middle (Damaged at Record) run (record_stops (first_gate (K.layout h) (not b)) middle more at is)
    other_record_err c s b frames last middle more at has (inr (elsewhere, none)) run is = nothing is.before (sym none ∙ is.whole)
      where
        nothing : {C : Type 0} (before : List (List ℕ)) → [] ≡ before ++ is.frame ∷ is.behind → C
        nothing before whole = absurd (omega (arith, ap length whole, length-append before (is.frame ∷ is.behind)))

    rest_err : (c : Bool) (s : S) (b : Bool) (frames : List (List ℕ)) (last : ℕ) (t : S) → HasFrames K h x c s b frames last → Replays K s frames t → IsOpenAt (segment_at (K.layout h) (not b)) x → last + 1 < segment_first K h x (not b) → found K x ≡ Err (Damaged (segment_at (K.layout h) (not b)) Segment)
    unfolding from_one
    rest_err c s b frames last t has run opened high = at_one c s b frames last has (inr (λ same. omega (arith, same, high))) ∙ stage
      where
        above : is_passed K h x last (not b) ≡ false
        above = rw (same_true _ _ opened) (le-ltb _ _ (omega (arith, high)))

        stage : from_one K h x c s b frames last ≡ Err (Damaged (segment_at (K.layout h) (not b)) Segment)
        stage = ap (λ r. on_ok r (λ u. cond (is_passed K h x last (not b)) (Ok (found_of h (single c s b frames) u)) (Err (Damaged (segment_at (K.layout h) (not b)) Segment)))) (replay_is K (first_gate (K.layout h) b) s frames t run)
            ∙ ap (λ p. cond p (Ok (found_of h (single c s b frames) t)) (Err (Damaged (segment_at (K.layout h) (not b)) Segment))) above

  found_stops : (x : List ℕ) (e : Refusal) → IsRefused K x e → found K x ≡ Err e
  unfolding found from_head
  found_stops x e (bad_header is) = ap (λ r. on_ok r (λ h. from_head K h x)) is
  found_stops x e (bad_length h head long) = ap (λ r. on_ok r (λ i. from_head K i x)) head ∙ ap (λ t. cond t (on_ok (area_taken K h x) (λ c. from_area K h x c)) (Err (Damaged (length x) Length))) (other_false _ _ long)
  found_stops x e (no_area h header shut) = head_err h x e header (taken_none _ _ _ _ _ _ (other_false _ _ (shut false)) (other_false _ _ (shut true)))
  found_stops x e (equal_areas h header opened same) = head_err h x e header (taken_equal _ _ _ _ _ _ (same_true _ _ (opened false)) (same_true _ _ (opened true)) same)
  found_stops x e (bad_area h c taken_area is) = area_err h x c taken_area is
  found_stops x e (equal_segments h c s state opened same) = state_err h x c s e state (begun_equal _ _ _ _ (K.number s + 1) _ _ (same_true _ _ (opened false)) (same_true _ _ (opened true)) same)
  found_stops x e (no_segment h c s state apart others) = state_err h x c s e state (begun_none _ _ _ _ (K.number s + 1) _ _ (λ open_0 open_1. apart (both open_0 open_1)) (one false (others false)) (one true (others true)))
    where
      both : is_open (segment_at (K.layout h) false) x ≡ true → is_open (segment_at (K.layout h) true) x ≡ true → (b : Bool) → IsOpenAt (segment_at (K.layout h) b) x
      both open_0 open_1 false = eqb-true _ _ open_0
      both open_0 open_1 true = eqb-true _ _ open_1

      one : (b : Bool) → BeginsElse K h x b (K.number s + 1) → (is_open (segment_at (K.layout h) b) x ≡ false) ⊎ (segment_first K h x b ≢ K.number s + 1)
      one b (inl shut) = inl (other_false _ _ shut)
      one b (inr other) = inr other
  found_stops x e (bad_head h c s b at first is) = segment_err h x c s b at first is
  found_stops x e (other_head h c s b frames last at has begins is) = other_err h x c s b frames last at has begins is
  found_stops x e (bad_record h c s b frames last more at has on is) = record_err h x c s b frames last more at has on is
  found_stops x e (other_record h c s b frames last middle more at has on run is) = other_record_err h x c s b frames last middle more at has on run is
  found_stops x e (bad_rest h c s b frames last t has run opened high) = rest_err h x c s b frames last t has run opened high

  pub refuses : (x : List ℕ) (e : Refusal) → IsRefused K x e → recovered K x ≡ Err e
  unfolding recovered
  refuses x e is = ap (λ r. on_ok r (λ f. Ok f.state)) (found_stops x e is)
