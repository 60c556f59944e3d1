-- Each refusal has its cause.
use Rattle.std.proofs.Common.{◌≡◌, ◌≢◌, ◌⊎◌, inl, inr, ⊎_elim, ℕ, zero, suc, ◌+◌, ◌≤◌, ◌<◌, List, [], ◌∷◌, length, get_or, take, drop, refl, sym, ◌∙◌, ap, subst, arith, length-take, length-drop, nat_lt, cond, Bool, true, false, not, Some, Result, ◌==◌, Ok, Err}
use Rattle.std.proofs.lemmas.Bool.{cases_eq, cases_lt, lt-ltb, false≢true, eqb-true}
use Rattle.pfx_disk.specs.declared.gates.TheConstants.{GATE_OPEN}
use Rattle.pfx_segment.specs.Segment.{StandAt}
use Rattle.pfx_segment.specs.Frames.{IsFrame, frame_len}
use Rattle.pfx_segment.proofs.FrameLemmas.{part_stands, number_is}
use Rattle.pfx_store_image.specs.Causes.{StandInRow, IsBadHead, IsBadRecord, HasHeader, IsTaken, HasState, BeginsElse, BeginsWith, IsFirst, HasFrames, GoesOn, IsRefused, bad_header, bad_length, no_area, equal_areas, bad_area, equal_segments, no_segment, bad_head, other_head, bad_record, other_record, bad_rest}
use Rattle.pfx_store_image.specs.Codec.{Codec}
use Rattle.pfx_store_image.specs.Layout.{area_at, segment_at, first_gate, segment_end, file_len, is_open, IsClosedAt, IsOpenAt, body_at}
use Rattle.pfx_store_image.specs.Recovery.{Found, found_of, on_ok, taken, begun, walk, replay, segment_first, area_taken, segment_begun, walk_segment, is_passed, from_one, from_two, from_frames, from_segment, from_state, from_area, from_head, found, recovered}
use Rattle.pfx_store_image.specs.Refusals.{Refusal, Damaged, Length, Checkpoint, Segment, Frame, Record}
use Rattle.pfx_store_image.specs.Store.{single, double}
use Rattle.pfx_store_image.proofs.Answers.{okay, not_ok, err_same, some_err, ok_err, if_err, else_err}
use Rattle.pfx_store_image.proofs.Regions.{segment_inside}
use Rattle.pfx_store_image.proofs.Runs.{same_true, other_false, apart}
use Rattle.pfx_store_image.proofs.Stages.{walk_shut, walk_past, walk_open, follows_is, follows_not}
use Rattle.pfx_store_image.proofs.Backs.{opened_at, shut_at, area_of, segment_of, walk_back, replays_back, end_inside}

abbrev bad : Refusal → Result Bool Refusal
bad e = Err e

taken_err : (at_0 at_1 : ℕ) (g h : Bool) (a b : ℕ) (e : Refusal) → taken at_0 at_1 g h a b ≡ Err e
    → ((g ≡ false) × (h ≡ false) × (Damaged at_0 Checkpoint ≡ e)) ⊎ ((g ≡ true) × (h ≡ true) × (a ≡ b) × (Damaged at_1 Checkpoint ≡ e))
taken_err at_0 at_1 false false a b e is = inl (refl, refl, err_same {A = Bool} (Damaged at_0 Checkpoint) e is)
taken_err at_0 at_1 true false a b e is = not_ok false e is
taken_err at_0 at_1 false true a b e is = not_ok true e is
taken_err at_0 at_1 true true a b e is = ⊎_elim
    (λ same. inr (refl, refl, eqb-true a b same.0, same.1))
    (λ other. not_ok (nat_lt a b) e other.1)
    (else_err (a == b) (Damaged at_1 Checkpoint) (okay (nat_lt a b)) e is)

begun_err : (at_0 at_1 : ℕ) (g h : Bool) (n a b : ℕ) (e : Refusal) → begun at_0 at_1 g h n a b ≡ Err e
    → ((g ≡ true) × (h ≡ true) × (a ≡ b) × (Damaged at_1 Segment ≡ e)) ⊎ ((g ≡ true → h ≡ true → a ≢ b) × ((g ≡ false) ⊎ (a ≢ n)) × ((h ≡ false) ⊎ (b ≢ n)) × (Damaged at_0 Segment ≡ e))
begun_err at_0 at_1 false false n a b e is = inr (λ open_0 open_1. absurd (false≢true open_0), inl refl, inl refl, err_same {A = Bool} (Damaged at_0 Segment) e is)
begun_err at_0 at_1 true false n a b e is = ⊎_elim
    (λ yes. not_ok false e yes.1)
    (λ no. inr (λ open_0 open_1. absurd (false≢true open_1), inr (apart a n no.0), inl refl, no.1))
    (if_err (a == n) (okay false) (Damaged at_0 Segment) e is)
begun_err at_0 at_1 false true n a b e is = ⊎_elim
    (λ yes. not_ok true e yes.1)
    (λ no. inr (λ open_0 open_1. absurd (false≢true open_0), inl refl, inr (apart b n no.0), no.1))
    (if_err (b == n) (okay true) (Damaged at_0 Segment) e is)
begun_err at_0 at_1 true true n a b e is = ⊎_elim
    (λ same. inl (refl, refl, eqb-true a b same.0, same.1))
    (λ other. by other.0 (a == n) refl (b == n) refl other.1)
    (else_err (a == b) (Damaged at_1 Segment) (cond (a == n) (okay false) (cond (b == n) (okay true) (bad (Damaged at_0 Segment)))) e is)
  where
    by : (a == b) ≡ false → (one : Bool) → (a == n) ≡ one → (two : Bool) → (b == n) ≡ two → cond one (okay false) (cond two (okay true) (bad (Damaged at_0 Segment))) ≡ Err e
        → ((true ≡ true) × (true ≡ true) × (a ≡ b) × (Damaged at_1 Segment ≡ e)) ⊎ ((true ≡ true → true ≡ true → a ≢ b) × ((true ≡ false) ⊎ (a ≢ n)) × ((true ≡ false) ⊎ (b ≢ n)) × (Damaged at_0 Segment ≡ e))
    by other true is_one two is_two err = not_ok false e err
    by other false is_one true is_two err = not_ok true e err
    by other false is_one false is_two err = inr (λ _ _. apart a b other, inr (apart a n is_one), inr (apart b n is_two), err_same {A = Bool} (Damaged at_0 Segment) e err)

module _ {H S : Type 0} (K : Codec H S) where
  replay_err : (gate : ℕ) (s : S) (frames : List (List ℕ)) (e : Refusal) → replay K gate s frames ≡ Err e → (at : ℕ) × (Damaged at Record ≡ e) × IsBadRecord K gate s frames at
  replay_err gate s [] e is = not_ok s e is
  replay_err gate s (frame ∷ frames) e is = ⊎_elim
      (λ wrong. (gate, wrong.1, record { before = []; frame = frame; behind = frames; reached = s; whole = refl; run = refl; wrong = wrong.0; place = none gate }))
      (λ right.
      let next = replay_err (gate + length frame) right.0 frames e right.2 in (
        next.0,
        next.1,
        record {
          before = frame ∷ next.2.before;
          frame = next.2.frame;
          behind = next.2.behind;
          reached = next.2.reached;
          whole = ap (λ l. frame ∷ l) next.2.whole;
          run = (right.0, right.1, next.2.run);
          wrong = next.2.wrong;
          place = omega (arith, next.2.place);
        },
      ))
      (some_err (K.apply s frame) (Damaged gate Record) (λ t. replay K (gate + length frame) t frames) e is)
    where
      none : (g : ℕ) → g ≡ g + 0
      none g = omega arith

  -- a bad head behind a frame that stands right
  behind_one : (gate end last m at : ℕ) (x : List ℕ) → IsOpenAt gate x → gate + frame_len gate x < end → end ≤ length x → K.after last (take (frame_len gate x) (drop gate x)) ≡ Some m → IsBadHead K (gate + frame_len gate x) end m at x → IsBadHead K gate end last at x
  behind_one gate end last m at x opened fits inside after next =
      let len = frame_len gate x in
      let frame = take len (drop gate x) in
      let long : length frame ≡ len = omega (arith, length-take len (drop gate x), length-drop gate x, fits, inside) in
      let stands : StandAt gate frame x = part_stands gate len x in
      let here : get_or frame 0 0 ≡ GATE_OPEN = sym (stands 0 (omega (arith, long))) ∙ ap (λ (k : ℕ). get_or x k 0) (none gate) ∙ opened in
      let is_one : IsFrame frame = record { gate = here; whole = omega (arith, long, number_is gate frame x (omega (arith, long)) stands) } in
      record {
        frames = frame ∷ next.frames;
        reached = next.reached;
        stand = (stands, is_one, omega (arith, fits, long), subst (λ (k : ℕ). StandInRow (gate + k) end next.frames x) (sym long) next.stand);
        numbers = (m, after, next.numbers);
        place = omega (arith, next.place, long);
        gate = next.gate;
        wrong = next.wrong;
      }
    where
      none : (g : ℕ) → g + 0 ≡ g
      none g = omega arith

  walk_err : (n gate end last : ℕ) (x : List ℕ) (e : Refusal) → gate < end → end ≤ gate + n → end ≤ length x → walk K n gate end last x ≡ Err e → (at : ℕ) × (Damaged at Frame ≡ e) × IsBadHead K gate end last at x
  walk_err zero gate end last x e room fuel inside is = absurd (omega (arith, room, fuel))
  walk_err (suc n) gate end last x e room fuel inside is = elim (cases_eq (get_or x gate 0) GATE_OPEN) [
    | inr shut ↦ not_ok ([], last) e (sym (walk_shut K n gate end last x shut) ∙ is)
    | inl opened ↦ elim (cases_lt (gate + frame_len gate x) end) [
      | inr past ↦ (
        gate,
        err_same {A = List (List ℕ) × ℕ} (Damaged gate Frame) e (sym (walk_past K n gate end last x opened past) ∙ is),
        record { frames = []; reached = last; stand = tt; numbers = refl; place = none gate; gate = opened; wrong = inl past },
      )
      | inl fits ↦ ⊎_elim
          (λ wrong. (gate, wrong.1, record { frames = []; reached = last; stand = tt; numbers = refl; place = none gate; gate = opened; wrong = inr wrong.0 }))
          (λ right.
          let len = frame_len gate x in
          let frame = take len (drop gate x) in
          let behind : walk K n (gate + len) end right.0 x ≡ Err e = ⊎_elim (λ err. err) (λ ok. not_ok (frame ∷ ok.0.0, ok.0.1) e ok.2) (ok_err (walk K n (gate + len) end right.0 x) (λ w. okay (frame ∷ w.0, w.1)) e right.2) in
          let next = walk_err n (gate + len) end right.0 x e fits (omega (arith, fuel)) inside behind in
          (next.0, next.1, behind_one gate end last right.0 next.0 x opened fits inside right.1 next.2))
          (some_err (K.after last (take (frame_len gate x) (drop gate x))) (Damaged gate Frame) (λ m. on_ok (walk K n (gate + frame_len gate x) end m x) (λ w. okay (take (frame_len gate x) (drop gate x) ∷ w.0, w.1))) e (sym (walk_open K n gate end last x opened fits) ∙ is))
    ]
  ]
    where
      none : (g : ℕ) → g ≡ g + 0
      none g = omega arith

  module _ (h : H) (x : List ℕ) where
    areas_fail : (e : Refusal) → HasHeader K h x → area_taken K h x ≡ Err e → IsRefused K x e
    areas_fail e header is = ⊎_elim
        (λ none. subst (IsRefused K x) none.2 (no_area h header (λ c. closed c none.0 none.1)))
        (λ same. subst (IsRefused K x) same.3 (equal_areas h header (λ c. opened c same.0 same.1) same.2))
        (taken_err _ _ _ _ _ _ e is)
      where
        closed : (c : Bool) → is_open (area_at (K.layout h) false) x ≡ false → is_open (area_at (K.layout h) true) x ≡ false → IsClosedAt (area_at (K.layout h) c) x
        closed false shut_0 shut_1 = shut_at K x (area_at (K.layout h) false) shut_0
        closed true shut_0 shut_1 = shut_at K x (area_at (K.layout h) true) shut_1

        opened : (c : Bool) → is_open (area_at (K.layout h) false) x ≡ true → is_open (area_at (K.layout h) true) x ≡ true → IsOpenAt (area_at (K.layout h) c) x
        opened false open_0 open_1 = opened_at K x (area_at (K.layout h) false) open_0
        opened true open_0 open_1 = opened_at K x (area_at (K.layout h) true) open_1

    segments_fail : (c : Bool) (s : S) (e : Refusal) → HasState K h x c s → segment_begun K h x (K.number s + 1) ≡ Err e → IsRefused K x e
    segments_fail c s e state is = ⊎_elim
        (λ same. subst (IsRefused K x) same.3 (equal_segments h c s state (λ b. opened b same.0 same.1) same.2))
        (λ none. subst (IsRefused K x) none.3 (no_segment h c s state (λ both. none.0 (same_true _ _ (both false)) (same_true _ _ (both true))) (λ b. begins_else b none.1 none.2)))
        (begun_err _ _ _ _ _ _ _ e is)
      where
        opened : (b : Bool) → is_open (segment_at (K.layout h) false) x ≡ true → is_open (segment_at (K.layout h) true) x ≡ true → IsOpenAt (segment_at (K.layout h) b) x
        opened false open_0 open_1 = opened_at K x (segment_at (K.layout h) false) open_0
        opened true open_0 open_1 = opened_at K x (segment_at (K.layout h) true) open_1

        begins_else : (b : Bool) → (is_open (segment_at (K.layout h) false) x ≡ false) ⊎ (segment_first K h x false ≢ K.number s + 1) → (is_open (segment_at (K.layout h) true) x ≡ false) ⊎ (segment_first K h x true ≢ K.number s + 1) → BeginsElse K h x b (K.number s + 1)
        begins_else false (inl shut) one = inl (shut_at K x (segment_at (K.layout h) false) shut)
        begins_else false (inr other) one = inr other
        begins_else true none (inl shut) = inl (shut_at K x (segment_at (K.layout h) true) shut)
        begins_else true none (inr other) = inr other

    walk_fails : (last : ℕ) (b : Bool) (e : Refusal) → length x ≡ file_len (K.layout h) → walk_segment K h x last b ≡ Err e → (at : ℕ) × (Damaged at Frame ≡ e) × IsBadHead K (first_gate (K.layout h) b) (segment_end (K.layout h) b) last at x
    walk_fails last b e long is = walk_err (1 + file_len (K.layout h)) (first_gate (K.layout h) b) (segment_end (K.layout h) b) last x e (omega (arith, (K.layout h).room)) (omega (arith, segment_inside (K.layout h) b)) (omega (arith, long, segment_inside (K.layout h) b)) is

    passed_fails : (last : ℕ) (b : Bool) → BeginsElse K h x b (last + 1) → is_passed K h x last b ≡ false → IsOpenAt (segment_at (K.layout h) b) x × (last + 1 < segment_first K h x b)
    passed_fails last b other is = elim (cases_eq (get_or x (segment_at (K.layout h) b) 0) GATE_OPEN) [
      | inr shut ↦ absurd (false≢true (sym is ∙ rw (other_false _ _ shut) refl))
      | inl opened ↦ elim (cases_lt (segment_first K h x b) (last + 1)) [
        | inl low ↦ absurd (false≢true (sym is ∙ rw (same_true _ _ opened) (lt-ltb _ _ low)))
        | inr high ↦ (opened, ⊎_elim (λ shut. absurd (shut opened)) (λ apart. omega (arith, high, apart)) other)
      ]
    ]

    one_fails : (c : Bool) (s : S) (b : Bool) (frames : List (List ℕ)) (last : ℕ) (e : Refusal) → HasFrames K h x c s b frames last → BeginsElse K h x (not b) (last + 1) → from_one K h x c s b frames last ≡ Err e → IsRefused K x e
    unfolding from_one
    one_fails c s b frames last e has other is = ⊎_elim
        (λ wrong. let bad = replay_err (first_gate (K.layout h) b) s frames e wrong in subst (IsRefused K x) bad.1 (bad_record h c s b frames last [] bad.0 has (inr (other, refl)) bad.2))
        (λ right. ⊎_elim
        (λ good. not_ok (found_of h (single c s b frames) right.0) e good.1)
        (λ rest. let high = passed_fails last (not b) other rest.0 in subst (IsRefused K x) rest.1 (bad_rest h c s b frames last right.0 has (replays_back K (first_gate (K.layout h) b) s frames right.0 right.1) high.0 high.1))
        (if_err (is_passed K h x last (not b)) (okay (found_of h (single c s b frames) right.0)) (Damaged (segment_at (K.layout h) (not b)) Segment) e right.2))
        (ok_err (replay K (first_gate (K.layout h) b) s frames) (λ t. cond (is_passed K h x last (not b)) (okay (found_of h (single c s b frames) t)) (Err (Damaged (segment_at (K.layout h) (not b)) Segment))) e is)

    two_fails : (c : Bool) (s : S) (b : Bool) (frames : List (List ℕ)) (last : ℕ) (more : List (List ℕ)) (e : Refusal) → HasFrames K h x c s b frames last → GoesOn K h x b last more → from_two K h x c s b frames more ≡ Err e → IsRefused K x e
    unfolding from_two
    two_fails c s b frames last more e has on is = ⊎_elim
        (λ wrong. let bad = replay_err (first_gate (K.layout h) b) s frames e wrong in subst (IsRefused K x) bad.1 (bad_record h c s b frames last more bad.0 has on bad.2))
        (λ right. ⊎_elim
        (λ wrong. let bad = replay_err (first_gate (K.layout h) (not b)) right.0 more e wrong in subst (IsRefused K x) bad.1 (other_record h c s b frames last right.0 more bad.0 has on (replays_back K (first_gate (K.layout h) b) s frames right.0 right.1) bad.2))
        (λ good. not_ok (found_of h (double c s b frames right.0 more) good.0) e good.2)
        (ok_err (replay K (first_gate (K.layout h) (not b)) right.0 more) (λ t. okay (found_of h (double c s b frames right.0 more) t)) e right.2))
        (ok_err (replay K (first_gate (K.layout h) b) s frames) (λ middle. on_ok (replay K (first_gate (K.layout h) (not b)) middle more) (λ t. okay (found_of h (double c s b frames middle more) t))) e is)

    frames_fail : (c : Bool) (s : S) (b : Bool) (frames : List (List ℕ)) (last : ℕ) (e : Refusal) → HasFrames K h x c s b frames last → from_frames K h x c s b frames last ≡ Err e → IsRefused K x e
    unfolding from_frames
    frames_fail c s b frames last e has is = elim (cases_eq (get_or x (segment_at (K.layout h) (not b)) 0) GATE_OPEN) [
      | inr shut ↦ past (inl shut)
      | inl opened ↦ elim (cases_eq (segment_first K h x (not b)) (last + 1)) [
        | inr other ↦ past (inr other)
        | inl next ↦ on (opened, next) (ok_err (walk_segment K h x last (not b)) (λ w. from_two K h x c s b frames w.0) e (sym (ap branches (follows_is K h x last (not b) opened next)) ∙ is))
      ]
    ]
      where
        branches : Bool → Result (Found H S) Refusal
        branches follow = cond follow (on_ok (walk_segment K h x last (not b)) (λ w. from_two K h x c s b frames w.0)) (from_one K h x c s b frames last)

        past : BeginsElse K h x (not b) (last + 1) → IsRefused K x e
        past other = one_fails c s b frames last e has other (sym (ap branches (follows_not K h x last (not b) other)) ∙ is)

        long : length x ≡ file_len (K.layout h)
        long = has.first.state.taken.header.long

        on : BeginsWith K h x (not b) (last + 1) → (walk_segment K h x last (not b) ≡ Err e) ⊎ ((w : List (List ℕ) × ℕ) × (walk_segment K h x last (not b) ≡ Ok w) × (from_two K h x c s b frames w.0 ≡ Err e)) → IsRefused K x e
        on begins (inl wrong) = let bad = walk_fails last (not b) e long wrong in subst (IsRefused K x) bad.1 (other_head h c s b frames last bad.0 has begins bad.2)
        on begins (inr right) =
            let heads = walk_back K (1 + file_len (K.layout h)) (first_gate (K.layout h) (not b)) (segment_end (K.layout h) (not b)) last x right.0.0 right.0.1 (end_inside K h x (not b) long) right.1 in
            two_fails c s b frames last right.0.0 e has (inl (begins, heads.0, (right.0.1, heads.1))) right.2

    segment_fails : (c : Bool) (s : S) (b : Bool) (e : Refusal) → IsFirst K h x c s b → from_segment K h x c s b ≡ Err e → IsRefused K x e
    unfolding from_segment
    segment_fails c s b e first is = ⊎_elim
        (λ wrong. let bad = walk_fails (K.number s) b e first.state.taken.header.long wrong in subst (IsRefused K x) bad.1 (bad_head h c s b bad.0 first bad.2))
        (λ right.
        let heads = walk_back K (1 + file_len (K.layout h)) (first_gate (K.layout h) b) (segment_end (K.layout h) b) (K.number s) x right.0.0 right.0.1 (end_inside K h x b first.state.taken.header.long) right.1 in
        frames_fail c s b right.0.0 right.0.1 e (record { first = first; are = heads.0; numbers = heads.1 }) right.2)
        (ok_err (walk_segment K h x (K.number s) b) (λ w. from_frames K h x c s b w.0 w.1) e is)

    state_fails : (c : Bool) (s : S) (e : Refusal) → HasState K h x c s → from_state K h x c s ≡ Err e → IsRefused K x e
    unfolding from_state
    state_fails c s e state is = ⊎_elim
        (λ wrong. segments_fail c s e state wrong)
        (λ right. let begins = segment_of K h x (K.number s + 1) right.0 right.1 in segment_fails c s right.0 e (record { state = state; begins = (begins.0, begins.1); other = begins.2 }) right.2)
        (ok_err (segment_begun K h x (K.number s + 1)) (λ b. from_segment K h x c s b) e is)

    area_fails : (c : Bool) (e : Refusal) → IsTaken K h x c → from_area K h x c ≡ Err e → IsRefused K x e
    unfolding from_area
    area_fails c e taken_area is = ⊎_elim
        (λ wrong. subst (IsRefused K x) wrong.1 (bad_area h c taken_area wrong.0))
        (λ right. state_fails c right.0 e (record { taken = taken_area; body = right.1 }) right.2)
        (some_err (K.read_state h (body_at (K.layout h) (area_at (K.layout h) c) x)) (Damaged (area_at (K.layout h) c) Checkpoint) (λ s. from_state K h x c s) e is)

    head_fails : (e : Refusal) → K.read_head x ≡ Ok h → from_head K h x ≡ Err e → IsRefused K x e
    unfolding from_head
    head_fails e head is = ⊎_elim
        (λ as_long.
        let header : HasHeader K h x = record { head = head; long = eqb-true (length x) (file_len (K.layout h)) as_long.0 } in
        ⊎_elim
        (λ wrong. areas_fail e header wrong)
        (λ right. let area = area_of K h x right.0 right.1 in area_fails right.0 e (record { header = header; gate = area.0; lower = area.1 }) right.2)
        (ok_err (area_taken K h x) (λ c. from_area K h x c) e as_long.1))
        (λ other. subst (IsRefused K x) other.1 (bad_length h head (apart (length x) (file_len (K.layout h)) other.0)))
        (if_err (length x == file_len (K.layout h)) (on_ok (area_taken K h x) (λ c. from_area K h x c)) (Damaged (length x) Length) e is)

  found_fails : (x : List ℕ) (e : Refusal) → found K x ≡ Err e → IsRefused K x e
  unfolding found
  found_fails x e is = ⊎_elim (λ wrong. bad_header wrong) (λ right. head_fails right.0 x e right.1 right.2) (ok_err (K.read_head x) (λ h. from_head K h x) e is)

  pub refused : (x : List ℕ) (e : Refusal) → recovered K x ≡ Err e → IsRefused K x e
  unfolding recovered
  refused x e is = ⊎_elim (λ wrong. found_fails x e wrong) (λ right. not_ok right.0.state e right.2) (ok_err (found K x) (λ f. Ok f.state) e is)
