-- What the answer of each stage of recovery says of the file.
use Rattle.std.proofs.Common.{◌≡◌, ◌≢◌, ◌⊎◌, inl, inr, ⊎_elim, ℕ, zero, suc, ◌+◌, ◌≤◌, ◌<◌, List, [], ◌∷◌, length, get_or, take, drop, refl, sym, ◌∙◌, ap, subst, arith, length-take, length-drop, nat_lt, cond, Bool, true, false, not, Some, Result, ◌==◌, if◌then◌else◌, Ok, Err}
use Rattle.std.proofs.lemmas.Bool.{cases_eq, cases_lt, lt-ltb, le-ltb, eqb-true, ltb-true}
use Rattle.pfx_disk.specs.declared.gates.TheConstants.{GATE_OPEN}
use Rattle.pfx_segment.specs.Segment.{StandAt}
use Rattle.pfx_segment.specs.Frames.{IsFrame, AreFrames, number_4}
use Rattle.pfx_segment.proofs.FrameLemmas.{part_stands, number_is}
use Rattle.pfx_store_image.specs.Causes.{BeginsElse}
use Rattle.pfx_store_image.specs.Codec.{Codec}
use Rattle.pfx_store_image.specs.Layout.{area_at, segment_at, first_gate, file_len, is_open, IsClosedAt, IsOpenAt, body_at}
use Rattle.pfx_store_image.specs.Refusals.{Refusal, Damaged, Checkpoint, Segment, Frame, Record}
use Rattle.pfx_store_image.specs.Recovery.{Found, found_of, on_ok, taken, begun, walk, replay, segment_first, area_numbered, area_taken, segment_begun, walk_segment, follows, is_passed, from_one, from_two, from_frames, from_segment, from_state, from_area, from_head}
use Rattle.pfx_store_image.specs.Store.{Replays, Numbers, single, double}
use Rattle.pfx_store_image.proofs.Answers.{okay, not_err, ok_same, some_same, some_back, ok_back, if_back, else_back}
use Rattle.pfx_store_image.proofs.Regions.{segment_inside}
use Rattle.pfx_store_image.proofs.Runs.{same_true, other_false, apart}
use Rattle.pfx_store_image.proofs.Stages.{follows_is, follows_not, walk_shut, walk_past, walk_open}

abbrev good : Bool → Result Bool Refusal
good b = Ok b

-- the open checkpoint area taken, and the other closed or lower
taken_back : (at_0 at_1 : ℕ) (g h : Bool) (a b : ℕ) (c : Bool) → taken at_0 at_1 g h a b ≡ Ok c
    → ((c ≡ false) × (g ≡ true) × ((h ≡ false) ⊎ (b < a))) ⊎ ((c ≡ true) × (h ≡ true) × ((g ≡ false) ⊎ (a < b)))
taken_back at_0 at_1 false false a b c is = not_err (Damaged at_0 Checkpoint) c is
taken_back at_0 at_1 true false a b c is = inl (sym (ok_same false c is), refl, inl refl)
taken_back at_0 at_1 false true a b c is = inr (sym (ok_same true c is), refl, inl refl)
taken_back at_0 at_1 true true a b c is =
    let e = else_back (a == b) (Damaged at_1 Checkpoint) (good (nat_lt a b)) c is in
    let which = ok_same (nat_lt a b) c e.1 in
    elim (cases_lt a b) [
      | inl less ↦ inr (sym which ∙ lt-ltb a b less, refl, inr less)
      | inr more ↦ inl (sym which ∙ le-ltb a b more, refl, inr (omega (arith, more, apart a b e.0)))
    ]

begun_back : (at_0 at_1 : ℕ) (g h : Bool) (n a b : ℕ) (c : Bool) → begun at_0 at_1 g h n a b ≡ Ok c
    → ((c ≡ false) × (g ≡ true) × (a ≡ n) × ((h ≡ false) ⊎ (b ≢ n))) ⊎ ((c ≡ true) × (h ≡ true) × (b ≡ n) × ((g ≡ false) ⊎ (a ≢ n)))
begun_back at_0 at_1 false false n a b c is = not_err (Damaged at_0 Segment) c is
begun_back at_0 at_1 true false n a b c is =
    let e = if_back (a == n) (good false) (Damaged at_0 Segment) c is in
    inl (sym (ok_same false c e.1), refl, eqb-true a n e.0, inl refl)
begun_back at_0 at_1 false true n a b c is =
    let e = if_back (b == n) (good true) (Damaged at_0 Segment) c is in
    inr (sym (ok_same true c e.1), refl, eqb-true b n e.0, inl refl)
begun_back at_0 at_1 true true n a b c is =
    let e = else_back (a == b) (Damaged at_1 Segment) (if a == n then good false else (if b == n then good true else Err (Damaged at_0 Segment))) c is in
    elim (cases_eq a n) [
      | inl here ↦ inl (sym (ok_same false c (sym (rw (same_true a n here) refl) ∙ e.1)), refl, here, inr (λ is. apart a b e.0 (here ∙ sym is)))
      | inr other ↦
          let f = if_back (b == n) (good true) (Damaged at_0 Segment) c (sym (rw (other_false a n other) refl) ∙ e.1) in
          inr (sym (ok_same true c f.1), refl, eqb-true b n f.0, inr other)
    ]

module _ {H S : Type 0} (K : Codec H S) where
  pub replays_back : (gate : ℕ) (s : S) (frames : List (List ℕ)) (t : S) → replay K gate s frames ≡ Ok t → Replays K s frames t
  replays_back gate s [] t is = ok_same s t is
  replays_back gate s (frame ∷ frames) t is =
      let e = some_back (K.apply s frame) (Damaged gate Record) (λ u. replay K (gate + length frame) u frames) t is in
      (e.0, e.1, replays_back (gate + length frame) e.0 frames t e.2)

  pub numbers_same : (n : ℕ) (frames : List (List ℕ)) (a b : ℕ) → Numbers K n frames a → Numbers K n frames b → a ≡ b
  numbers_same n [] a b of_a of_b = sym of_a ∙ of_b
  numbers_same n (frame ∷ frames) a b of_a of_b = numbers_same of_a.0 frames a b of_a.2 (subst (λ k. Numbers K k frames b) (sym (some_same of_a.0 of_b.0 (sym of_a.1 ∙ of_b.1))) of_b.2)

  abbrev walked : List (List ℕ) → ℕ → Result (List (List ℕ) × ℕ) Refusal
  walked frames m = Ok (frames, m)

  pair_back : (f g : List (List ℕ)) (m k : ℕ) → walked f m ≡ walked g k → (f ≡ g) × (m ≡ k)
  pair_back f g m k is = let e = ok_same (f, m) (g, k) is in (ap (λ w. w.0) e, ap (λ w. w.1) e)

  pub walk_back : (n gate end last : ℕ) (x : List ℕ) (frames : List (List ℕ)) (m : ℕ) → end ≤ length x → walk K n gate end last x ≡ walked frames m → AreFrames gate end frames x × Numbers K last frames m
  walk_back zero gate end last x frames m inside is = not_err (Damaged gate Frame) (frames, m) is
  walk_back (suc n) gate end last x frames m inside is = elim (cases_eq (get_or x gate 0) GATE_OPEN) [
    | inr shut ↦
        let e = pair_back [] frames last m (sym (walk_shut K n gate end last x shut) ∙ is) in
        (subst (λ l. AreFrames gate end l x) e.0 shut, subst (λ l. Numbers K last l m) e.0 e.1)
    | inl opened ↦ elim (cases_lt (gate + (15 + number_4 (gate + 1) x)) end) [
      | inr past ↦ not_err (Damaged gate Frame) (frames, m) (sym (walk_past K n gate end last x opened past) ∙ is)
      | inl fits ↦
          let len = 15 + number_4 (gate + 1) x in
          let frame = take len (drop gate x) in
          let one = some_back (K.after last frame) (Damaged gate Frame) (λ k. on_ok (walk K n (gate + len) end k x) (λ w. walked (frame ∷ w.0) w.1)) (frames, m) (sym (walk_open K n gate end last x opened fits) ∙ is) in
          let two = ok_back (walk K n (gate + len) end one.0 x) (λ w. walked (frame ∷ w.0) w.1) (frames, m) one.2 in
          let e = pair_back (frame ∷ two.0.0) frames two.0.1 m two.2 in
          let next = walk_back n (gate + len) end one.0 x two.0.0 two.0.1 inside two.1 in
          let long : length frame ≡ len = omega (arith, length-take len (drop gate x), length-drop gate x, fits, inside) in
          let stands : StandAt gate frame x = part_stands gate len x in
          let at : get_or frame 0 0 ≡ GATE_OPEN = sym (stands 0 (omega (arith, long))) ∙ ap (λ (k : ℕ). get_or x k 0) (none gate) ∙ opened in
          let is_one : IsFrame frame = record { gate = at; whole = omega (arith, long, number_is gate frame x (omega (arith, long)) stands) } in (
            subst (λ l. AreFrames gate end l x) e.0 (stands, is_one, omega (arith, fits, long), subst (λ (k : ℕ). AreFrames (gate + k) end two.0.0 x) (sym long) next.0),
            subst (λ l. Numbers K last l m) e.0 (one.0, one.1, subst (λ k. Numbers K one.0 two.0.0 k) e.1 next.1),
          )
    ]
  ]
    where
      none : (g : ℕ) → g + 0 ≡ g
      none g = omega arith

  module _ (x : List ℕ) where
    pub opened_at : (at : ℕ) → is_open at x ≡ true → IsOpenAt at x
    opened_at at is = eqb-true (get_or x at 0) GATE_OPEN is

    pub shut_at : (at : ℕ) → is_open at x ≡ false → IsClosedAt at x
    shut_at at is = apart (get_or x at 0) GATE_OPEN is

  module _ (h : H) (x : List ℕ) where
    abbrev pub TakenArea : Bool → Type 0
    TakenArea b = IsOpenAt (area_at (K.layout h) b) x × (IsClosedAt (area_at (K.layout h) (not b)) x ⊎ (area_numbered K h x (not b) < area_numbered K h x b))

    pub area_of : (c : Bool) → area_taken K h x ≡ Ok c → TakenArea c
    area_of c is = ⊎_elim
        (λ e. subst TakenArea (sym e.0) (opened_at x (area_at (K.layout h) false) e.1, ⊎_elim (λ shut. inl (shut_at x (area_at (K.layout h) true) shut)) (λ low. inr low) e.2))
        (λ e. subst TakenArea (sym e.0) (opened_at x (area_at (K.layout h) true) e.1, ⊎_elim (λ shut. inl (shut_at x (area_at (K.layout h) false) shut)) (λ low. inr low) e.2))
        (taken_back _ _ _ _ _ _ c is)

    abbrev pub BegunSegment : ℕ → Bool → Type 0
    BegunSegment n b = IsOpenAt (segment_at (K.layout h) b) x × (segment_first K h x b ≡ n) × (IsClosedAt (segment_at (K.layout h) (not b)) x ⊎ (segment_first K h x (not b) ≢ n))

    pub segment_of : (n : ℕ) (c : Bool) → segment_begun K h x n ≡ Ok c → BegunSegment n c
    segment_of n c is = ⊎_elim
        (λ e. subst (BegunSegment n) (sym e.0) (opened_at x (segment_at (K.layout h) false) e.1, e.2, ⊎_elim (λ shut. inl (shut_at x (segment_at (K.layout h) true) shut)) (λ other. inr other) e.3))
        (λ e. subst (BegunSegment n) (sym e.0) (opened_at x (segment_at (K.layout h) true) e.1, e.2, ⊎_elim (λ shut. inl (shut_at x (segment_at (K.layout h) false) shut)) (λ other. inr other) e.3))
        (begun_back _ _ _ _ _ _ _ c is)

    -- each stage that gave an answer
    pub from_head_back : (t : Found H S) → from_head K h x ≡ Ok t → (length x ≡ file_len (K.layout h)) × ((c : Bool) × (area_taken K h x ≡ Ok c) × (from_area K h x c ≡ Ok t))
    unfolding from_head
    from_head_back t is =
        let e = if_back (length x == file_len (K.layout h)) _ _ t is in
        (eqb-true (length x) (file_len (K.layout h)) e.0, ok_back (area_taken K h x) (λ c. from_area K h x c) t e.1)

    pub from_area_back : (c : Bool) (t : Found H S) → from_area K h x c ≡ Ok t → (s : S) × (K.read_state h (body_at (K.layout h) (area_at (K.layout h) c) x) ≡ Some s) × (from_state K h x c s ≡ Ok t)
    unfolding from_area
    from_area_back c t is = some_back (K.read_state h (body_at (K.layout h) (area_at (K.layout h) c) x)) (Damaged (area_at (K.layout h) c) Checkpoint) (λ s. from_state K h x c s) t is

    pub from_state_back : (c : Bool) (s : S) (t : Found H S) → from_state K h x c s ≡ Ok t → (b : Bool) × (segment_begun K h x (K.number s + 1) ≡ Ok b) × (from_segment K h x c s b ≡ Ok t)
    unfolding from_state
    from_state_back c s t is = ok_back (segment_begun K h x (K.number s + 1)) (λ b. from_segment K h x c s b) t is

    pub from_segment_back : (c : Bool) (s : S) (b : Bool) (t : Found H S) → from_segment K h x c s b ≡ Ok t → (w : List (List ℕ) × ℕ) × (walk_segment K h x (K.number s) b ≡ Ok w) × (from_frames K h x c s b w.0 w.1 ≡ Ok t)
    unfolding from_segment
    from_segment_back c s b t is = ok_back (walk_segment K h x (K.number s) b) (λ w. from_frames K h x c s b w.0 w.1) t is

    pub from_one_back : (c : Bool) (s : S) (b : Bool) (frames : List (List ℕ)) (last : ℕ) (t : Found H S) → from_one K h x c s b frames last ≡ Ok t
        → (u : S) × (replay K (first_gate (K.layout h) b) s frames ≡ Ok u) × (is_passed K h x last (not b) ≡ true) × (found_of h (single c s b frames) u ≡ t)
    unfolding from_one
    from_one_back c s b frames last t is =
        let e = ok_back (replay K (first_gate (K.layout h) b) s frames) (λ u. cond (is_passed K h x last (not b)) (Ok (found_of h (single c s b frames) u)) (Err (Damaged (segment_at (K.layout h) (not b)) Segment))) t is in
        let f = if_back (is_passed K h x last (not b)) (okay (found_of h (single c s b frames) e.0)) (Damaged (segment_at (K.layout h) (not b)) Segment) t e.2 in
        (e.0, e.1, f.0, ok_same (found_of h (single c s b frames) e.0) t f.1)

    pub from_two_back : (c : Bool) (s : S) (b : Bool) (before frames : List (List ℕ)) (t : Found H S) → from_two K h x c s b before frames ≡ Ok t
        → (middle : S) × (replay K (first_gate (K.layout h) b) s before ≡ Ok middle) × ((u : S) × (replay K (first_gate (K.layout h) (not b)) middle frames ≡ Ok u) × (found_of h (double c s b before middle frames) u ≡ t))
    unfolding from_two
    from_two_back c s b before frames t is =
        let e = ok_back (replay K (first_gate (K.layout h) b) s before) (λ i. on_ok (replay K (first_gate (K.layout h) (not b)) i frames) (λ u. Ok (found_of h (double c s b before i frames) u))) t is in
        let f = ok_back (replay K (first_gate (K.layout h) (not b)) e.0 frames) (λ u. Ok (found_of h (double c s b before e.0 frames) u)) t e.2 in
        (e.0, e.1, (f.0, f.1, ok_same (found_of h (double c s b before e.0 frames) f.0) t f.2))

    -- What goes on behind the frames of the first is read; what doesn't isn't.
    pub from_frames_back : (c : Bool) (s : S) (b : Bool) (frames : List (List ℕ)) (last : ℕ) (t : Found H S) → from_frames K h x c s b frames last ≡ Ok t
        → (IsOpenAt (segment_at (K.layout h) (not b)) x × (segment_first K h x (not b) ≡ last + 1) × ((w : List (List ℕ) × ℕ) × (walk_segment K h x last (not b) ≡ Ok w) × (from_two K h x c s b frames w.0 ≡ Ok t)))
        ⊎ (BeginsElse K h x (not b) (last + 1) × (from_one K h x c s b frames last ≡ Ok t))
    unfolding from_frames
    from_frames_back c s b frames last t is = elim (cases_eq (get_or x (segment_at (K.layout h) (not b)) 0) GATE_OPEN) [
      | inr shut ↦ inr (inl shut, sym (past (inl shut)) ∙ is)
      | inl opened ↦ elim (cases_eq (segment_first K h x (not b)) (last + 1)) [
        | inl next ↦ inl (opened, next, ok_back (walk_segment K h x last (not b)) (λ w. from_two K h x c s b frames w.0) t (sym (on opened next) ∙ is))
        | inr other ↦ inr (inr other, sym (past (inr other)) ∙ is)
      ]
    ]
      where
        past : BeginsElse K h x (not b) (last + 1) → cond (follows K h x last (not b)) (on_ok (walk_segment K h x last (not b)) (λ w. from_two K h x c s b frames w.0)) (from_one K h x c s b frames last) ≡ from_one K h x c s b frames last
        past other = ap (λ follow. cond follow (on_ok (walk_segment K h x last (not b)) (λ w. from_two K h x c s b frames w.0)) (from_one K h x c s b frames last)) (follows_not K h x last (not b) other)

        on : IsOpenAt (segment_at (K.layout h) (not b)) x → segment_first K h x (not b) ≡ last + 1 → cond (follows K h x last (not b)) (on_ok (walk_segment K h x last (not b)) (λ w. from_two K h x c s b frames w.0)) (from_one K h x c s b frames last) ≡ on_ok (walk_segment K h x last (not b)) (λ w. from_two K h x c s b frames w.0)
        on opened next = ap (λ follow. cond follow (on_ok (walk_segment K h x last (not b)) (λ w. from_two K h x c s b frames w.0)) (from_one K h x c s b frames last)) (follows_is K h x last (not b) opened next)

    pub passed_back : (last : ℕ) (b : Bool) → is_passed K h x last b ≡ true → IsClosedAt (segment_at (K.layout h) b) x ⊎ (segment_first K h x b < last + 1)
    passed_back last b is = elim (cases_eq (get_or x (segment_at (K.layout h) b) 0) GATE_OPEN) [
      | inr shut ↦ inl shut
      | inl opened ↦ inr (ltb-true (segment_first K h x b) (last + 1) (sym (rw (same_true _ _ opened) refl) ∙ is))
    ]

    pub end_inside : (b : Bool) → length x ≡ file_len (K.layout h) → segment_at (K.layout h) b + (K.layout h).segment ≤ length x
    end_inside b long = omega (arith, long, segment_inside (K.layout h) b)
