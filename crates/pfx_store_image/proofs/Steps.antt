-- The writers' steps on files that a store may leave, at each moment of them.
use Rattle.std.proofs.Common.{◌≡◌, ◌≢◌, ◌⊎◌, inl, inr, ⊎_elim, ℕ, suc, ◌+◌, ◌≤◌, ◌<◌, List, [], ◌∷◌, ◌++◌, length, get_or, take, drop, refl, sym, ◌∙◌, ap, subst, arith, length-append, length-take, length-drop, Bool, true, false, not, Some, Ok}
use Rattle.std.proofs.lemmas.List.{ext_get_or, get_or-take, get_or-drop}
use Rattle.std.proofs.lemmas.Bool.{cases_eq, cases_lt}
use Rattle.pfx_disk.specs.declared.gates.TheConstants.{GATE_OPEN}
use Rattle.pfx_disk.specs.Disk.{Torn}
use Rattle.pfx_segment.specs.Segment.{StandAt, Appended}
use Rattle.pfx_segment.specs.Turning.{Closing, Prepared}
use Rattle.pfx_segment.specs.Frames.{IsFrame}
use Rattle.pfx_segment.proofs.FrameLemmas.{Agree, frames_after, part_is}
use Rattle.pfx_store_image.specs.Codec.{Codec, Laws}
use Rattle.pfx_store_image.specs.Layout.{area_at, segment_at, file_len, body_at, first_at}
use Rattle.pfx_store_image.specs.Store.{Parts, Replays, InArea, IsLower, InSegment, Other, IsStore, next_gate, with_frame, turned_at, finished}
use Rattle.pfx_store_image.proofs.Regions.{part_local, agree_part, area_local, lower_local, segment_local, passed_local, area_inside, segment_inside, area_before, head_before, agree_aside, same_long, same_head, area_of_segment, other_segment, segment_of_area, other_area}
use Rattle.pfx_store_image.proofs.Runs.{not_not, numbers_of, numbers_rise, replays_one, replays_rise}

module _ {H S : Type 0} (K : Codec H S) (laws : Laws K) (h : H) where
  -- the segment that isn't the current one, if the image is the same in it
  other_local : (turned : Bool) (p : Parts S) (s : S) (x y : List ℕ) → length y ≡ length x → length x ≡ file_len (K.layout h) → Agree (segment_at (K.layout h) (not p.segment)) (segment_at (K.layout h) (not p.segment) + (K.layout h).segment) x y → Other K h turned p s x → Other K h turned p s y
  other_local false p s x y long reach agree is = (passed_local K h x y long (K.number s + 1) (K.number p.base + 1) (segment_at (K.layout h) (not p.segment)) (omega (arith, reach, segment_inside (K.layout h) (not p.segment))) agree is.0, is.1, is.2)
  other_local true p s x y long reach agree is = (segment_local K h x y long (K.number p.base + 1) p.before (segment_at (K.layout h) (not p.segment)) (omega (arith, reach, segment_inside (K.layout h) (not p.segment))) agree is.0, is.1, is.2)

  other_framed : (turned : Bool) (p : Parts S) (s t : S) (frame x : List ℕ) → K.number s ≤ K.number t → Other K h turned p s x → Other K h turned (with_frame p frame) t x
  other_framed false p s t frame x rise (inl shut, same, none) = (inl shut, same, none)
  other_framed false p s t frame x rise (inr low, same, none) = (inr (omega (arith, low.0, rise), low.1), same, none)
  other_framed true p s t frame x rise is = is

  -- Appending.
  pub append_step : (p : Parts S) (s t : S) (body x y : List ℕ) → next_gate K h p + 1 + length body < segment_at (K.layout h) p.segment + (K.layout h).segment → IsFrame (GATE_OPEN ∷ body) → K.apply s (GATE_OPEN ∷ body) ≡ Some t
      → Appended (next_gate K h p) (body ++ 0 ∷ []) x y → IsStore K h p s x → IsStore K h p s y ⊎ IsStore K h (with_frame p (GATE_OPEN ∷ body)) t y
  append_step p s t body x y fits frame step appended is = ⊎_elim
      (λ still. inl (record {
        head = head;
        long = len;
        area = area;
        lower = lower;
        current = record { gate = gate; number = number; are = still };
        other = other_local p.turned p s x y long is.long other_agree is.other;
        state = is.state;
      }))
      (λ more. inr (record {
        head = head;
        long = len;
        area = area;
        lower = lower;
        current = record { gate = gate; number = number; are = more };
        other = other_framed p.turned p s t (GATE_OPEN ∷ body) y (omega (arith, laws.later (K.number s) (GATE_OPEN ∷ body) (K.number t) (laws.after s (GATE_OPEN ∷ body) t step))) (other_local p.turned p s x y long is.long other_agree is.other);
        state = replays_one K laws p.middle p.frames s (GATE_OPEN ∷ body) t is.state step;
      }))
      (frames_after (at + 9) (at + (K.layout h).segment) (next_gate K h p) p.frames body x y refl fits (omega (arith, is.long, segment_inside (K.layout h) p.segment)) frame is.current.are appended)
    where
      at : ℕ
      at = segment_at (K.layout h) p.segment

      gate_at : ℕ
      gate_at = next_gate K h p

      n : ℕ
      n = 1 + length (body ++ 0 ∷ [])

      n_is : n ≡ length body + 2
      n_is = omega (arith, length-append body (0 ∷ []))

      torn : Torn gate_at n x y
      torn = appended.torn

      low : at ≤ gate_at
      low = omega arith

      high : gate_at + n ≤ at + (K.layout h).segment
      high = omega (arith, fits, n_is)

      inside : gate_at + n ≤ file_len (K.layout h)
      inside = omega (arith, high, segment_inside (K.layout h) p.segment)

      long : length y ≡ length x
      long = same_long (K.layout h) gate_at n x y is.long torn inside

      len : length y ≡ file_len (K.layout h)
      len = long ∙ is.long

      head : K.read_head y ≡ Ok h
      head = laws.head_alone h x y is.head (same_head (K.layout h) gate_at n x y is.long torn inside (omega (arith, low, area_before (K.layout h) true p.segment, head_before (K.layout h) true)))

      area : InArea K h p.base (area_at (K.layout h) p.area) y
      area = area_local K h x y long p.base (area_at (K.layout h) p.area) (omega (arith, is.long, area_inside (K.layout h) p.area)) (area_of_segment (K.layout h) gate_at n x y is.long torn p.segment p.area low) is.area

      lower : IsLower K h (K.number p.base) (area_at (K.layout h) (not p.area)) y
      lower = lower_local K h x y long (K.number p.base) (area_at (K.layout h) (not p.area)) (omega (arith, is.long, area_inside (K.layout h) (not p.area))) (area_of_segment (K.layout h) gate_at n x y is.long torn p.segment (not p.area) low) is.lower

      other_agree : Agree (segment_at (K.layout h) (not p.segment)) (segment_at (K.layout h) (not p.segment) + (K.layout h).segment) x y
      other_agree = other_segment (K.layout h) gate_at n x y is.long torn p.segment low high

      front : Agree at (at + 9) x y
      front = agree_aside (K.layout h) gate_at n x y is.long torn at (at + 9) (omega (arith, (K.layout h).room, segment_inside (K.layout h) p.segment)) (inl (omega arith))

      gate : get_or y at 0 ≡ GATE_OPEN
      gate = front at (omega arith) (omega arith) ∙ is.current.gate

      number : K.segment_number (first_at at y) ≡ K.number p.middle + 1
      number = ap K.segment_number (part_local (at + 1) 8 x y (omega (arith, is.long, (K.layout h).room, segment_inside (K.layout h) p.segment)) long (agree_part at (at + 9) (at + 1) (at + 1 + 8) x y front (omega arith) (omega arith))) ∙ is.current.number

  -- The other segment is closed and gets a new first number.
  module _ (p : Parts S) (s : S) (bytes x y : List ℕ) (single : p.turned ≡ false) (some : 0 < length p.frames) (nine : length bytes ≡ 9) (spelled : K.segment_number (take 8 bytes) ≡ K.number s + 1) (shut : get_or bytes 8 0 ≡ 0)
      (torn : Torn (segment_at (K.layout h) (not p.segment)) (1 + length bytes) x y) (is : IsStore K h p s x) where
    abbrev turn_at : ℕ
    turn_at = segment_at (K.layout h) (not p.segment)

    abbrev turn_len : ℕ
    turn_len = 1 + length bytes

    high : turn_at + turn_len ≤ turn_at + (K.layout h).segment
    high = omega (arith, nine, (K.layout h).room)

    pub turn_inside : segment_at (K.layout h) (not p.segment) + (1 + length bytes) ≤ file_len (K.layout h)
    turn_inside = omega (arith, high, segment_inside (K.layout h) (not p.segment))

    pub turn_long : length y ≡ length x
    turn_long = same_long (K.layout h) turn_at turn_len x y is.long torn turn_inside

    len : length y ≡ file_len (K.layout h)
    len = turn_long ∙ is.long

    head : K.read_head y ≡ Ok h
    head = laws.head_alone h x y is.head (same_head (K.layout h) turn_at turn_len x y is.long torn turn_inside (omega (arith, area_before (K.layout h) true (not p.segment), head_before (K.layout h) true)))

    area : InArea K h p.base (area_at (K.layout h) p.area) y
    area = area_local K h x y turn_long p.base (area_at (K.layout h) p.area) (omega (arith, is.long, area_inside (K.layout h) p.area)) (area_of_segment (K.layout h) turn_at turn_len x y is.long torn (not p.segment) p.area (omega arith)) is.area

    lower : IsLower K h (K.number p.base) (area_at (K.layout h) (not p.area)) y
    lower = lower_local K h x y turn_long (K.number p.base) (area_at (K.layout h) (not p.area)) (omega (arith, is.long, area_inside (K.layout h) (not p.area))) (area_of_segment (K.layout h) turn_at turn_len x y is.long torn (not p.segment) (not p.area) (omega arith)) is.lower

    current_agree : Agree (segment_at (K.layout h) p.segment) (segment_at (K.layout h) p.segment + (K.layout h).segment) x y
    current_agree = subst (λ b. Agree (segment_at (K.layout h) b) (segment_at (K.layout h) b + (K.layout h).segment) x y) (not_not p.segment) (other_segment (K.layout h) turn_at turn_len x y is.long torn (not p.segment) (omega arith) high)

    current : InSegment K h (K.number p.middle + 1) p.frames (segment_at (K.layout h) p.segment) y
    current = segment_local K h x y turn_long (K.number p.middle + 1) p.frames (segment_at (K.layout h) p.segment) (omega (arith, is.long, segment_inside (K.layout h) p.segment)) current_agree is.current

    alone : Other K h false p s x
    alone = subst (λ t. Other K h t p s x) single is.other

    same : p.base ≡ p.middle
    same = alone.1

    run : Replays K p.base p.frames s
    run = subst (λ m. Replays K m p.frames s) (sym same) is.state

    -- the number and the closed gate stand there, and the gate is open
    pub turn_whole : StandAt (segment_at (K.layout h) (not p.segment)) (GATE_OPEN ∷ bytes) y → IsStore K h (turned_at p s) s y
    turn_whole stand = record {
      head = head;
      long = len;
      area = area;
      lower = lower;
      current = record {
        gate = ap (λ (k : ℕ). get_or y k 0) (none turn_at) ∙ stand 0 (omega arith);
        number = ap K.segment_number first ∙ spelled;
        are = next;
      };
      other = (
        subst (λ b. InSegment K h (K.number p.base + 1) p.frames (segment_at (K.layout h) b) y) (sym (not_not p.segment)) (subst (λ m. InSegment K h (K.number m + 1) p.frames (segment_at (K.layout h) p.segment) y) (sym same) current),
        run,
        replays_rise K laws p.base p.frames s some run,
      );
      state = refl;
    }
      where
        none : (g : ℕ) → g ≡ g + 0
        none g = omega arith

        behind : (g i : ℕ) → g + 1 + i ≡ g + suc i
        behind g i = omega arith

        stands : StandAt (turn_at + 1) bytes y
        stands i below = ap (λ (k : ℕ). get_or y k 0) (behind turn_at i) ∙ stand (suc i) (omega (arith, below))

        first : first_at turn_at y ≡ take 8 bytes
        first = ext_get_or 0 (take 8 (drop (turn_at + 1) y)) (take 8 bytes) (omega (arith, length-take 8 (drop (turn_at + 1) y), length-drop (turn_at + 1) y, length-take 8 bytes, nine, len, turn_inside))
            (λ i below. get_or-take 8 (drop (turn_at + 1) y) i 0 (omega (arith, below, length-take 8 (drop (turn_at + 1) y))) ∙ get_or-drop (turn_at + 1) y i 0 ∙ stands i (omega (arith, below, length-take 8 (drop (turn_at + 1) y), nine)) ∙ sym (get_or-take 8 bytes i 0 (omega (arith, below, length-take 8 (drop (turn_at + 1) y)))))

        next : get_or y (turn_at + 9) 0 ≡ GATE_OPEN → ⊥
        next opened =
            let there : get_or y (turn_at + 9) 0 ≡ 0 = ap (λ (k : ℕ). get_or y k 0) (nine_is turn_at) ∙ stands 8 (omega (arith, nine)) ∙ shut in
            omega (arith, there, opened)
          where
            nine_is : (g : ℕ) → g + 9 ≡ g + 1 + 8
            nine_is g = omega arith

    pub turn_shut : get_or y (segment_at (K.layout h) (not p.segment)) 0 ≢ GATE_OPEN → IsStore K h p s y
    turn_shut closed = record {
      head = head;
      long = len;
      area = area;
      lower = lower;
      current = current;
      other = subst (λ t. Other K h t p s y) (sym single) (inl closed, same, alone.2);
      state = is.state;
    }

  -- at every moment of a turn
  pub turn_step : (p : Parts S) (s : S) (is_open : Bool) (bytes x y : List ℕ) → p.turned ≡ false → 0 < length p.frames → length bytes ≡ 9 → K.segment_number (take 8 bytes) ≡ K.number s + 1 → get_or bytes 8 0 ≡ 0 → (is_open ≡ true → get_or x (segment_at (K.layout h) (not p.segment)) 0 ≡ GATE_OPEN)
      → Prepared (segment_at (K.layout h) (not p.segment)) is_open bytes x y → IsStore K h p s x → IsStore K h p s y ⊎ IsStore K h (turned_at p s) s y
  turn_step p s is_open bytes x y single some nine spelled shut known prepared is = by (prepared.gate_last (omega (arith, is.long, turn_inside p s bytes x y single some nine spelled shut prepared.torn is)) known)
    where
      by : (y ≡ x) ⊎ ((get_or y (segment_at (K.layout h) (not p.segment)) 0 ≢ GATE_OPEN) ⊎ StandAt (segment_at (K.layout h) (not p.segment)) (GATE_OPEN ∷ bytes) y) → IsStore K h p s y ⊎ IsStore K h (turned_at p s) s y
      by (inl is_same) = inl (subst (λ z. IsStore K h p s z) (sym is_same) is)
      by (inr (inl closed)) = inl (turn_shut p s bytes x y single some nine spelled shut prepared.torn is closed)
      by (inr (inr stand)) = inr (turn_whole p s bytes x y single some nine spelled shut prepared.torn is stand)

  -- A write in the checkpoint area that isn't in use.
  module _ (p : Parts S) (s : S) (at n : ℕ) (x y : List ℕ) (low : area_at (K.layout h) (not p.area) ≤ at) (high : at + n ≤ area_at (K.layout h) (not p.area) + 1 + (K.layout h).body) (torn : Torn at n x y) (is : IsStore K h p s x) where
    inside : at + n ≤ file_len (K.layout h)
    inside = omega (arith, high, area_inside (K.layout h) (not p.area))

    pub area_long : length y ≡ length x
    area_long = same_long (K.layout h) at n x y is.long torn inside

    head_then : K.read_head y ≡ Ok h
    head_then = laws.head_alone h x y is.head (same_head (K.layout h) at n x y is.long torn inside (omega (arith, low, head_before (K.layout h) (not p.area))))

    area_then : InArea K h p.base (area_at (K.layout h) p.area) y
    area_then = area_local K h x y area_long p.base (area_at (K.layout h) p.area) (omega (arith, is.long, area_inside (K.layout h) p.area))
        (subst (λ b. Agree (area_at (K.layout h) b) (area_at (K.layout h) b + 1 + (K.layout h).body) x y) (not_not p.area) (other_area (K.layout h) at n x y is.long torn (not p.area) low high)) is.area

    current_then : InSegment K h (K.number p.middle + 1) p.frames (segment_at (K.layout h) p.segment) y
    current_then = segment_local K h x y area_long (K.number p.middle + 1) p.frames (segment_at (K.layout h) p.segment) (omega (arith, is.long, segment_inside (K.layout h) p.segment)) (segment_of_area (K.layout h) at n x y is.long torn (not p.area) p.segment high) is.current

    other_then : Other K h p.turned p s y
    other_then = other_local p.turned p s x y area_long is.long (segment_of_area (K.layout h) at n x y is.long torn (not p.area) (not p.segment) high) is.other

    -- closed, or as it was
    pub area_shut : get_or y (area_at (K.layout h) (not p.area)) 0 ≢ GATE_OPEN → IsStore K h p s y
    area_shut shut = record { head = head_then; long = area_long ∙ is.long; area = area_then; lower = inl shut; current = current_then; other = other_then; state = is.state }

    -- the state of the middle stands in it
    pub area_done : p.turned ≡ true → InArea K h p.middle (area_at (K.layout h) (not p.area)) y → IsStore K h (finished p) s y
    area_done turned there =
        let two : Other K h true p s y = subst (λ t. Other K h t p s y) turned other_then in
        record {
          head = head_then;
          long = area_long ∙ is.long;
          area = there;
          lower = subst (λ b. IsLower K h (K.number p.middle) (area_at (K.layout h) b) y) (sym (not_not p.area)) (inr (omega (arith, two.2, laws.area_number h (body_at (K.layout h) (area_at (K.layout h) p.area) y) p.base area_then.body)));
          current = current_then;
          other = (inr (omega (arith, two.0.number, two.2, numbers_rise K laws (K.number p.middle) p.frames (K.number s) (numbers_of K laws p.middle p.frames s is.state)), λ same. omega (arith, same, two.0.number, two.2)), refl, refl);
          state = is.state;
        }

  -- The checkpoint's first step.
  pub close_step : (p : Parts S) (s : S) (is_open : Bool) (x y : List ℕ) → (is_open ≡ true → get_or x (area_at (K.layout h) (not p.area)) 0 ≡ GATE_OPEN) → Closing (area_at (K.layout h) (not p.area)) is_open x y → IsStore K h p s x → IsStore K h p s y
  close_step p s false x y known same is = subst (λ z. IsStore K h p s z) (sym same) is
  close_step p s true x y known torn is = elim (cases_eq (get_or y at 0) GATE_OPEN) [
    | inr shut ↦ area_shut p s at 1 x y (omega arith) (omega arith) torn is shut
    | inl opened ↦ subst (λ z. IsStore K h p s z) (sym (ext_get_or 0 y x long (λ i below. by i (cases_eq i at) opened below))) is
  ]
    where
      at : ℕ
      at = area_at (K.layout h) (not p.area)

      long : length y ≡ length x
      long = area_long p s at 1 x y (omega arith) (omega arith) torn is

      by : (i : ℕ) → (i ≡ at) ⊎ (i ≢ at) → get_or y at 0 ≡ GATE_OPEN → i < length y → get_or y i 0 ≡ get_or x i 0
      by i (inl here) opened below = ap (λ (k : ℕ). get_or y k 0) here ∙ opened ∙ sym (known refl) ∙ ap (λ (k : ℕ). get_or x k 0) (sym here)
      by i (inr apart) opened below = torn.elsewhere i (omega (arith, below, long)) (⊎_elim (λ before. inl before) (λ behind. inr (omega (arith, behind, apart))) (cases_lt i at))

  -- A middle step.
  pub piece_step : (p : Parts S) (s : S) (at n : ℕ) (x y : List ℕ) → area_at (K.layout h) (not p.area) < at → at + n ≤ area_at (K.layout h) (not p.area) + 1 + (K.layout h).body → get_or x (area_at (K.layout h) (not p.area)) 0 ≢ GATE_OPEN → Torn at n x y → IsStore K h p s x → IsStore K h p s y × (get_or y (area_at (K.layout h) (not p.area)) 0 ≢ GATE_OPEN)
  piece_step p s at n x y low high shut torn is = (area_shut p s at n x y (omega (arith, low)) high torn is still, still)
    where
      still : get_or y (area_at (K.layout h) (not p.area)) 0 ≢ GATE_OPEN
      still opened = shut (sym (torn.elsewhere (area_at (K.layout h) (not p.area)) (omega (arith, low, high, is.long, area_inside (K.layout h) (not p.area))) (inl low)) ∙ opened)

  -- The last step: the gate is opened before a checkpoint area's whole body.
  pub open_whole : (p : Parts S) (s : S) (spelling x y : List ℕ) → p.turned ≡ true → K.read_state h spelling ≡ Some p.middle → length spelling ≡ (K.layout h).body → Torn (area_at (K.layout h) (not p.area)) (1 + length spelling) x y
      → get_or y (area_at (K.layout h) (not p.area)) 0 ≡ GATE_OPEN → StandAt (area_at (K.layout h) (not p.area) + 1) spelling y → IsStore K h p s x → IsStore K h (finished p) s y
  open_whole p s spelling x y turned read long torn opened stand is =
      area_done p s at (1 + length spelling) x y (omega arith) (omega (arith, long)) torn is turned (record { gate = opened; body = ap (K.read_state h) body ∙ read })
    where
      at : ℕ
      at = area_at (K.layout h) (not p.area)

      body : body_at (K.layout h) at y ≡ spelling
      body = ap (λ k. take k (drop (at + 1) y)) (sym long) ∙ part_is (at + 1) spelling y (omega (arith, area_long p s at (1 + length spelling) x y (omega arith) (omega (arith, long)) torn is, is.long, long, area_inside (K.layout h) (not p.area))) stand

  pub open_step : (p : Parts S) (s : S) (spelling x y : List ℕ) → p.turned ≡ true → K.read_state h spelling ≡ Some p.middle → length spelling ≡ (K.layout h).body → get_or x (area_at (K.layout h) (not p.area)) 0 ≢ GATE_OPEN
      → Appended (area_at (K.layout h) (not p.area)) spelling x y → IsStore K h p s x → IsStore K h p s y ⊎ IsStore K h (finished p) s y
  open_step p s spelling x y turned read long shut appended is = elim (cases_eq (get_or y at 0) GATE_OPEN) [
    | inr closed ↦ inl (area_shut p s at (1 + length spelling) x y (omega arith) (omega (arith, long)) appended.torn is closed)
    | inl opened ↦ ⊎_elim (λ same. absurd (shut (sym same ∙ opened))) (λ stand. inr (open_whole p s spelling x y turned read long appended.torn opened stand is)) (appended.gate_last (omega (arith, is.long, area_inside (K.layout h) (not p.area))))
  ]
    where
      at : ℕ
      at = area_at (K.layout h) (not p.area)
