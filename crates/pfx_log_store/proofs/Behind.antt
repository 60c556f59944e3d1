-- What is gathered of frames is those behind the number that is sought, if there are such.
use Rattle.std.proofs.Common.{◌≡◌, ◌≢◌, ◌⊎◌, inl, inr, ⊎_elim, ℕ, ◌≤◌, ◌<◌, List, [], ◌∷◌, ◌++◌, length, get_or, drop, refl, sym, ◌∙◌, ap, subst, arith, Some, append_assoc, append-nil}
use Rattle.std.specs.Prelude.{if◌then◌else◌}
use Rattle.std.proofs.lemmas.Bool.{cases_lt, lt-ltb, le-ltb}
use Rattle.std.proofs.lemmas.Option.{same_Some}
use Rattle.pfx_store_image.specs.Codec.{Codec, Laws}
use Rattle.pfx_store_image.specs.Store.{Numbers}
use Rattle.pfx_store_image.proofs.Runs.{numbers_rise}
use Rattle.pfx_log_store.specs.Covering.{in_a_row}
use Rattle.pfx_log_store.proofs.Gathering.{number_more}
use Rattle.pfx_log_store.specs.Behind.{GoOnBehind, IsGap}
use Rattle.pfx_log_store.specs.Joining.{AreBehind, Gathering, Gathers, gathered_more, none_behind}

-- before the number that is sought a frame is passed over, and behind it it is gathered
more_early : (last next : ℕ) (frame : List ℕ) (g : Gathering) → g.begin < last → gathered_more last next frame g ≡ record { bytes = g.bytes; begin = next; number = next }
more_early last next frame g low = ap (λ b. if b then record { bytes = g.bytes; begin = next; number = next } else record { bytes = g.bytes ++ frame; begin = g.begin; number = next }) (lt-ltb g.begin last low)

more_late : (last next : ℕ) (frame : List ℕ) (g : Gathering) → last ≤ g.begin → gathered_more last next frame g ≡ record { bytes = g.bytes ++ frame; begin = g.begin; number = next }
more_late last next frame g high = ap (λ b. if b then record { bytes = g.bytes; begin = next; number = next } else record { bytes = g.bytes ++ frame; begin = g.begin; number = next }) (le-ltb g.begin last high)

module _ {H S : Type 0} (K : Codec H S) (last : ℕ) where
  -- frames whose numbers go on can be gathered
  pub gathers : (g : Gathering) (frames : List (List ℕ)) (m : ℕ) → Numbers K g.number frames m → (next : Gathering) × Gathers K last g frames next
  gathers g [] m is = (g, refl)
  gathers g (frame ∷ frames) m is =
      let number : (gathered_more last is.0 frame g).number ≡ is.0 = number_more last is.0 frame g in
      let on = gathers (gathered_more last is.0 frame g) frames m (subst (λ k. Numbers K k frames m) (sym number) is.2) in
      (on.0, (is.0, is.1, on.1))

  pub gathers_joined : (g : Gathering) (xs ys : List (List ℕ)) (between next : Gathering) → Gathers K last g xs between → Gathers K last between ys next → Gathers K last g (xs ++ ys) next
  gathers_joined g [] ys between next one other = subst (λ h. Gathers K last h ys next) (sym one) other
  gathers_joined g (x ∷ xs) ys between next one other = (one.0, one.1, gathers_joined (gathered_more last one.0 x g) xs ys between next one.2 other)

  -- the last number is that of the last frame
  pub ends_at : (g : Gathering) (frames : List (List ℕ)) (m : ℕ) (next : Gathering) → Numbers K g.number frames m → Gathers K last g frames next → next.number ≡ m
  ends_at g [] m next numbers is = ap (λ h. h.number) (sym is) ∙ numbers
  ends_at g (frame ∷ frames) m next numbers is =
      let same : is.0 ≡ numbers.0 = same_Some is.0 numbers.0 (sym is.1 ∙ numbers.1) in
      ends_at (gathered_more last is.0 frame g) frames m next (subst (λ k. Numbers K k frames m) (sym (number_more last is.0 frame g ∙ same)) numbers.2) is.2

  -- all frames come, once the number is reached
  late : (g : Gathering) (frames : List (List ℕ)) (next : Gathering) → last ≤ g.begin → Gathers K last g frames next → (next.begin ≡ g.begin) × (next.bytes ≡ g.bytes ++ in_a_row frames)
  late g [] next high is = (ap (λ h. h.begin) (sym is), ap (λ h. h.bytes) (sym is) ∙ sym (append-nil g.bytes))
  late g (frame ∷ frames) next high is =
      let on = late (record { bytes = g.bytes ++ frame; begin = g.begin; number = is.0 }) frames next high (subst (λ h. Gathers K last h frames next) (more_late last is.0 frame g high) is.2) in
      (on.0, on.1 ∙ append_assoc g.bytes frame (in_a_row frames))

  module _ (laws : Laws K) where
    -- what came of it
    abbrev Ends : ℕ → List (List ℕ) → Gathering → Type 0
    Ends n frames next = ((next.begin ≡ last) × AreBehind K n frames last next.bytes) ⊎ ((next.begin ≢ last) × IsGap K n frames last × GoOnBehind K n frames last next.begin)

    -- at a frame behind which the number is reached or passed
    crossed : (n k : ℕ) (frame : List ℕ) (frames : List (List ℕ)) (next : Gathering) → n < last → last ≤ k → K.after n frame ≡ Some k → Gathers K last (none_behind k) frames next → Ends n (frame ∷ frames) next
    crossed n k frame frames next low high after is =
        let end = late (none_behind k) frames next high is in
        ⊎_elim
        (λ past. inr (
          (λ same. (let begin = end.0 in omega (arith, past, same, begin))),
          (λ rest stand. none stand.front rest past stand.whole stand.reaches),
          (frames, record { front = frame ∷ []; whole = refl; reaches = (k, after, sym end.0) }, λ before. absurd (let begin = end.0 in omega (arith, past, begin, before))),
        ))
        (λ reached. inl (
          (let begin = end.0 in omega (arith, begin, reached, high)),
          (frames, record { front = frame ∷ []; whole = refl; reaches = (k, after, omega (arith, reached, high)) }, end.1),
        ))
        (cases_lt last k)
      where
        none : (front rest : List (List ℕ)) → last < k → frame ∷ frames ≡ front ++ rest → Numbers K n front last → ⊥
        none [] rest past whole reaches = omega (arith, low, reaches)
        none (x ∷ front) rest past whole reaches =
            let same : frame ≡ x = ap (λ l. get_or l 0 []) whole in
            let there : reaches.0 ≡ k = same_Some reaches.0 k (sym reaches.1 ∙ ap (λ f. K.after n f) (sym same) ∙ after) in
            omega (arith, past, there, numbers_rise K laws reaches.0 front last reaches.2)

    ended : (n : ℕ) (frames : List (List ℕ)) (next : Gathering) → n < last → Gathers K last (none_behind n) frames next → Ends n frames next
    ended n [] next low is = inr (
      (λ same. (let begin = ap (λ h. h.begin) is in omega (arith, low, same, begin))),
      (λ rest stand. none stand.front rest stand.whole stand.reaches),
      ([], record { front = []; whole = refl; reaches = ap (λ h. h.begin) is }, λ before. refl),
    )
      where
        none : (front rest : List (List ℕ)) → [] ≡ front ++ rest → Numbers K n front last → ⊥
        none [] rest whole reaches = omega (arith, low, reaches)
        none (x ∷ front) rest whole reaches = omega (arith, ap length whole)
    ended n (frame ∷ frames) next low is =
        let k = is.0 in
        let on : Gathers K last (none_behind is.0) frames next = subst (λ h. Gathers K last h frames next) (more_early last is.0 frame (none_behind n) low) is.2 in
        ⊎_elim (λ early. further early (ended k frames next early on)) (λ high. crossed n k frame frames next low high is.1 on) (cases_lt is.0 last)
      where
        further : is.0 < last → Ends is.0 frames next → Ends n (frame ∷ frames) next
        further early (inl there) = inl (there.0, (there.1.0, record { front = frame ∷ there.1.1.front; whole = ap (λ l. frame ∷ l) there.1.1.whole; reaches = (is.0, is.1, there.1.1.reaches) }, there.1.2))
        further early (inr none) = inr (none.0, (λ rest stand. back stand.front rest stand.whole stand.reaches), on_behind none.2)
          where
            on_behind : GoOnBehind K is.0 frames last next.begin → GoOnBehind K n (frame ∷ frames) last next.begin
            on_behind go = (go.0, record { front = frame ∷ go.1.front; whole = ap (λ l. frame ∷ l) go.1.whole; reaches = (is.0, is.1, go.1.reaches) }, go.2)

            back : (front rest : List (List ℕ)) → frame ∷ frames ≡ front ++ rest → Numbers K n front last → ⊥
            back [] rest whole reaches = omega (arith, low, reaches)
            back (x ∷ front) rest whole reaches =
                let same : frame ≡ x = ap (λ l. get_or l 0 []) whole in
                let others : frames ≡ front ++ rest = ap (λ l. drop 1 l) whole in
                let there : reaches.0 ≡ is.0 = same_Some reaches.0 is.0 (sym reaches.1 ∙ ap (λ f. K.after n f) (sym same) ∙ is.1) in
                none.1 rest (record { front = front; whole = others; reaches = subst (λ m. Numbers K m front last) there reaches.2 })

    -- from the first frame on
    pub ends : (n : ℕ) (frames : List (List ℕ)) (next : Gathering) → Gathers K last (none_behind n) frames next
        → ((next.begin ≡ last) × AreBehind K n frames last next.bytes) ⊎ ((next.begin ≢ last) × IsGap K n frames last × GoOnBehind K n frames last next.begin)
    ends n frames next is = ⊎_elim (λ low. ended n frames next low is) (λ high. begun high (late (none_behind n) frames next high is)) (cases_lt n last)
      where
        begun : last ≤ n → (next.begin ≡ n) × (next.bytes ≡ in_a_row frames) → Ends n frames next
        begun high end = ⊎_elim
            (λ past. inr (
              (λ same. (let begin = end.0 in omega (arith, past, same, begin))),
              (λ rest stand. (let low = numbers_rise K laws n stand.front last stand.reaches in omega (arith, past, low))),
              (frames, record { front = []; whole = refl; reaches = sym end.0 }, λ before. absurd (let begin = end.0 in omega (arith, past, begin, before))),
            ))
            (λ reached. inl ((let begin = end.0 in omega (arith, begin, reached, high)), (frames, record { front = []; whole = refl; reaches = omega (arith, reached, high) }, end.1)))
            (cases_lt last n)
