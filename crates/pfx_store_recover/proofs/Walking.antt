-- Loops that read frames and test their heads, and what a run over the frames' bytes finds.
use Rattle.std.proofs.Common.{◌≡◌, ◌≢◌, ℕ, zero, suc, ◌+◌, ◌-◌, ◌<◌, ◌≤◌, List, [], ◌∷◌, ◌++◌, length, get_or, take, drop, refl, sym, ◌∙◌, ap, arith, length-append, length-take, length-drop, Some, None, Ok, Err, Result, ◌⊎◌, inl, inr}
use Rattle.std.specs.List.{concat}
use Rattle.std.proofs.lemmas.List.{length_push, append-nil, get_or-take, get_or-drop, take-take, drop-drop, drop-take}
use Rattle.std.proofs.lemmas.Bool.{cases_lt}
use Rattle.std.proofs.lemmas.List.Elements.{All-push}
use Rattle.std.proofs.lemmas.List.Folds.{concat-append}
use Rattle.std.proofs.Math.Seq.{take-add}
use Rattle.pfx_disk.specs.declared.gates.TheConstants.{GATE_OPEN}
use Rattle.pfx_segment.specs.Frames.{frame_len, number_4, size}
use Rattle.pfx_segment.specs.Reading.{IsDamage}
use Rattle.pfx_segment.specs.declared.fault.ReadFault.{ReadFault}
use Rattle.pfx_segment.specs.declared.fault.ReadFault.TheVariants as frame
use Rattle.pfx_store_image.specs.Codec.{Codec}
use Rattle.pfx_store_image.specs.Recovery.{walk, on_ok, on_some}
use Rattle.pfx_store_image.specs.Refusals.{Refusal, Damaged, Frame}
use Rattle.pfx_store_image.proofs.Stages.{walk_shut, walk_past, walk_open, walk_one}
use Rattle.pfx_store_recover.specs.Answers.{Gives, of_frame}
use Rattle.pfx_store_recover.specs.Walking.{Fill, IsWalk}

-- these frames before what is read behind them
abbrev pub with_walk : List (List ℕ) → Result (List (List ℕ) × ℕ) Refusal → Result (List (List ℕ) × ℕ) Refusal
with_walk [] read = read
with_walk (f ∷ frames) read = on_ok (with_walk frames read) (λ w. Ok (f ∷ w.0, w.1))

walk_err : (frames : List (List ℕ)) (e : Refusal) → with_walk frames (Err e) ≡ Err e
walk_err [] e = refl
walk_err (f ∷ frames) e = ap (λ r. on_ok r (λ w. Ok (f ∷ w.0, w.1))) (walk_err frames e)

walk_ok : (frames : List (List ℕ)) (last : ℕ) → with_walk frames (Ok ([], last)) ≡ Ok (frames, last)
walk_ok [] last = refl
walk_ok (f ∷ frames) last = ap (λ r. on_ok r (λ w. Ok (f ∷ w.0, w.1))) (walk_ok frames last)

walk_push : (frames : List (List ℕ)) (f : List ℕ) (read : Result (List (List ℕ) × ℕ) Refusal) → with_walk (frames ++ f ∷ []) read ≡ with_walk frames (on_ok read (λ w. Ok (f ∷ w.0, w.1)))
walk_push [] f read = refl
walk_push (e ∷ frames) f read = ap (λ r. on_ok r (λ w. Ok (e ∷ w.0, w.1))) (walk_push frames f read)

-- numbers of four bytes, which are the same in both
pub number_same : (p q : ℕ) (x y : List ℕ) → ((i : ℕ) → i < 4 → get_or x (p + i) 0 ≡ get_or y (q + i) 0) → number_4 p x ≡ number_4 q y
number_same p q x y same = omega (arith, first (same 0 (omega arith)), next 1 (same 1 (omega arith)), next 2 (same 2 (omega arith)), next 3 (same 3 (omega arith)))
  where
    none : (n : ℕ) → n ≡ n + 0
    none n = omega arith

    first : get_or x (p + 0) 0 ≡ get_or y (q + 0) 0 → get_or x p 0 ≡ get_or y q 0
    first is = ap (λ (k : ℕ). get_or x k 0) (none p) ∙ is ∙ ap (λ (k : ℕ). get_or y k 0) (sym (none q))

    beyond : ℕ → ℕ → ℕ
    beyond zero n = n
    beyond (suc i) n = beyond i (suc n)

    beyond_is : (i n : ℕ) → beyond i n ≡ n + i
    beyond_is zero n = omega arith
    beyond_is (suc i) n = omega (arith, beyond_is i (suc n))

    next : (i : ℕ) → get_or x (p + i) 0 ≡ get_or y (q + i) 0 → get_or x (beyond i p) 0 ≡ get_or y (beyond i q) 0
    next i is = ap (λ (k : ℕ). get_or x k 0) (beyond_is i p) ∙ is ∙ ap (λ (k : ℕ). get_or y k 0) (sym (beyond_is i q))

-- a part that is as long as the head within it says, by itself
pub part_len : (gate : ℕ) (f bytes : List ℕ) → f ≡ take (frame_len gate bytes) (drop gate bytes) → length f ≡ frame_len gate bytes → length f ≡ frame_len 0 f
part_len gate f bytes is long = omega (arith, long, number_same 1 (gate + 1) f bytes each)
  where
    next : (i : ℕ) → gate + (1 + i) ≡ gate + 1 + i
    next i = omega arith

    each : (i : ℕ) → i < 4 → get_or f (1 + i) 0 ≡ get_or bytes (gate + 1 + i) 0
    each i below =
        ap (λ (l : List ℕ). get_or l (1 + i) 0) is
        ∙ get_or-take (frame_len gate bytes) (drop gate bytes) (1 + i) 0 (omega (arith, below))
        ∙ get_or-drop gate bytes (1 + i) 0
        ∙ ap (λ (k : ℕ). get_or bytes k 0) (next i)

pub fill_none : Fill [] []
fill_none = record { whole = λ k d below. absurd (omega (arith, below)); joined = refl }

pub fill_push : (frames : List (List ℕ)) (f bytes then : List ℕ) → Fill frames bytes → length f ≡ frame_len 0 f → then ≡ bytes ++ f → Fill (frames ++ f ∷ []) then
fill_push frames f bytes then fill long is = record {
  whole = All-push (λ (l : List ℕ). length l ≡ frame_len 0 l) frames f fill.whole long;
  joined = concat-append frames (f ∷ []) ∙ ap (λ (l : List ℕ). concat frames ++ l) (append-nil f) ∙ ap (λ (l : List ℕ). l ++ f) fill.joined ∙ sym is;
}

size_is : (frames : List (List ℕ)) → size frames ≡ length (concat frames)
size_is [] = refl
size_is (f ∷ frames) = omega (arith, size_is frames, length-append f (concat frames))

pub fill_size : (frames : List (List ℕ)) (bytes : List ℕ) → Fill frames bytes → size frames ≡ length bytes
fill_size frames bytes fill = size_is frames ∙ ap length fill.joined

-- How far a walk of a file's bytes has come: the frames so far fill these bytes, and behind them it goes on at this gate,
-- after the command of this number.
pub record WalksTo {H S : Type 0} (K : Codec H S) (first end start : ℕ) (image bytes : List ℕ) (gate last : ℕ) : Type 0 where
  pub frames : List (List ℕ)
  pub fill : Fill frames bytes
  pub count : length frames + first ≤ gate
  pub read : (k : ℕ) → walk K (length frames + k) first end start image ≡ with_walk frames (walk K k gate end last image)

module _ {H S : Type 0} (K : Codec H S) (first end start : ℕ) (image : List ℕ) where
  pub walks_none : WalksTo K first end start image [] first start
  walks_none = record { frames = []; fill = fill_none; count = omega arith; read = λ k. ap (λ (j : ℕ). walk K j first end start image) (none k) }
    where
      none : (n : ℕ) → 0 + n ≡ n
      none n = omega arith

  module _ (bytes : List ℕ) (gate last : ℕ) (so_far : WalksTo K first end start image bytes gate last) where
    module _ (n : ℕ) (order : gate < end) (long : end ≤ n) where
      abbrev left : ℕ
      left = n - length so_far.frames

      at_end : walk K (1 + n) first end start image ≡ with_walk so_far.frames (walk K (suc left) gate end last image)
      at_end = ap (λ (k : ℕ). walk K k first end start image) (whole n (length so_far.frames) (omega (arith, so_far.count, order, long))) ∙ so_far.read (suc left)
        where
          whole : (e m : ℕ) → m ≤ e → 1 + e ≡ m + suc (e - m)
          whole e m below = omega arith

      pub gives_shut : get_or image gate 0 ≢ GATE_OPEN → IsWalk bytes last (walk K (1 + n) first end start image)
      gives_shut shut = (so_far.frames, so_far.fill, at_end ∙ ap (λ r. with_walk so_far.frames r) (walk_shut K left gate end last image shut) ∙ walk_ok so_far.frames last)

      pub gives_past : get_or image gate 0 ≡ GATE_OPEN → end ≤ gate + frame_len gate image → walk K (1 + n) first end start image ≡ Err (Damaged gate Frame)
      gives_past opened past = at_end ∙ ap (λ r. with_walk so_far.frames r) (walk_past K left gate end last image opened past) ∙ walk_err so_far.frames (Damaged gate Frame)

      pub gives_fault : {T : Type 0} (P : T → Result (List (List ℕ) × ℕ) Refusal → Type 0) (e : ReadFault) → IsDamage e (λ at. (at ≡ gate) × (get_or image gate 0 ≡ GATE_OPEN) × (end ≤ gate + frame_len gate image)) → Gives P (walk K (1 + n) first end start image) (Err (of_frame e))
      gives_fault P frame.NoMemory damage = tt
      gives_fault P frame.Device damage = tt
      gives_fault P (frame.Damaged at) damage = gives_past damage.1 damage.2 ∙ ap (λ (k : ℕ). Err (Damaged k Frame)) (sym damage.0)

      pub gives_wrong : get_or image gate 0 ≡ GATE_OPEN → gate + frame_len gate image < end → K.after last (take (frame_len gate image) (drop gate image)) ≡ None → walk K (1 + n) first end start image ≡ Err (Damaged gate Frame)
      gives_wrong opened fits wrong =
          at_end ∙ ap (λ r. with_walk so_far.frames r) (walk_open K left gate end last image opened fits
          ∙ ap (λ r. on_some r (Damaged gate Frame) (λ m. on_ok (walk K left (gate + frame_len gate image) end m image) (λ w. Ok (take (frame_len gate image) (drop gate image) ∷ w.0, w.1)))) wrong)
          ∙ walk_err so_far.frames (Damaged gate Frame)

    pub walks_on : (f then : List ℕ) (behind m : ℕ) → behind ≡ gate + length f → then ≡ bytes ++ f → get_or image gate 0 ≡ GATE_OPEN → gate + frame_len gate image < end → f ≡ take (frame_len gate image) (drop gate image) → length f ≡ frame_len gate image → K.after last f ≡ Some m
        → WalksTo K first end start image then behind m
    walks_on f then behind m place is opened fits part long after = record {
      frames = so_far.frames ++ f ∷ [];
      fill = fill_push so_far.frames f bytes then so_far.fill (part_len gate f image part long) is;
      count = omega (arith, so_far.count, place, long, length_push so_far.frames f);
      read = λ k.
          ap (λ (j : ℕ). walk K (j + k) first end start image) (length_push so_far.frames f)
          ∙ ap (λ (j : ℕ). walk K j first end start image) (next (length so_far.frames) k)
          ∙ so_far.read (suc k)
          ∙ ap (λ r. with_walk so_far.frames r) (walk_one K k gate end last image f m opened (sym part) (sym long) (omega (arith, fits, long)) after)
          ∙ sym (walk_push so_far.frames f (walk K k (gate + length f) end m image))
          ∙ ap (λ (j : ℕ). with_walk (so_far.frames ++ f ∷ []) (walk K k j end m image)) (sym place);
    }
      where
        next : (a n : ℕ) → a + 1 + n ≡ a + suc n
        next a n = omega arith

-- A part of a file's bytes, from this place on.
module _ (first : ℕ) (held image : List ℕ) (is : held ≡ take (length held) (drop first image)) where
  pub held_at : (i : ℕ) → i < length held → get_or held i 0 ≡ get_or image (first + i) 0
  held_at i below = ap (λ (l : List ℕ). get_or l i 0) is ∙ get_or-take (length held) (drop first image) i 0 below ∙ get_or-drop first image i 0

  pub held_len : (at : ℕ) → at + 5 ≤ length held → frame_len at held ≡ frame_len (first + at) image
  held_len at inside = omega (arith, number_same (at + 1) (first + at + 1) held image (λ i below. held_at (at + 1 + i) (omega (arith, below, inside)) ∙ ap (λ (k : ℕ). get_or image k 0) (next i)))
    where
      next : (i : ℕ) → first + (at + 1 + i) ≡ first + at + 1 + i
      next i = omega arith

  pub held_part : (at n : ℕ) → at + n ≤ length held → take n (drop at held) ≡ take n (drop (first + at) image)
  held_part at n inside =
      ap (λ (l : List ℕ). take n (drop at l)) (is ∙ ap (λ (k : ℕ). take k (drop first image)) split)
      ∙ ap (λ (l : List ℕ). take n l) (drop-take at (length held - at) (drop first image))
      ∙ take-take n (length held - at) (drop at (drop first image)) (omega (arith, inside))
      ∙ ap (λ (l : List ℕ). take n l) (drop-drop at first image)
    where
      split : length held ≡ at + (length held - at)
      split = omega (arith, inside)

  held_head : (at : ℕ) → at + frame_len at held ≤ length held → take (frame_len at held) (drop at held) ≡ take (frame_len (first + at) image) (drop (first + at) image)
  held_head at inside = held_part at (frame_len at held) inside ∙ ap (λ (k : ℕ). take k (drop (first + at) image)) (held_len at (omega (arith, inside)))

  held_past : (at : ℕ) → length held ≤ at + frame_len at held → first + length held ≤ first + at + frame_len (first + at) image
  held_past at past = elim (cases_lt (length held) (at + 15)) [
    | inl short ↦ omega (arith, short)
    | inr long ↦ omega (arith, past, held_len at (omega (arith, long)))
  ]

  -- a walk in them has come to this place
  module _ {H S : Type 0} (K : Codec H S) (start at last : ℕ) (so_far : WalksTo K first (first + length held) start image (take at held) (first + at) last) (order : at < length held) where
    pub held_shut : get_or held at 0 ≢ GATE_OPEN → (n : ℕ) → first + length held ≤ n → IsWalk (take at held) last (walk K (1 + n) first (first + length held) start image)
    held_shut shut n long = gives_shut K first (first + length held) start image (take at held) (first + at) last so_far n (omega (arith, order)) long (λ opened. shut (held_at at order ∙ opened))

    pub held_wrong : get_or held at 0 ≡ GATE_OPEN → (length held ≤ at + frame_len at held) ⊎ ((at + frame_len at held < length held) × (K.after last (take (frame_len at held) (drop at held)) ≡ None)) → (n : ℕ) → first + length held ≤ n
        → walk K (1 + n) first (first + length held) start image ≡ Err (Damaged (first + at) Frame)
    held_wrong opened wrong n long = elim wrong [
      | inl past ↦ gives_past K first (first + length held) start image (take at held) (first + at) last so_far n (omega (arith, order)) long (sym (held_at at order) ∙ opened) (held_past at past)
      | inr fits ↦ gives_wrong K first (first + length held) start image (take at held) (first + at) last so_far n (omega (arith, order)) long (sym (held_at at order) ∙ opened)
          (omega (arith, fits.0, held_len at (omega (arith, fits.0)))) (ap (λ (l : List ℕ). K.after last l) (sym (held_head at (omega (arith, fits.0)))) ∙ fits.1)
    ]

    pub held_on : (len m : ℕ) → get_or held at 0 ≡ GATE_OPEN → len ≡ frame_len at held → at + len < length held → K.after last (take len (drop at held)) ≡ Some m
        → WalksTo K first (first + length held) start image (take (at + len) held) (first + (at + len)) m
    held_on len m opened is inside after =
        let long : length (take len (drop at held)) ≡ len = omega (arith, length-take len (drop at held), length-drop at held, inside) in
        let same = held_len at (omega (arith, is, inside)) in
        walks_on K first (first + length held) start image (take at held) (first + at) last so_far (take len (drop at held)) (take (at + len) held) (first + (at + len)) m
        (omega (arith, long)) (take-add at len held) (sym (held_at at order) ∙ opened) (omega (arith, is, same, inside))
        (ap (λ (k : ℕ). take k (drop at held)) is ∙ held_head at (omega (arith, is, inside))) (long ∙ is ∙ same) after
