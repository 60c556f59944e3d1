-- A loop over the bytes of frames, which takes their records over.
use Rattle.std.proofs.Common.{◌≡◌, ℕ, ◌+◌, ◌<◌, ◌≤◌, List, [], ◌∷◌, length, get_or, take, drop, refl, sym, ◌∙◌, ap, subst, arith, length-append, length-drop, Some, None, Ok, Err}
use Rattle.std.specs.List.{concat}
use Rattle.std.proofs.lemmas.List.{get_or-drop, get_or_append_left, drop-drop, drop_all}
use Rattle.std.proofs.lemmas.List.Elements.{All-head, All-tail}
use Rattle.std.proofs.Math.Seq.{drop-append_seam, take-append_seam}
use Rattle.pfx_segment.specs.Frames.{frame_len}
use Rattle.pfx_store_image.specs.Codec.{Codec}
use Rattle.pfx_store_image.specs.Recovery.{replay, on_some}
use Rattle.pfx_store_image.specs.Refusals.{Damaged, Record}
use Rattle.pfx_store_recover.specs.Walking.{Fill}
use Rattle.pfx_store_recover.proofs.Walking.{number_same}

-- the first of the frames that fill the bytes from this place on, and those behind it
record First (bytes : List ℕ) (at : ℕ) (rest : List (List ℕ)) : Type 0 where
  frame : List ℕ
  behind : List (List ℕ)
  is : rest ≡ frame ∷ behind
  long : length frame ≡ frame_len at bytes
  inside : at + frame_len at bytes ≤ length bytes
  part : take (frame_len at bytes) (drop at bytes) ≡ frame
  fill : Fill behind (drop (at + length frame) bytes)

first_of : (bytes : List ℕ) (at : ℕ) (rest : List (List ℕ)) → at < length bytes → Fill rest (drop at bytes) → First bytes at rest
first_of bytes at [] below fill = absurd (omega (arith, ap length fill.joined, length-drop at bytes, below))
first_of bytes at (f ∷ behind) below fill =
    let whole = All-head (λ (l : List ℕ). length l ≡ frame_len 0 l) f behind fill.whole in
    let long : length f ≡ frame_len at bytes = omega (arith, whole, number_same 1 (at + 1) f bytes (each whole)) in
    record {
      frame = f;
      behind = behind;
      is = refl;
      long = long;
      inside = omega (arith, long, below, ap length fill.joined, length-drop at bytes, length-append f (concat behind));
      part = ap (λ (k : ℕ). take k (drop at bytes)) (sym long) ∙ ap (λ (l : List ℕ). take (length f) l) (sym fill.joined) ∙ take-append_seam f (concat behind);
      fill = record {
        whole = All-tail (λ (l : List ℕ). length l ≡ frame_len 0 l) f behind fill.whole;
        joined = sym (drop-append_seam f (concat behind)) ∙ ap (λ (l : List ℕ). drop (length f) l) fill.joined ∙ drop-drop (length f) at bytes;
      };
    }
  where
    next : (i : ℕ) → at + (1 + i) ≡ at + 1 + i
    next i = omega arith

    each : length f ≡ frame_len 0 f → (i : ℕ) → i < 4 → get_or f (1 + i) 0 ≡ get_or bytes (at + 1 + i) 0
    each whole i few =
        sym (get_or_append_left f (concat behind) 0 (1 + i) (omega (arith, whole, few)))
        ∙ ap (λ (l : List ℕ). get_or l (1 + i) 0) fill.joined
        ∙ get_or-drop at bytes (1 + i) 0
        ∙ ap (λ (k : ℕ). get_or bytes k 0) (next i)

module _ {H S : Type 0} (K : Codec H S) (gate : ℕ) (start : S) (frames : List (List ℕ)) (bytes : List ℕ) where
  -- these are what is left of the frames from this place on
  abbrev pub RunsTo : ℕ → S → Type 0
  RunsTo at s = (rest : List (List ℕ)) × Fill rest (drop at bytes) × (replay K gate start frames ≡ replay K (gate + at) s rest)

  module _ (at : ℕ) (s : S) (so_far : RunsTo at s) where
    pub replay_end : length bytes ≤ at → replay K gate start frames ≡ Ok s
    replay_end past = so_far.2 ∙ ends so_far.0 (subst (λ (l : List ℕ). Fill so_far.0 l) (drop_all at bytes past) so_far.1)
      where
        ends : (rest : List (List ℕ)) → Fill rest [] → replay K (gate + at) s rest ≡ Ok s
        ends [] fill = refl
        ends (f ∷ rest) fill = absurd (omega (arith, ap length fill.joined, length-append f (concat rest), All-head (λ (l : List ℕ). length l ≡ frame_len 0 l) f rest fill.whole))

    module _ (below : at < length bytes) (len : ℕ) (whole : at + frame_len at bytes ≤ length bytes → len ≡ frame_len at bytes) where
      pub replay_wrong : K.apply s (take len (drop at bytes)) ≡ None → replay K gate start frames ≡ Err (Damaged (gate + at) Record)
      replay_wrong wrong =
          let one = first_of bytes at so_far.0 below so_far.1 in
          so_far.2 ∙ ap (λ r. replay K (gate + at) s r) one.is
          ∙ ap (λ r. on_some r (Damaged (gate + at) Record) (λ t. replay K (gate + at + length one.frame) t one.behind))
          (ap (λ (l : List ℕ). K.apply s l) (sym (ap (λ (k : ℕ). take k (drop at bytes)) (whole one.inside) ∙ one.part)) ∙ wrong)

      pub replay_on : (t : S) → K.apply s (take len (drop at bytes)) ≡ Some t → RunsTo (at + len) t
      replay_on t applied =
          let one = first_of bytes at so_far.0 below so_far.1 in
          let long : len ≡ length one.frame = whole one.inside ∙ sym one.long in (
            one.behind,
            subst (λ (k : ℕ). Fill one.behind (drop (at + k) bytes)) (sym long) one.fill,
            so_far.2 ∙ ap (λ r. replay K (gate + at) s r) one.is
                ∙ ap (λ r. on_some r (Damaged (gate + at) Record) (λ t. replay K (gate + at + length one.frame) t one.behind))
                (ap (λ (l : List ℕ). K.apply s l) (sym (ap (λ (k : ℕ). take k (drop at bytes)) (whole one.inside) ∙ one.part)) ∙ applied)
                ∙ ap (λ (k : ℕ). replay K k t one.behind) (omega (arith, long)),
          )
