-- Runs of frames: what their records do to a state and their heads to a number.
use Rattle.std.proofs.Common.{◌≡◌, ◌≢◌, ⊎_elim, ℕ, ◌≤◌, ◌<◌, List, [], ◌∷◌, ◌++◌, length, refl, sym, ◌∙◌, ap, subst, arith, Bool, true, false, not, Some, ◌==◌}
use Rattle.std.proofs.lemmas.Bool.Decides.{eqb_tells}
use Rattle.std.proofs.lemmas.Bool.{false≢true}
use Rattle.pfx_store_image.specs.Codec.{Codec, Laws}
use Rattle.pfx_store_image.specs.Store.{Replays, Numbers}

pub same_true : (a b : ℕ) → a ≡ b → (a == b) ≡ true
same_true a b is = ⊎_elim (λ h. h.0) (λ h. absurd (h.1 is)) (eqb_tells a b)

pub other_false : (a b : ℕ) → a ≢ b → (a == b) ≡ false
other_false a b is = ⊎_elim (λ h. absurd (is h.1)) (λ h. h.0) (eqb_tells a b)

pub apart : (a b : ℕ) → (a == b) ≡ false → a ≢ b
apart a b is same = false≢true (sym is ∙ same_true a b same)

pub not_not : (b : Bool) → not (not b) ≡ b
not_not false = refl
not_not true = refl

module _ {H S : Type 0} (K : Codec H S) (laws : Laws K) where
  pub numbers_of : (s : S) (frames : List (List ℕ)) (t : S) → Replays K s frames t → Numbers K (K.number s) frames (K.number t)
  numbers_of s [] t is = ap K.number is
  numbers_of s (frame ∷ frames) t is = (K.number is.0, laws.after s frame is.0 is.1, numbers_of is.0 frames t is.2)

  pub numbers_rise : (n : ℕ) (frames : List (List ℕ)) (m : ℕ) → Numbers K n frames m → n ≤ m
  numbers_rise n [] m is = omega (arith, is)
  numbers_rise n (frame ∷ frames) m is = omega (arith, laws.later n frame is.0 is.1, numbers_rise is.0 frames m is.2)

  pub replays_one : (s : S) (frames : List (List ℕ)) (t : S) (frame : List ℕ) (u : S) → Replays K s frames t → K.apply t frame ≡ Some u → Replays K s (frames ++ frame ∷ []) u
  replays_one s [] t frame u is step = (u, subst (λ v. K.apply v frame ≡ Some u) (sym is) step, refl)
  replays_one s (first ∷ frames) t frame u is step = (is.0, is.1, replays_one is.0 frames t frame u is.2 step)

  -- frames that aren't none raise the number
  pub replays_rise : (s : S) (frames : List (List ℕ)) (t : S) → 0 < length frames → Replays K s frames t → K.number s < K.number t
  replays_rise s [] t some is = absurd (omega (arith, some))
  replays_rise s (frame ∷ frames) t some is =
      omega (arith, laws.later (K.number s) frame (K.number is.0) (laws.after s frame is.0 is.1), numbers_rise (K.number is.0) frames (K.number t) (numbers_of is.0 frames t is.2))
