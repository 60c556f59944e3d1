-- Steps of writers, torn.
use Rattle.std.proofs.Common.{◌≡◌, ◌≢◌, ◌⊎◌, inl, inr, ⊎_elim, ℕ, ◌+◌, ◌≤◌, ◌<◌, List, [], ◌∷◌, ◌++◌, length, get_or, take, drop, sym, ◌∙◌, ap, arith, length-append, length-take}
use Rattle.std.proofs.lemmas.List.{ext_get_or}
use Rattle.std.proofs.lemmas.Bool.{cases_eq, cases_lt}
use Rattle.pfx_disk.specs.declared.gates.TheConstants.{GATE_OPEN}
use Rattle.pfx_disk.specs.Disk.{Torn, Written}
use Rattle.pfx_disk.specs.Stop.{put}
use Rattle.pfx_disk.proofs.Left.{put_inside, put_torn}
use Rattle.pfx_disk.proofs.Steps.{torn_then, torn_wider, written_stands}
use Rattle.pfx_segment.specs.Segment.{Appended, StandAt}

module _ (gate : ℕ) (bytes : List ℕ) where
  -- what is torn behind the gate leaves the gate
  pub behind : (x y : List ℕ) → Torn (gate + 1) (length bytes) x y → Appended gate bytes x y
  behind x y torn = record {
    torn = torn_wider (gate + 1) (length bytes) gate (1 + length bytes) x y (omega arith) (omega arith) torn;
    gate_last = λ inside. inl (torn.elsewhere gate inside (inl (omega arith)));
  }

  -- what is torn at the gate leaves the bytes
  pub opened : (x z : List ℕ) → gate + 1 ≤ length x → Torn gate 1 (put (gate + 1) bytes x) z → Appended gate bytes x z
  opened x z inside last = record {
    torn = torn_then gate (1 + length bytes) x y z
        (torn_wider (gate + 1) (length bytes) gate (1 + length bytes) x y (omega arith) (omega arith) (put_torn (gate + 1) bytes x))
        (torn_wider gate 1 gate (1 + length bytes) y z (omega arith) (omega arith) last);
    gate_last = λ _. inr (λ i below. last.elsewhere (gate + 1 + i) (omega (arith, long, below)) (inr (omega arith)) ∙ written_stands (gate + 1) bytes x y inside written i below);
  }
    where
      y : List ℕ
      y = put (gate + 1) bytes x

      written : Written (gate + 1) bytes x y
      written = put_inside (gate + 1) bytes x inside

      long : gate + 1 + length bytes ≤ length y
      long = omega (arith, ap length written, length-append (take (gate + 1) x ++ bytes) (drop (gate + 1 + length bytes) x), length-append (take (gate + 1) x) bytes, length-take (gate + 1) x)

  -- bytes that stand behind a gate stand there when the gate is torn
  pub opens : (x z : List ℕ) → gate + length bytes < length x → StandAt (gate + 1) bytes x → Torn gate 1 x z → Appended gate bytes x z
  opens x z inside stand last = record {
    torn = torn_wider gate 1 gate (1 + length bytes) x z (omega arith) (omega arith) last;
    gate_last = λ _. inr (λ i below. last.elsewhere (gate + 1 + i) (omega (arith, below, inside)) (inr (omega arith)) ∙ stand i below);
  }

-- a byte put at a gate
pub put_gate : (gate b : ℕ) (x : List ℕ) → gate < length x → get_or (put gate (b ∷ []) x) gate 0 ≡ b
put_gate gate b x inside = ap (λ k. get_or (put gate (b ∷ []) x) k 0) (none gate) ∙ written_stands gate (b ∷ []) x (put gate (b ∷ []) x) (omega (arith, inside)) (put_inside gate (b ∷ []) x (omega (arith, inside))) 0 (omega arith)
  where
    none : (g : ℕ) → g ≡ g + 0
    none g = omega arith

-- a gate that was open and is open is the image of before
pub same_again : (gate : ℕ) (x y : List ℕ) → gate < length x → get_or x gate 0 ≡ GATE_OPEN → get_or y gate 0 ≡ GATE_OPEN → Torn gate 1 x y → y ≡ x
same_again gate x y inside before after torn =
    ext_get_or 0 y x long (λ i below. ⊎_elim (λ here. ap (λ (k : ℕ). get_or y k 0) here ∙ after ∙ sym before ∙ ap (λ (k : ℕ). get_or x k 0) (sym here)) (λ other. torn.elsewhere i (omega (arith, below, long)) (aside i other)) (cases_eq i gate))
  where
    long : length y ≡ length x
    long = omega (arith, torn.no_shorter, torn.no_longer, inside)

    aside : (i : ℕ) → i ≢ gate → (i < gate) ⊎ (gate + 1 ≤ i)
    aside i other = elim (cases_lt i gate) [ inl below ↦ inl below | inr above ↦ inr (omega (arith, above, other)) ]
