-- Frames that are gathered on the way over a segment.
use Rattle.std.proofs.Common.{◌≡◌, ◌≢◌, ℕ, ◌+◌, ◌≤◌, ◌<◌, List, [], ◌∷◌, ◌++◌, length, get_or, take, drop, refl, sym, ◌∙◌, ap, subst, arith, Bool, true, false, Some, None, Result, Ok, Err}
use Rattle.std.specs.Prelude.{IsErrAnd, MatchResult, if◌then◌else◌, nat_lt}
use Rattle.pfx_disk.specs.Disk.{View, IsHonest}
use Rattle.pfx_disk.specs.declared.gates.TheConstants.{GATE_OPEN}
use Rattle.pfx_store_recover.specs.Answers.{IsRefusal, of_frame}
use Rattle.pfx_store_recover.specs.Looking.{Looks}
use Rattle.pfx_store_recover.specs.declared.faults.OpenFault.{OpenFault}
use Rattle.pfx_store_image.specs.Codec.{Codec}
use Rattle.pfx_segment.specs.Frames.{AreFrames, IsFrame, frame_len}
use Rattle.pfx_segment.specs.Reading.{IsDamage}
use Rattle.pfx_segment.specs.Segment.{StandAt}
use Rattle.pfx_segment.specs.declared.fault.ReadFault.{ReadFault}
use Rattle.pfx_segment.specs.declared.fault.ReadFault.TheVariants.{Damaged, Device, NoMemory}
use Rattle.pfx_segment.proofs.FrameLemmas.{number_is, part_is}
use Rattle.std.proofs.lemmas.Option.{none-some, same_Some}
use Rattle.pfx_log_store.specs.Joining.{Gathering, Gathers, gathered_more}

-- a frame that stands at a gate is read there
module _ (gate end : ℕ) (f x : List ℕ) (stand : StandAt gate f x) (is : IsFrame f) where
  opened : get_or x gate 0 ≡ GATE_OPEN
  opened = ap (λ i. get_or x i 0) (same gate) ∙ stand 0 (let whole = is.whole in omega (arith, whole)) ∙ is.gate
    where
      same : (i : ℕ) → i ≡ i + 0
      same i = omega arith

  same_len : frame_len gate x ≡ length f
  same_len = let whole = is.whole in omega (arith, number_is gate f x (omega (arith, whole)) stand, whole)

  is_read : gate + length f < end → end ≤ length x → take (frame_len gate x) (drop gate x) ≡ f
  is_read fits inside = ap (λ n. take n (drop gate x)) same_len ∙ part_is gate f x (omega (arith, fits, inside)) stand

module _ {H S : Type 0} (K : Codec H S) (last end : ℕ) (x : List ℕ) (next : Gathering) where
  -- from this gate on the frames are still to be gathered
  abbrev pub Remains : ℕ → Gathering → Type 0
  Remains gate g = (rest : List (List ℕ)) × AreFrames gate end rest x × Gathers K last g rest next

  -- behind a closed gate there are none
  none_left : (gate : ℕ) (g : Gathering) (rest : List (List ℕ)) → AreFrames gate end rest x → Gathers K last g rest next → get_or x gate 0 ≢ GATE_OPEN → g ≡ next
  none_left gate g [] are is shut = is
  none_left gate g (f ∷ rest) are is shut = absurd (shut (opened gate end f x are.0 are.1))

  pub gathered_all : (gate : ℕ) (g : Gathering) → Remains gate g → get_or x gate 0 ≢ GATE_OPEN → g ≡ next
  gathered_all gate g remains shut = none_left gate g remains.0 remains.1 remains.2 shut

  -- behind an open one is one that fits
  misfit : (gate : ℕ) (rest : List (List ℕ)) → AreFrames gate end rest x → get_or x gate 0 ≡ GATE_OPEN → ¬ (end ≤ gate + frame_len gate x)
  misfit gate [] are opens past = are opens
  misfit gate (f ∷ rest) are opens past = absurd (let fits = are.2 in omega (arith, past, fits, same_len gate end f x are.0 are.1))

  pub frame_fits : (gate : ℕ) (g : Gathering) → Remains gate g → get_or x gate 0 ≡ GATE_OPEN → ¬ (end ≤ gate + frame_len gate x)
  frame_fits gate g remains opens past = misfit gate remains.0 remains.1 opens past

  -- and whose number goes on
  module _ (inside : end ≤ length x) (gate : ℕ) (g : Gathering) (frame : List ℕ) (opens : get_or x gate 0 ≡ GATE_OPEN) (read : frame ≡ take (frame_len gate x) (drop gate x)) where
    abbrev GoesOn : Type 0
    GoesOn = (k : ℕ) × (K.after g.number frame ≡ Some k) × Remains (gate + length frame) (gathered_more last k frame g)

    goes : (rest : List (List ℕ)) → AreFrames gate end rest x → Gathers K last g rest next → GoesOn
    goes [] are is = absurd (are opens)
    goes (f ∷ rest) are is = subst (λ l. (k : ℕ) × (K.after g.number l ≡ Some k) × Remains (gate + length l) (gathered_more last k l g))
        (sym (read ∙ is_read gate end f x are.0 are.1 are.2 inside)) (is.0, is.1, (rest, are.3, is.2))

    pub goes_on : Remains gate g → (k : ℕ) × (K.after g.number frame ≡ Some k) × Remains (gate + length frame) (gathered_more last k frame g)
    goes_on remains = goes remains.0 remains.1 remains.2

    pub goes_to : (k : ℕ) → Remains gate g → K.after g.number frame ≡ Some k → Remains (gate + length frame) (gathered_more last k frame g)
    goes_to k remains after =
        let on = goes_on remains in
        subst (λ m. Remains (gate + length frame) (gathered_more last m frame g)) (same_Some on.0 k (sym on.1 ∙ after)) on.2

    pub has_number : Remains gate g → ¬ (K.after g.number frame ≡ None)
    has_number remains none = let on = goes_on remains in none-some on.0 (sym none ∙ on.1)

-- the last number is the frame's
either : {A : Type 0} (f : A → ℕ) (n : ℕ) (b : Bool) (x y : A) → f x ≡ n → f y ≡ n → f (if b then x else y) ≡ n
either f n true x y one other = one
either f n false x y one other = other

pub number_more : (last next : ℕ) (frame : List ℕ) (g : Gathering) → (gathered_more last next frame g).number ≡ next
number_more last next frame g = either (λ (h : Gathering). h.number) next (nat_lt g.begin last) (record { bytes = g.bytes; begin = next; number = next }) (record { bytes = g.bytes ++ frame; begin = g.begin; number = next }) refl refl

-- what was handed on is no refusal, if the fault is none
pub handed : {T : Type 0} (P : T → Type 0) (result : Result T OpenFault) (e : OpenFault) → IsErrAnd result (λ x. x ≡ e) → IsRefusal e (λ refusal. ⊥) → MatchResult result P (λ e. IsRefusal e (λ refusal. ⊥))
handed P (Ok t) e is none = absurd is
handed P (Err x) e is none = subst (λ f. IsRefusal f (λ refusal. ⊥)) (sym is) none

pub undamaged : (fault : ReadFault) (P : ℕ → Type 0) → IsDamage fault P → ((at : ℕ) → ¬ P at) → IsRefusal (of_frame fault) (λ refusal. ⊥)
undamaged NoMemory P is none = tt
undamaged Device P is none = tt
undamaged (Damaged at) P is none = none at is

-- calls that only read leave an honest disk so, and its bytes
pub same_bytes : (a b : View) → Looks a b → IsHonest a → IsHonest b × (b.contents ≡ a.contents)
same_bytes a b looks honest = let left = looks.leaves honest in (left.honest, left.contents)
