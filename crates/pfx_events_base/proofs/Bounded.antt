-- Recovery that takes no checkpoint above a number: for it one is damaged. It meets the laws of recovery, and what holds of its files by them
-- holds of the files whose checkpoint is at most that number.
use Rattle.std.proofs.Common.{◌≡◌, inl, inr, ℕ, ◌+◌, ◌≤◌, List, [], ◌∷◌, refl, sym, ◌∙◌, subst, arith, Bool, true, false, not, Option, Some, None}
use Rattle.std.specs.Prelude.{nat_lt, if◌then◌else◌}
use Rattle.std.proofs.lemmas.Bool.{cases_lt, lt-ltb, le-ltb}
use Rattle.std.proofs.lemmas.Option.{none-some, same_Some}
use Rattle.pfx_events_acts.specs.Files.{IsFile, IsWhole}
use Rattle.pfx_events_base.specs.Bases.{IsBased, Spells, turn_number}
use Rattle.pfx_store_image.specs.Codec.{Codec, Laws}
use Rattle.pfx_store_image.specs.Layout.{segment_at}
use Rattle.pfx_store_image.specs.Recovery.{found_of}
use Rattle.pfx_store_image.specs.Store.{Parts, Replays, InSegment, Other, IsStore}
use Rattle.pfx_store_image.proofs.Recovers.{finds}
use Rattle.pfx_store_file.specs.Files.{File}
use Rattle.pfx_store_file.specs.Holding.{IsStart}

module _ {S : Type 0} (number : S → ℕ) (most : ℕ) where
  -- a state whose number isn't above that
  abbrev bounded : Option S → Option S
  bounded None = None
  bounded (Some s) = if nat_lt most (number s) then None else Some s

  bounded_is : (o : Option S) (s : S) → bounded o ≡ Some s → (o ≡ Some s) × (number s ≤ most)
  bounded_is None s is = absurd (none-some s is)
  bounded_is (Some t) s is = elim (cases_lt most (number t)) [
    | inl above ↦ absurd (none-some s (sym (subst (λ b. (if b then None else Some t) ≡ None) (sym (lt-ltb most (number t) above)) refl) ∙ is))
    | inr low ↦
        let same : Some t ≡ Some s = sym (subst (λ b. (if b then None else Some t) ≡ Some t) (sym (le-ltb most (number t) low)) refl) ∙ is in
        (same, subst (λ u. number u ≤ most) (same_Some t s same) low)
  ]

  bounded_some : (o : Option S) (s : S) → number s ≤ most → o ≡ Some s → bounded o ≡ Some s
  bounded_some o s low is = subst (λ (o : Option S). bounded o ≡ Some s) (sym is) (subst (λ b. (if b then None else Some s) ≡ Some s) (sym (le-ltb most (number s) low)) refl)

module _ {H S : Type 0} (K : Codec H S) (most : ℕ) where
  abbrev pub up_to : Codec H S
  up_to = record K { read_state = λ h body. bounded K.number most (K.read_state h body) }

  pub up_to_laws : Laws K → Laws up_to
  up_to_laws laws = record {
    head_whole = laws.head_whole;
    head_alone = laws.head_alone;
    head_refused = laws.head_refused;
    area_number = λ h bytes s is. laws.area_number h bytes s (bounded_is K.number most (K.read_state h bytes) s is).0;
    later = laws.later;
    after = laws.after;
  }

  replays_up : (s : S) (frames : List (List ℕ)) (t : S) → Replays K s frames t → Replays up_to s frames t
  replays_up s [] t is = is
  replays_up s (frame ∷ frames) t is = (is.0, is.1, replays_up is.0 frames t is.2)

  replays_down : (s : S) (frames : List (List ℕ)) (t : S) → Replays up_to s frames t → Replays K s frames t
  replays_down s [] t is = is
  replays_down s (frame ∷ frames) t is = (is.0, is.1, replays_down is.0 frames t is.2)

  module _ (h : H) (image : List ℕ) where
    segment_up : (first : ℕ) (frames : List (List ℕ)) (at : ℕ) → InSegment K h first frames at image → InSegment up_to h first frames at image
    segment_up first frames at is = record { gate = is.gate; number = is.number; are = is.are }

    segment_down : (first : ℕ) (frames : List (List ℕ)) (at : ℕ) → InSegment up_to h first frames at image → InSegment K h first frames at image
    segment_down first frames at is = record { gate = is.gate; number = is.number; are = is.are }

    other_up : (turned : Bool) (p : Parts S) (s : S) → Other K h turned p s image → Other up_to h turned p s image
    other_up false p s is = is
    other_up true p s is = (segment_up (K.number p.base + 1) p.before (segment_at (K.layout h) (not p.segment)) is.0, replays_up p.base p.before p.middle is.1, is.2)

    other_down : (turned : Bool) (p : Parts S) (s : S) → Other up_to h turned p s image → Other K h turned p s image
    other_down false p s is = is
    other_down true p s is = (segment_down (K.number p.base + 1) p.before (segment_at (K.layout h) (not p.segment)) is.0, replays_down p.base p.before p.middle is.1, is.2)

    pub store_up : (p : Parts S) (s : S) → K.number p.base ≤ most → IsStore K h p s image → IsStore up_to h p s image
    store_up p s low is = record {
      head = is.head;
      long = is.long;
      area = record { gate = is.area.gate; body = bounded_some K.number most _ p.base low is.area.body };
      lower = is.lower;
      current = segment_up (K.number p.middle + 1) p.frames (segment_at (K.layout h) p.segment) is.current;
      other = other_up p.turned p s is.other;
      state = replays_up p.middle p.frames s is.state;
    }

    pub store_down : (p : Parts S) (s : S) → IsStore up_to h p s image → IsStore K h p s image
    store_down p s is = record {
      head = is.head;
      long = is.long;
      area = record { gate = is.area.gate; body = (bounded_is K.number most _ p.base is.area.body).0 };
      lower = is.lower;
      current = segment_down (K.number p.middle + 1) p.frames (segment_at (K.layout h) p.segment) is.current;
      other = other_down p.turned p s is.other;
      state = replays_down p.middle p.frames s is.state;
    }

    -- a file of a bounded checkpoint is recovered from it
    pub based : Laws K → (p : Parts S) (s : S) → IsStore up_to h p s image → IsBased K most image
    based laws p s is = record {
      file = found_of h p s;
      found = finds K laws h image p s (store_down p s is);
      low = (bounded_is K.number most _ p.base is.area.body).1;
    }

  module _ (f : File H S) (s : S) (image : List ℕ) where
    pub file_up : K.number f.parts.base ≤ most → IsFile K s f image → IsFile up_to s f image
    file_up low is = record {
      store = store_up f.head image f.parts s low is.store;
      area_gate = is.area_gate;
      segment_gate = is.segment_gate;
      begun = is.begun;
    }

    pub file_down : IsFile up_to s f image → IsFile K s f image
    file_down is = record {
      store = store_down f.head image f.parts s is.store;
      area_gate = is.area_gate;
      segment_gate = is.segment_gate;
      begun = is.begun;
    }

  module _ (spelling : List ℕ) (f : File H S) (s : S) (image : List ℕ) where
    pub whole_up : K.number f.parts.base ≤ most → IsWhole K spelling s f image → IsWhole up_to spelling s f image
    whole_up low is = record { file = file_up f s image low is.file; stand = is.stand }

    pub whole_down : IsWhole up_to spelling s f image → IsWhole K spelling s f image
    whole_down is = record { file = file_down f s image is.file; stand = is.stand }

  pub spells_up : (f : File H S) (spelling : List ℕ) → turn_number K f ≤ most → Spells K f spelling → Spells up_to f spelling
  spells_up f spelling low spells turned = (bounded_some K.number most _ f.parts.middle low (spells turned).0, (spells turned).1)

  pub start_up : (first : ℕ) (bytes : List ℕ) → IsStart K first bytes → IsStart up_to first bytes
  start_up first bytes is = record { long = is.long; number = is.number; closed = is.closed }

-- a checkpoint in use is of the last turn or of one before it
module _ {H S : Type 0} (K : Codec H S) (h : H) (image : List ℕ) where
  base_by : (turned : Bool) (p : Parts S) (s : S) → Other K h turned p s image → K.number p.base ≤ K.number p.middle
  base_by false p s is = subst (λ m. K.number p.base ≤ K.number m) is.1 (omega arith)
  base_by true p s is = let less = is.2 in omega (arith, less)

  pub base_low : (p : Parts S) (s : S) → IsStore K h p s image → K.number p.base ≤ K.number p.middle
  base_low p s is = base_by p.turned p s is.other

-- so each image of a file is recovered from one
pub file_based : {H S : Type 0} (K : Codec H S) → Laws K → (f : File H S) (s : S) (image : List ℕ) → IsFile K s f image → IsBased K (turn_number K f) image
file_based K laws f s image is = based K (turn_number K f) f.head image laws f.parts s (store_up K (turn_number K f) f.head image f.parts s (base_low K f.head image f.parts s is.store) is.store)
