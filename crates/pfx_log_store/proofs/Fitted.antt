-- A codec that takes such frames alone as may stand in a file. It meets the laws, and what holds of its files by them holds of the files whose
-- frames all may.
use Rattle.std.proofs.Common.{◌≡◌, ℕ, ◌≤◌, List, [], ◌∷◌, ◌++◌, refl, sym, ◌∙◌, ap, subst, Bool, true, false, Option, Some, None}
use Rattle.std.specs.Prelude.{if◌then◌else◌, ⊤, Ok}
use Rattle.std.proofs.lemmas.Option.{none-some, same_Some}
use Rattle.pfx_events_acts.specs.Files.{IsFile}
use Rattle.pfx_events_base.specs.Bases.{IsBased, IsOn}
use Rattle.pfx_disk.specs.Disk.{View}
use Rattle.pfx_store_image.specs.Codec.{Codec, Laws}
use Rattle.pfx_store_image.specs.Recovery.{found, found_of}
use Rattle.pfx_store_image.specs.Store.{IsStore, Numbers, Other, Parts, Replays}
use Rattle.pfx_store_image.proofs.Recovers.{finds}
use Rattle.pfx_store_image.proofs.Runs.{numbers_of}
use Rattle.pfx_store_image.proofs.Stands.{found_stands}
use Rattle.pfx_store_file.specs.Files.{File}
use Rattle.pfx_log_store.specs.Behind.{all_frames}

-- frames behind a number, each of which may stand there
module _ (after : ℕ → List ℕ → Option ℕ) (may : ℕ → List ℕ → Bool) where
  abbrev pub AllMay : ℕ → List (List ℕ) → Type 0
  AllMay n [] = ⊤
  AllMay n (frame ∷ frames) = (may n frame ≡ true) × ((k : ℕ) → after n frame ≡ Some k → AllMay k frames)

only_if : {A : Type 0} (b : Bool) (o : Option A) (a : A) → (if b then o else None) ≡ Some a → (b ≡ true) × (o ≡ Some a)
only_if true o a is = (refl, is)
only_if false o a is = absurd (none-some a is)

module _ {H S : Type 0} (K : Codec H S) (laws : Laws K) (may : ℕ → List ℕ → Bool) where
  abbrev pub fitted : Codec H S
  fitted = record K { apply = λ s frame. if may (K.number s) frame then K.apply s frame else None }

  pub fitted_laws : Laws fitted
  fitted_laws = record {
    head_whole = laws.head_whole;
    head_alone = laws.head_alone;
    head_refused = laws.head_refused;
    area_number = laws.area_number;
    later = laws.later;
    after = λ s frame t is. laws.after s frame t (only_if (may (K.number s) frame) (K.apply s frame) t is).1;
  }

  pub apply_up : (s : S) (frame : List ℕ) (t : S) → may (K.number s) frame ≡ true → K.apply s frame ≡ Some t → fitted.apply s frame ≡ Some t
  apply_up s frame t fits is = ap (λ b. if b then K.apply s frame else None) fits ∙ is

  replays_up : (s : S) (frames : List (List ℕ)) (t : S) → AllMay K.after may (K.number s) frames → Replays K s frames t → Replays fitted s frames t
  replays_up s [] t fit is = is
  replays_up s (frame ∷ frames) t fit is = (is.0, apply_up s frame is.0 fit.0 is.1, replays_up is.0 frames t (fit.1 (K.number is.0) (laws.after s frame is.0 is.1)) is.2)

  replays_down : (s : S) (frames : List (List ℕ)) (t : S) → Replays fitted s frames t → Replays K s frames t × AllMay K.after may (K.number s) frames
  replays_down s [] t is = (is, tt)
  replays_down s (frame ∷ frames) t is =
      let step = only_if (may (K.number s) frame) (K.apply s frame) is.0 is.1 in
      let on = replays_down is.0 frames t is.2 in
      ((is.0, step.1, on.0), (step.0, λ k next. subst (λ m. AllMay K.after may m frames) (same_Some (K.number is.0) k (sym (laws.after s frame is.0 step.1) ∙ next)) on.1))

  pub may_joined : (n : ℕ) (xs : List (List ℕ)) (m : ℕ) (ys : List (List ℕ)) → Numbers K n xs m → AllMay K.after may n xs → AllMay K.after may m ys → AllMay K.after may n (xs ++ ys)
  may_joined n [] m ys is one other = subst (λ k. AllMay K.after may k ys) (sym is) other
  may_joined n (x ∷ xs) m ys is one other = (one.0, λ k next. may_joined k xs m ys (subst (λ l. Numbers K l xs m) (same_Some is.0 k (sym is.1 ∙ next)) is.2) (one.1 k next) other)

  may_split : (n : ℕ) (xs : List (List ℕ)) (m : ℕ) (ys : List (List ℕ)) → Numbers K n xs m → AllMay K.after may n (xs ++ ys) → AllMay K.after may n xs × AllMay K.after may m ys
  may_split n [] m ys is all = (tt, subst (λ k. AllMay K.after may k ys) is all)
  may_split n (x ∷ xs) m ys is all =
      let on = may_split is.0 xs m ys is.2 (all.1 is.0 is.1) in
      ((all.0, λ k next. subst (λ l. AllMay K.after may l xs) (same_Some is.0 k (sym is.1 ∙ next)) on.0), on.1)

  module _ (h : H) (p : Parts S) (s : S) (image : List ℕ) where
    -- the numbers of the frames of the segment that is read first
    pub first_numbers : (turned : Bool) → Other K h turned p s image → Numbers K (K.number p.base) p.before (K.number p.middle)
    first_numbers false other = subst (λ l. Numbers K (K.number p.base) l (K.number p.middle)) (sym other.2) (ap K.number other.1)
    first_numbers true other = numbers_of K laws p.base p.before p.middle other.1

    pub all_numbers : IsStore K h p s image → Numbers K (K.number p.base) (all_frames p) (K.number s)
    all_numbers is = numbers_joined (K.number p.base) p.before (K.number p.middle) p.frames (K.number s) (first_numbers p.turned is.other) (numbers_of K laws p.middle p.frames s is.state)
      where
        numbers_joined : (n : ℕ) (xs : List (List ℕ)) (m : ℕ) (ys : List (List ℕ)) (e : ℕ) → Numbers K n xs m → Numbers K m ys e → Numbers K n (xs ++ ys) e
        numbers_joined n [] m ys e one other = subst (λ k. Numbers K k ys e) (sym one) other
        numbers_joined n (x ∷ xs) m ys e one other = (one.0, one.1, numbers_joined one.0 xs m ys e one.2 other)

    other_up : (turned : Bool) → AllMay K.after may (K.number p.base) p.before → Other K h turned p s image → Other fitted h turned p s image
    other_up false fit is = is
    other_up true fit is = (record { gate = is.0.gate; number = is.0.number; are = is.0.are }, replays_up p.base p.before p.middle fit is.1, is.2)

    other_down : (turned : Bool) → Other fitted h turned p s image → Other K h turned p s image × AllMay K.after may (K.number p.base) p.before
    other_down false is = (is, subst (λ l. AllMay K.after may (K.number p.base) l) (sym is.2) tt)
    other_down true is =
        let down = replays_down p.base p.before p.middle is.1 in
        ((record { gate = is.0.gate; number = is.0.number; are = is.0.are }, down.0, is.2), down.1)

    pub store_up : AllMay K.after may (K.number p.base) (all_frames p) → IsStore K h p s image → IsStore fitted h p s image
    store_up fit is =
        let both = may_split (K.number p.base) p.before (K.number p.middle) p.frames (first_numbers p.turned is.other) fit in
        record {
          head = is.head;
          long = is.long;
          area = record { gate = is.area.gate; body = is.area.body };
          lower = is.lower;
          current = record { gate = is.current.gate; number = is.current.number; are = is.current.are };
          other = other_up p.turned both.0 is.other;
          state = replays_up p.middle p.frames s both.1 is.state;
        }

    pub store_down : IsStore fitted h p s image → IsStore K h p s image × AllMay K.after may (K.number p.base) (all_frames p)
    store_down is =
        let state = replays_down p.middle p.frames s is.state in
        let other = other_down p.turned is.other in (
          record {
            head = is.head;
            long = is.long;
            area = record { gate = is.area.gate; body = is.area.body };
            lower = is.lower;
            current = record { gate = is.current.gate; number = is.current.number; are = is.current.are };
            other = other.0;
            state = state.0;
          },
          may_joined (K.number p.base) p.before (K.number p.middle) p.frames (first_numbers p.turned other.0) other.1 state.1,
        )

  module _ (f : File H S) (s : S) (fit : AllMay K.after may (K.number f.parts.base) (all_frames f.parts)) where
    pub file_up : (image : List ℕ) → IsFile K s f image → IsFile fitted s f image
    file_up image is = record { store = store_up f.head f.parts s image fit is.store; area_gate = is.area_gate; segment_gate = is.segment_gate; begun = is.begun }

    pub on_up : (spelling : List ℕ) (disk : View) → IsOn K f spelling s disk → IsOn fitted f spelling s disk
    on_up spelling disk on = record {
      start = on.start;
      done = on.done;
      after = on.after;
      read = record { file = file_up _ on.read.file; stand = on.read.stand };
      each = λ image left. file_up image (on.each image left);
    }

  -- a file that the codec recovers has such frames alone
  pub record IsFitted (most : ℕ) (image : List ℕ) : Type 0 where
    pub h : H
    pub p : Parts S
    pub s : S
    pub found : found K image ≡ Ok (found_of h p s)
    pub store : IsStore K h p s image
    pub low : K.number p.base ≤ most
    pub fit : AllMay K.after may (K.number p.base) (all_frames p)

  pub fitted_down : (most : ℕ) (image : List ℕ) → IsBased fitted most image → IsFitted most image
  fitted_down most image is =
      let f = is.file in
      let down = store_down f.head f.parts f.state image (found_stands fitted fitted_laws f image is.found) in
      record {
        h = f.head;
        p = f.parts;
        s = f.state;
        found = finds K laws f.head image f.parts f.state down.0;
        store = down.0;
        low = is.low;
        fit = down.1;
      }
