-- What is known of the states of a file that a store may leave.
use Rattle.std.specs.Prelude.{◌≡◌, ℕ, List, [], ◌∷◌, length, Bool, true, false, Some}
use Rattle.std.proofs.Common.{refl, ◌∙◌, ap, subst}
use Rattle.pfx_checkpoint.specs.Whole.{whole_bytes, whole_len}
use Rattle.pfx_record_redo.proofs.States.{applied_behind}
use Rattle.pfx_store_format.specs.Areas.{read_area}
use Rattle.pfx_store_format.specs.Format.{format, IsOf}
use Rattle.pfx_store_format.proofs.Keeping.{after_is_of, read_of}
use Rattle.pfx_store_format.proofs.Nexts.{after_of}
use Rattle.pfx_store.proofs.Areas.{spelled_long, spelled_read as frozen_is_read}
use Rattle.pfx_store_header.specs.Headers.{Header, IsHeader, this_version}
use Rattle.pfx_store_header.proofs.Meanings.{read_a_header}
use Rattle.pfx_jobs.specs.Kind.{Kind, Laws}
use Rattle.pfx_machine.specs.Plain.{Plain, IsState}
use Rattle.pfx_store_image.specs.Store.{Parts, Replays, IsStore, Other}

-- a state of a store with this header
pub record IsHeld {J : Type 0} (h : Header) (s : Plain J) : Type 0 where
  pub state : IsState s
  pub of : IsOf h s

module _ {J : Type 0} (K : Kind J) (L : Laws K) (h : Header) where
  replayed : (s : Plain J) (frames : List (List ℕ)) (t : Plain J) → IsHeld h s → Replays (format K) s frames t → IsHeld h t
  replayed s [] t of run = subst (IsHeld h) run of
  replayed s (frame ∷ frames) t of run =
      let after = after_of K s frame run.0 run.1 in
      let behind = applied_behind K s run.0 after.batch.records after.taken in
      replayed run.0 frames t (record { state = behind.state of.state; of = after_is_of K h s frame run.0 of.of run.1 }) run.2

  module _ (p : Parts (Plain J)) (s : Plain J) (image : List ℕ) (is : IsStore (format K) h p s image) where
    pub header_is : IsHeader h
    header_is = read_a_header this_version image h is.head

    base_is : IsHeld h p.base
    base_is = let read = read_of K h _ p.base is.area.body in record { state = read.state; of = read.of }

    middle_by : (t : Bool) → Other (format K) h t p s image → IsHeld h p.middle
    middle_by false other = subst (IsHeld h) other.1 base_is
    middle_by true other = replayed p.base p.before p.middle base_is other.1

    pub middle_is : IsHeld h p.middle
    middle_is = middle_by p.turned is.other

    pub state_is : IsHeld h s
    state_is = replayed p.middle p.frames s middle_is is.state

-- the bytes of a state with its set are read, and are as many as the header says
pub spelled_read : {J : Type 0} (K : Kind J) (L : Laws K) (h : Header) (s : Plain J) → IsHeld h s → (read_area K h (whole_bytes K s) ≡ Some s) × (length (whole_bytes K s) ≡ whole_len h.set.real)
spelled_read K L h s held = (frozen_is_read K L h s (whole_bytes K s) held.state held.of refl, spelled_long K L s held.state ∙ ap whole_len held.of.real)
