-- This product's store provides what the events ask of one.
use Rattle.std.specs.Prelude.{◌≡◌, ◌⊎◌, Bool, true, false, if◌then◌else◌, ℕ, ◌+◌, ◌*◌, ◌<◌, ◌≤◌, List, ◌∷◌, length, drop, slice_index, not, Some, Result, Ok, Err, refl}
use Rattle.std.proofs.Common.{sym, ap, subst, arith, inl, inr, length-append, eq-eqb}
use Rattle.std.proofs.Math.Nat.{le-max_right}
use Rattle.std.proofs.lemmas.Bool.{cases_eq, ne_eqb, false≢true}
use Rattle.std.proofs.lemmas.Option.{same_Some, none-some}
use Rattle.pfx_segment.specs.Acts.{put_acts}
use Rattle.pfx_store_file.specs.Acts.{room_acts, append_acts, appended_file, tend_acts, tended_file, ended_file, roomy_file, gate_of}
use Rattle.pfx_store_file.specs.declared.progress.Checkpoint.TheVariants.{Ended, Pending}
use Rattle.pfx_store_file.specs.Checkpoints.{is_begun}
use Rattle.pfx_store_file.specs.Files.{file_in}
use Rattle.pfx_events_acts.specs.Files.{IsFile, IsWhole}
use Rattle.pfx_events_acts.proofs.Chains.{safe_at, Safe, Steady, chain_with}
use Rattle.pfx_store_file.proofs.Ends.{stepped_kept, tended_kept}
use Rattle.pfx_events_acts.proofs.Stepping.{Spells, Goes, tends, append_goes}
use Rattle.pfx_disk.specs.Stop.{Act}
use Rattle.pfx_disk.specs.declared.gates.TheConstants.{GATE_OPEN}
use Rattle.pfx_store_format.specs.Format.{format, layout, IsOf}
use Rattle.pfx_store_format.specs.Frames.{state_after}
use Rattle.pfx_store_format.proofs.Keeping.{format_laws}
use Rattle.pfx_checkpoint.specs.Whole.{whole_bytes, whole_len}
use Rattle.pfx_store_format.specs.Areas.{read_area}
use Rattle.pfx_store_header.specs.Headers.{Header}
use Rattle.pfx_jobs.specs.Kind.{Kind, Laws}
use Rattle.pfx_machine.specs.Batches.{IsBatchable}
use Rattle.pfx_machine.specs.Plain.{Plain, IsState}
use Rattle.pfx_machine.specs.Outcome.{outcome}
use Rattle.pfx_machine.specs.Sessions.{IsAcceptable}
use Rattle.pfx_machine.specs.declared.command.Command.{Command}
use Rattle.pfx_store_image.specs.Layout.{area_at, segment_at, is_open}
use Rattle.pfx_store_image.specs.Recovery.{Found, found}
use Rattle.pfx_store_image.specs.Refusals.{Refusal}
use Rattle.pfx_store_image.specs.Store.{Parts, IsStore}
use Rattle.pfx_store_image.proofs.Recovers.{finds}
use Rattle.pfx_store_image.proofs.Stands.{found_stands}
use Rattle.pfx_store_file.specs.Holding.{IsGate}
use Rattle.pfx_events_world.specs.Setting.{Settled, Leads, StandsFor, IsSound}
use Rattle.pfx_store.specs.Files.{FileOf, spelled, start_of, behind_of, file_found, recovered_file}
use Rattle.pfx_events.specs.Store.{frame_of, store_of}
use Rattle.pfx_events.proofs.Frames.{frame_led, frame_room, frame_there, opens_here, start_is}
use Rattle.pfx_events.proofs.Known.{IsHeld, middle_is, state_is, spelled_read}

-- the gate stands as it is found
gate_is : (at : ℕ) (image : List ℕ) → IsGate (is_open at image) at image
gate_is at image = elim (cases_eq (slice_index image at) GATE_OPEN) [
  | inl is ↦ subst (λ b. IsGate b at image) (sym (eq-eqb (slice_index image at) GATE_OPEN is)) is
  | inr shut ↦ subst (λ b. IsGate b at image) (sym (ne_eqb (slice_index image at) GATE_OPEN shut)) shut
]

module _ {J : Type 0} (K : Kind J) (L : Laws K) where
  -- a checkpoint that is to begin anew isn't begun
  unbegun : (turned : Bool) → is_begun (if turned then Pending else Ended) ≡ true → ⊥
  unbegun true began = false≢true began
  unbegun false began = false≢true began

  -- a file that a store may leave is one, with its gates as they stand
  file_is : (h : Header) (p : Parts (Plain J)) (s : Plain J) (image : List ℕ) → IsStore (format K) h p s image → IsFile (format K) s (file_in (format K) image h p) image
  file_is h p s image is = record {
    store = is;
    area_gate = gate_is (area_at (layout h) (not p.area)) image;
    segment_gate = λ single. gate_is (segment_at (layout h) (not p.segment)) image;
    begun = λ began. absurd (unbegun p.turned began);
  }

  whole_is : (h : Header) (p : Parts (Plain J)) (s : Plain J) (image : List ℕ) → IsStore (format K) h p s image → IsWhole (format K) (spelled K (file_in (format K) image h p)) s (file_in (format K) image h p) image
  whole_is h p s image is = record { file = file_is h p s image is; stand = λ began. absurd (unbegun p.turned began) }

  reads_file : (image : List ℕ) (s : Plain J) (f : FileOf J) → IsFile (format K) s f image → (q : FileOf J) × (recovered_file K image ≡ Some (s, q))
  reads_file image s f is = (file_in (format K) image f.head f.parts, ap (file_found K image) (finds (format K) (format_laws K L) f.head image f.parts s is.store))

  found_by : (image : List ℕ) (s : Plain J) (q : FileOf J) (r : Result (Found Header (Plain J)) Refusal) → found (format K) image ≡ r → file_found K image r ≡ Some (s, q) → IsWhole (format K) (spelled K q) s q image
  found_by image s q (Ok t) is same =
      let pair = same_Some _ _ same in
      subst (λ (z : Plain J × FileOf J). IsWhole (format K) (spelled K z.1) z.0 z.1 image) pair (whole_is t.head t.parts t.state image (found_stands (format K) (format_laws K L) t image is))
  found_by image s q (Err e) is same = absurd (none-some (s, q) same)

  found_file : (image : List ℕ) (s : Plain J) (q : FileOf J) → recovered_file K image ≡ Some (s, q) → IsWhole (format K) (spelled K q) s q image
  found_file image s q is = found_by image s q (found (format K) image) refl is

  -- images of a state, or of the state after it
  abbrev Either : Plain J → Plain J → List ℕ → Type 0
  Either s t x = StandsFor (store_of K) x s ⊎ StandsFor (store_of K) x t

  one_is : (s t : Plain J) (h : Header) (p : Parts (Plain J)) (x : List ℕ) → IsStore (format K) h p s x → Either s t x
  one_is s t h p x is = inl (file_in (format K) x h p, file_is h p s x is)

  next_is : (s t : Plain J) (h : Header) (p : Parts (Plain J)) (x : List ℕ) → IsStore (format K) h p t x → Either s t x
  next_is s t h p x is = inr (file_in (format K) x h p, file_is h p t x is)

  -- a chain of calls leads
  leads : (s t : Plain J) (f g : FileOf J) (calls : List Act) → Goes (format K) (format_laws K L) (Either s t) f s (spelled K f) calls g t (spelled K g) → Leads (store_of K) s f calls t g
  leads s t f g calls chain = record {
    during = λ start done gone coming settled is image left.
        safe_at (Either s t) start done gone coming (subst (λ (l : List Act). Safe (Either s t) start done l) (sym is) (chain.safe start done (steady start done settled))) image left;
    ends = λ start done settled. let now = chain.ends start done (steady start done settled) in record { whole = now.whole; each = now.each };
  }
    where
      steady : (start : List ℕ) (done : List Act) → Settled (store_of K) start done s f → Steady (IsFile (format K) s f) (IsWhole (format K) (spelled K f) s f) start done
      steady start done settled = record { whole = settled.whole; each = settled.each }

  spells_of : (f : FileOf J) (s : Plain J) (x : List ℕ) → IsStore (format K) f.head f.parts s x → Spells (format K) f (spelled K f)
  spells_of f s x is turned = spelled_read K L f.head f.parts.middle (middle_is K L f.head f.parts s x is)

  tending_leads : (f : FileOf J) (s : Plain J) → Leads (store_of K) s f (tend_acts (format K) f (spelled K f)) s (tended_file (format K) f)
  tending_leads f s = leads s s f (tended_file (format K) f) (tend_acts (format K) f (spelled K f))
      (subst (λ (l : List ℕ). Goes (format K) (format_laws K L) (Either s s) f s (spelled K f) (tend_acts (format K) f (spelled K f)) (tended_file (format K) f) s l) (ap (whole_bytes K) (sym (tended_kept (format K) f).middle))
      (chain_with (Either s s) (IsFile (format K) s f) (IsWhole (format K) (spelled K f) s f) (IsFile (format K) s (tended_file (format K) f)) (IsWhole (format K) (spelled K f) s (tended_file (format K) f)) (tend_acts (format K) f (spelled K f))
      (λ x was. tends (format K) (format_laws K L) (Either s s) s (one_is s s) f (spelled K f) (spells_of f s x was.file.store))))

  module _ (f : FileOf J) (s : Plain J) (H : List (Command J)) (some : 0 < length H) (few : length H ≤ 16) (may : IsBatchable H) (state : IsState s) (all : IsAcceptable K s H) where
    abbrev t : Plain J
    t = outcome K s H

    abbrev frame : List ℕ
    frame = frame_of K s H

    abbrev bytes : List ℕ
    bytes = behind_of (frame_of K s H)

    goes : (x : List ℕ) → IsWhole (format K) (spelled K f) s f x →
        Goes (format K) (format_laws K L) (Either s t) f s (spelled K f) (append_acts (format K) f s (spelled K f) (start_of s) bytes) (appended_file (format K) f s bytes (GATE_OPEN ∷ drop 1 frame)) t (whole_bytes K (roomy_file (format K) (length bytes) f s).parts.middle)
    goes x was =
        let of = state_is K L f.head f.parts s x was.file.store in
        append_goes (format K) (format_laws K L) (Either s t) s t (drop 1 frame) (one_is s t) (next_is s t)
        (frame_there K L s H some few may state all)
        (subst (λ (l : List ℕ). state_after K s l ≡ Some t) (opens_here K L s H some few may state all) (frame_led K L s H some few may state all))
        f (whole_bytes K) (start_of s) (spells_of f s x was.file.store) (start_is K s state)
        (small of.of)
        (λ turned. spelled_then of)
      where
        small : IsOf f.head s → length bytes + 9 < (layout f.head).segment
        small of =
            let least : 41 + 2096 * s.ledger.set.workers ≤ s.segment = subst (λ n. 41 + 2096 * s.ledger.set.workers ≤ n) (sym of.segment) of.room in
            let same = of.segment in
            omega (arith, frame_room K L s H some few may state all least, le-max_right 10 f.head.segment, same)

        spelled_then : IsHeld f.head s → (read_area K (ended_file (format K) f).head (whole_bytes K s) ≡ Some s) × (length (whole_bytes K s) ≡ whole_len (ended_file (format K) f).head.set.real)
        spelled_then of = spelled_read K L (ended_file (format K) f).head s (subst (λ h. IsHeld h s) (sym (stepped_kept (format K) (2 + (layout f.head).body) f).head) of)

    appending_leads : Leads (store_of K) s f (append_acts (format K) f s (spelled K f) (start_of s) bytes) t (appended_file (format K) f s bytes frame)
    appending_leads = leads s t f (appended_file (format K) f s bytes frame) (append_acts (format K) f s (spelled K f) (start_of s) bytes)
        (subst (λ (l : List ℕ). Goes (format K) (format_laws K L) (Either s t) f s (spelled K f) (append_acts (format K) f s (spelled K f) (start_of s) bytes) (appended_file (format K) f s bytes l) t (whole_bytes K (roomy_file (format K) (length bytes) f s).parts.middle)) (sym (opens_here K L s H some few may state all))
        (chain_with (Either s t) (IsFile (format K) s f) (IsWhole (format K) (spelled K f) s f) (IsFile (format K) t g) (IsWhole (format K) (spelled K g) t g) (append_acts (format K) f s (spelled K f) (start_of s) bytes) goes))
      where
        g : FileOf J
        g = appended_file (format K) f s bytes (GATE_OPEN ∷ drop 1 frame)

  pub sound : IsSound (store_of K)
  sound = record {
    jobs = L;
    states = λ image s f is. (state_is K L f.head f.parts s image is.store).state;
    whole_stands = λ image s f is. is.file;
    reads = reads_file;
    found = found_file;
    appends = appending_leads;
    some_calls = λ f s H. some_calls f s H;
    tending = tending_leads;
  }
    where
      some_calls : (f : FileOf J) (s : Plain J) (H : List (Command J)) → 0 < length (append_acts (format K) f s (spelled K f) (start_of s) (behind_of (frame_of K s H)))
      some_calls f s H = omega (arith, length-append (room_acts (format K) (length (behind_of (frame_of K s H))) f (spelled K f) (start_of s)) (put_acts (gate_of (format K) (roomy_file (format K) (length (behind_of (frame_of K s H))) f s)) (behind_of (frame_of K s H))))
