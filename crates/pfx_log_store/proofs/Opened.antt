-- A store that was opened of what was found before.
use Rattle.std.proofs.Common.{◌≡◌, ℕ, List, sym, ◌∙◌, ap, subst, false, Result, Ok, Err}
use Rattle.std.specs.Prelude.{IfErr, IfOk, IsErrAnd}
use Rattle.pfx_disk.specs.Disk.{View, IsHonest, Only}
use Rattle.pfx_disk.specs.declared.device.Disk.{Ghosts as DiskGhosts}
use Rattle.pfx_store_format.specs.Format.{format}
use Rattle.pfx_store_format.proofs.Keeping.{format_laws}
use Rattle.pfx_store_header.specs.Headers.{Header}
use Rattle.pfx_jobs.specs.Kind.{Kind, Laws}
use Rattle.pfx_log.specs.declared.file.LogFile.{LogFile}
use Rattle.pfx_machine.specs.Plain.{Plain}
use Rattle.pfx_store_recover.specs.Answers.{IsRefusal}
use Rattle.pfx_store_recover.specs.Looking.{Looks}
use Rattle.pfx_store_recover.specs.declared.faults.OpenFault.{OpenFault}
use Rattle.pfx_store_recover.specs.declared.faults.OpenFault.TheVariants as fault
use Rattle.pfx_store_image.specs.Recovery.{Found, found, found_of, recovered}
use Rattle.pfx_store_image.specs.Refusals.{Refusal}
use Rattle.pfx_store_image.specs.Store.{Parts}
use Rattle.pfx_store_image.proofs.Answers.{ok_same}
use Rattle.pfx_store_image.proofs.Recovers.{recovers}
use Rattle.pfx_store_image.proofs.Stands.{found_stands}
use Rattle.pfx_store.specs.Stores.{PlainStore}
use Rattle.pfx_log_store.specs.Behind.{GoOnBehind, IsGap, all_frames}
use Rattle.pfx_log_store.specs.Joining.{AreBehind, IsJoinFault, IsOfFile}
use Rattle.pfx_log_store.specs.Opening.{IsLeftWith, IsOpenBehind, IsOpenFault}
use Rattle.pfx_log_store.specs.declared.joining.JoinFault.{JoinFault}
use Rattle.pfx_log_store.specs.declared.joining.JoinFault.TheVariants as join
use Rattle.pfx_log_store.proofs.Gathering.{same_bytes}

module _ {D J : Type 0} (K : Kind J) (laws : Laws K) (view : D → View) (h : Header) (p : Parts (Plain J)) (s : Plain J) (old between : D) (honest : IsHonest (view old)) (is_found : found (format K) (view old).contents ≡ Ok (found_of h p s))
    (looks : Looks (view old) (view between)) where
  pub same : (IsHonest (view between)) × ((view between).contents ≡ (view old).contents)
  same = same_bytes (view old) (view between) looks honest

  recovers_to : recovered (format K) (view old).contents ≡ Ok s
  recovers_to = recovers (format K) (format_laws K laws) h (view old).contents p s (found_stands (format K) (format_laws K laws) (found_of h p s) (view old).contents is_found)

  pub opened_behind : (last : ℕ) (frames : List ℕ) (store : PlainStore D J) → Looks (view between) (view store.file.disk) → store.file.broken ≡ false → Only (view between).contents (view store.file.disk)
      → recovered (format K) (view between).contents ≡ Ok store.state → AreBehind (format K) p.base.number (all_frames p) last frames → IsOpenBehind K view (view old).contents last store frames
  opened_behind last frames store more whole only state behind =
      let there = same_bytes (view between) (view store.file.disk) more same.0 in
      record {
        whole = whole;
        honest = there.0;
        contents = there.1 ∙ same.1;
        only = subst (λ l. Only l (view store.file.disk)) same.1 only;
        file = found_of h p s;
        found = is_found;
        state = ok_same s store.state (sym recovers_to ∙ ap (recovered (format K)) (sym same.1) ∙ state);
        behind = behind;
      }

  -- the gap is one of each file that is found there
  pub gap_of : (last file : ℕ) → IsGap (format K) p.base.number (all_frames p) last × GoOnBehind (format K) p.base.number (all_frames p) last file → (f : Found Header (Plain J)) → found (format K) (view old).contents ≡ Ok f
      → IsGap (format K) f.parts.base.number (all_frames f.parts) last × GoOnBehind (format K) f.parts.base.number (all_frames f.parts) last file
  gap_of last file gap f is = subst (λ (t : Found Header (Plain J)). IsGap (format K) t.parts.base.number (all_frames t.parts) last × GoOnBehind (format K) t.parts.base.number (all_frames t.parts) last file) (ok_same _ _ (sym is_found ∙ is)) gap

unrefused : (e : OpenFault) (P : Refusal → Type 0) → IsRefusal e (λ refusal. ⊥) → IsRefusal e P
unrefused (fault.Refused r) P none = absurd none
unrefused fault.Device P none = tt
unrefused fault.NoMemory P none = tt

-- what says that there are no frames says that no store is opened
pub fault_of : {J : Type 0} (K : Kind J) (bytes : List ℕ) (last n : ℕ) (frames : List (List ℕ)) (e : JoinFault) → IsJoinFault (format K) n frames last e
    → ((file : ℕ) → IsGap (format K) n frames last × GoOnBehind (format K) n frames last file → (f : Found Header (Plain J)) → found (format K) bytes ≡ Ok f
    → IsGap (format K) f.parts.base.number (all_frames f.parts) last × GoOnBehind (format K) f.parts.base.number (all_frames f.parts) last file) → IsOpenFault K bytes last e
fault_of K bytes last n frames (join.File e) is gap = unrefused e (λ refusal. recovered (format K) bytes ≡ Err refusal) is
fault_of K bytes last n frames (join.LogGap log file) is gap = (is.0, gap file (is.1, is.2))
fault_of K bytes last n frames (join.Log e) is gap = absurd is

-- a fault of the file, which leaves the log
pub of_file : {T : Type 0} (r : Result T JoinFault) (e : OpenFault) → IsErrAnd r (λ x. x ≡ join.File e) → IfErr r IsOfFile
of_file (Ok x) e same = absurd same
of_file (Err x) e same = subst (λ (f : JoinFault). IsOfFile f) (sym same) tt

pub left_of_file : {L : Type 0} {l : DiskGhosts L} (old new : LogFile L l) (e : JoinFault) → IsOfFile e → IsLeftWith old new e
left_of_file old new (join.File e) is = tt
left_of_file old new (join.LogGap log file) is = tt
left_of_file old new (join.Log e) is = absurd is

-- an opened store's state is what its bytes are recovered to
pub recovered_of : {D J : Type 0} (K : Kind J) (laws : Laws K) (view : D → View) (bytes : List ℕ) (last : ℕ) (store : PlainStore D J) (frames : List ℕ) → IsOpenBehind K view bytes last store frames → recovered (format K) bytes ≡ Ok store.state
recovered_of K laws view bytes last store frames is =
    recovers (format K) (format_laws K laws) is.file.head bytes is.file.parts is.file.state (found_stands (format K) (format_laws K laws) is.file bytes is.found) ∙ ap (λ s. Ok s) is.state

-- what is so of what was answered, and what follows from it
pub map_ok : {T E : Type 0} (P Q : T → Type 0) (result : Result T E) → ((t : T) → P t → Q t) → IfOk result P → IfOk result Q
map_ok P Q (Ok t) f is = f t is
map_ok P Q (Err e) f is = tt
