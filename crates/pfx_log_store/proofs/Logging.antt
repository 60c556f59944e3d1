-- A log that is brought up to the store's state.
use Rattle.std.proofs.Common.{◌≡◌, ⊎_elim, ℕ, ◌≤◌, List, [], ◌++◌, length, drop, refl, sym, ◌∙◌, ap, subst, arith, append-nil, true, false, Result, Ok, Err}
use Rattle.std.proofs.Math.Seq.{drop-length}
use Rattle.std.specs.Prelude.{OnOk, IsOk}
use Rattle.std.specs.Result.{is_ok}
use Rattle.std.proofs.lemmas.Bool.{true≢false}
use Rattle.pfx_events_base.specs.Bases.{IsOn, turn_number}
use Rattle.pfx_disk.specs.Disk.{IsHonest, Leaves}
use Rattle.pfx_disk.specs.Stop.{contents_after}
use Rattle.pfx_disk.specs.declared.device.Disk.{Ghosts as DiskGhosts}
use Rattle.pfx_store_format.specs.Format.{format}
use Rattle.pfx_store_format.proofs.Keeping.{format_laws}
use Rattle.pfx_jobs.specs.Kind.{Kind, Laws}
use Rattle.pfx_jobs.specs.declared.job.Job.{Ghosts as JobGhosts}
use Rattle.pfx_log.specs.Acts.{Grows}
use Rattle.pfx_log.specs.Files.{Appends, IsOpen}
use Rattle.pfx_log.specs.Holding.{Holds}
use Rattle.pfx_log.specs.Logs.{Block, Log, block_of, last_number, with_block}
use Rattle.pfx_log.specs.declared.faults.AppendFault.{AppendFault}
use Rattle.pfx_log.proofs.More.{last_number_more}
use Rattle.pfx_machine.specs.Plain.{Plain}
use Rattle.pfx_store_image.specs.Store.{Numbers, Replays}
use Rattle.pfx_store_image.proofs.Runs.{numbers_of}
use Rattle.pfx_store.specs.Files.{HasFile, spelled}
use Rattle.pfx_log_store.specs.Behind.{StandBehind, all_frames}
use Rattle.pfx_log_store.specs.Covering.{AreCovered, HasKept}
use Rattle.pfx_log_store.specs.Working.{Covers, IsLogged, KeepsLogged}
use Rattle.pfx_log_store.specs.declared.beside.LoggedStore.{LoggedStore}
use Rattle.pfx_log_store.proofs.Images.{covered, is_file, survives, turned_before}
use Rattle.pfx_log_store.proofs.Kept.{all_lead, has_kept_all, kept_all, kept_as, kept_none}
use Rattle.pfx_log_store.proofs.Fitted.{all_numbers}
use Rattle.pfx_log_store.proofs.Found.{fitted_file}

-- what follows on success
pub on_ok : {T E A X : Type 0} (r : Result T E) → OnOk r A → (A → X) → OnOk r X
on_ok (Ok v) a f = f a
on_ok (Err e) a f = tt

pub on_ok₂ : {T E A B X : Type 0} (r : Result T E) → OnOk r A → OnOk r B → (A → B → X) → OnOk r X
on_ok₂ (Ok v) a b f = f a b
on_ok₂ (Err e) a b f = tt

pub on_ok₃ : {T E A B C X : Type 0} (r : Result T E) → OnOk r A → OnOk r B → OnOk r C → (A → B → C → X) → OnOk r X
on_ok₃ (Ok v) a b c f = f a b c
on_ok₃ (Err e) a b c f = tt

-- what is so anyway, or on success alone
pub on_ok_all : {T E X : Type 0} (r : Result T E) → X → OnOk r X
on_ok_all (Ok v) x = x
on_ok_all (Err e) x = tt

pub on_ok_if : {T E X : Type 0} (r : Result T E) → (IsOk r → X) → OnOk r X
on_ok_if (Ok v) f = f refl
on_ok_if (Err e) f = tt

pub on_not_ok : {T E : Type 0} (X : Type 0) (r : Result T E) → is_ok r ≡ false → OnOk r X
on_not_ok X (Ok v) unset = absurd (true≢false unset)
on_not_ok X (Err e) unset = tt

module _ {D L J : Type 0} {d : DiskGhosts D} {l : DiskGhosts L} {k : JobGhosts J} (K : Kind J) (laws : Laws K)
    (only_d : (disk : D) (image : List ℕ) → (d.view disk).since (d.view disk).clock image → (d.view disk).now image)
    (only_l : (disk : L) (image : List ℕ) → (l.view disk).since (l.view disk).clock image → (l.view disk).now image)
    (start : Plain J) (all : List (List ℕ)) (log : Log) (old new : LoggedStore D L J d l k) (is : IsLogged K start all log old) (same_store : new.store ≡ old.store) where
  -- an image of the log with each image of the file
  with_log : (kept : ℕ) (behind : Plain J) (held : Log) (logged filed : List ℕ) → HasKept K start all kept behind held → Replays (format K) behind (drop kept all) old.store.state
      → StandBehind (format K) is.file.parts.base.number (all_frames is.file.parts) (last_number held) (drop kept all) → Holds logged held
      → (d.view new.store.file.disk).since (d.view old.store.file.disk).clock filed → AreCovered K start all (length all) logged filed
  with_log kept behind held logged filed has leads stand holds since =
      let disk = old.store.file.disk in
      let s = old.store.state in
      let now = only_d disk filed (subst (λ s. (d.view s.file.disk).since (d.view disk).clock filed) same_store since) in
      let numbers : Numbers (format K) (last_number held) (drop kept all) s.number = subst (λ m. Numbers (format K) m (drop kept all) s.number) has.number (numbers_of (format K) (format_laws K laws) behind (drop kept all) s leads) in
      covered K laws start all (length all) kept behind held logged filed has has.few holds
      (survives K laws is.file s (d.view disk) is.on start all (all_lead K laws start all log old.copy.items s is.kept) filed now)
      (fitted_file K laws (last_number held) (drop kept all) (drop kept all) [] is.file s filed stand numbers (sym (append-nil (drop kept all))) (is_file K laws is.file s (d.view disk) is.on filed now))

  -- the log as it was
  with_old : (logged filed : List ℕ) → Holds logged log → (d.view new.store.file.disk).since (d.view old.store.file.disk).clock filed → AreCovered K start all (length all) logged filed
  with_old logged filed holds since = with_log is.kept.kept is.kept.behind log logged filed is.kept.keeps is.kept.leads is.reads holds since

  -- nothing is written
  pub covers_still : new.log ≡ old.log → Covers K start all (length all) old new
  covers_still same logged filed since_l since_d =
      let now = only_l old.log.disk logged (subst (λ f. (l.view f.disk).since (l.view old.log.disk).clock logged) same since_l) in
      with_old logged filed (is.opened.images logged now) since_d

  -- what is copied becomes a block
  module _ (first : ℕ) where
    abbrev block : Block
    block = block_of first old.store.state.number old.copy.items

    ends : last_number (with_block log block) ≡ old.store.state.number
    ends = last_number_more log block

    below : turn_number (format K) is.file ≤ last_number (with_block log block)
    below = let low = turned_before K laws is.file old.store.state (d.view old.store.file.disk) is.on in omega (arith, low, ends)

    -- all of the file's frames are in it
    stand_all : StandBehind (format K) is.file.parts.base.number (all_frames is.file.parts) (last_number (with_block log (block_of first old.store.state.number old.copy.items))) (drop (length all) all)
    stand_all = record {
      front = all_frames is.file.parts;
      whole = sym (append-nil (all_frames is.file.parts)) ∙ ap (λ l. all_frames is.file.parts ++ l) (sym (drop-length all));
      reaches = subst (λ m. Numbers (format K) is.file.parts.base.number (all_frames is.file.parts) m) (sym ends)
          (all_numbers (format K) (format_laws K laws) (λ n frame. true) is.file.head is.file.parts old.store.state (contents_after is.on.start is.on.done) is.on.read.file.store);
    }

    pub covers_grown : Leaves (Grows log (block_of first old.store.state.number old.copy.items)) (l.view old.log.disk) (l.view new.log.disk) → Covers K start all (length all) old new
    covers_grown leaves logged filed since_l since_d = ⊎_elim
        (λ before. with_old logged filed (is.opened.images logged (only_l old.log.disk logged before)) since_d)
        (λ after. ⊎_elim
        (λ still. with_old logged filed still since_d)
        (λ more. with_log (length all) old.store.state (with_block log block) logged filed (has_kept_all K laws start all log old.copy.items old.store.state is.kept first)
        (kept_all K laws start all log old.copy.items old.store.state is.kept first).leads stand_all more since_d)
        (after.2 (is.opened.images after.0 after.1)))
        (leaves.since (l.view old.log.disk).clock logged (omega arith) since_l)

    pub logged_more : IsOpen (with_block log (block_of first old.store.state.number old.copy.items)) new.log → new.copy.items ≡ [] → IsLogged K start all (with_block log (block_of first old.store.state.number old.copy.items)) new
    logged_more opened none = record {
      whole = subst (λ s. s.file.broken ≡ false) (sym same_store) is.whole;
      honest = subst (λ s. IsHonest (d.view s.file.disk)) (sym same_store) is.honest;
      file = is.file;
      has = subst (λ s. HasFile K is.file s.file.places s.spelled) (sym same_store) is.has;
      on = subst (λ s. IsOn (format K) is.file (spelled K is.file) s.state (d.view s.file.disk)) (sym same_store) is.on;
      turned = below;
      opened = opened;
      kept = kept_as K laws start all (with_block log block) [] new.copy.items old.store.state new.store.state none (ap (λ s. s.state) same_store) (kept_all K laws start all log old.copy.items old.store.state is.kept first);
      reads = stand_all;
    }

  -- it ends with the store's state already
  pub logged_none : new.log ≡ old.log → new.copy.items ≡ [] → old.store.state.number ≤ last_number log → IsLogged K start all log new
  logged_none same none low = record {
    whole = subst (λ s. s.file.broken ≡ false) (sym same_store) is.whole;
    honest = subst (λ s. IsHonest (d.view s.file.disk)) (sym same_store) is.honest;
    file = is.file;
    has = subst (λ s. HasFile K is.file s.file.places s.spelled) (sym same_store) is.has;
    on = subst (λ s. IsOn (format K) is.file (spelled K is.file) s.state (d.view s.file.disk)) (sym same_store) is.on;
    turned = is.turned;
    opened = subst (λ f. IsOpen log f) (sym same) is.opened;
    kept = kept_as K laws start all log [] new.copy.items old.store.state new.store.state none (ap (λ s. s.state) same_store) (kept_none K laws start all log old.copy.items old.store.state is.kept low);
    reads = is.reads;
  }

  pub keeps_none : {T E : Type 0} (v : T) → new.log ≡ old.log → new.copy.items ≡ [] → old.store.state.number ≤ last_number log → KeepsLogged {T = T} {E = E} K start all (length all) old new (Ok v)
  keeps_none v same none low = record { logged = (log, logged_none same none low); covered = covers_still same }

  -- a block more
  pub keeps_block : {T : Type 0} (first last : ℕ) (frames : List ℕ) (result : Result T AppendFault) → last ≡ old.store.state.number → frames ≡ old.copy.items
      → Appends old.log new.log result log (block_of first last frames) → OnOk result (new.copy.items ≡ []) → KeepsLogged K start all (length all) old new result
  keeps_block first last frames result at copy appends none =
      let more : Appends old.log new.log result log (block_of first old.store.state.number old.copy.items) =
      subst (λ f. Appends old.log new.log result log (block_of first old.store.state.number f)) copy (subst (λ n. Appends old.log new.log result log (block_of first n frames)) at appends) in
      record {
        logged = on_ok₂ result more.opened none (λ opened empty. (with_block log (block first), logged_more first opened empty));
        covered = covers_grown first more.leaves;
      }
