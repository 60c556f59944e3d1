-- A store and a log that go on together.
use Rattle.std.proofs.Common.{◌≡◌, ℕ, List, [], drop, refl, sym, ◌∙◌, subst}
use Rattle.pfx_events_acts.specs.Files.{IsFile}
use Rattle.pfx_events_base.specs.Bases.{IsOn}
use Rattle.pfx_disk.specs.Disk.{View, Only}
use Rattle.pfx_disk.specs.declared.device.Disk.{Ghosts as DiskGhosts}
use Rattle.pfx_events.specs.Batches.{IsSeen}
use Rattle.pfx_events.proofs.Seen.{seen}
use Rattle.pfx_store_format.specs.Format.{format}
use Rattle.pfx_store_format.proofs.Keeping.{format_laws}
use Rattle.pfx_jobs.specs.Kind.{Kind, Laws}
use Rattle.pfx_jobs.specs.declared.job.Job.{Ghosts as JobGhosts}
use Rattle.pfx_store_header.specs.Headers.{Header}
use Rattle.pfx_log.specs.Logs.{Log, last_number}
use Rattle.pfx_machine.specs.Plain.{Plain}
use Rattle.pfx_store_image.specs.Recovery.{Found, found_of}
use Rattle.pfx_store_image.proofs.Answers.{ok_same}
use Rattle.pfx_store_image.proofs.Recovers.{finds}
use Rattle.pfx_store.specs.Files.{FileOf, spelled}
use Rattle.pfx_store.specs.Standing.{Stands}
use Rattle.pfx_store_file.specs.declared.places.Places.{Places}
use Rattle.pfx_log_store.specs.Behind.{StandBehind, all_frames}
use Rattle.pfx_log_store.specs.Working.{CanJoin, IsLogged}
use Rattle.pfx_log_store.proofs.Kept.{kept_as}
use Rattle.pfx_log_store.specs.declared.beside.LoggedStore.{LoggedStore}

-- a store of whose disk a stop leaves what a read gives
is_on : {J : Type 0} (K : Kind J) (places : Places) (s : Plain J) (body : List ℕ) (f : FileOf J) (disk : View) → Only disk.contents disk → IsSeen K places s body f disk → IsOn (format K) f (spelled K f) s disk
is_on K places s body f disk only seen = record {
  start = disk.contents;
  done = [];
  after = record { contents = refl; images = λ image now. only image now };
  read = seen.whole;
  each = λ image left. subst (λ i. IsFile (format K) s f i) (sym left) seen.whole.file;
}

pub joined : {D L J : Type 0} {d : DiskGhosts D} {l : DiskGhosts L} {k : JobGhosts J} (K : Kind J) (laws : Laws K) (start : Plain J) (all : List (List ℕ)) (log : Log) (frames : List ℕ) (new : LoggedStore D L J d l k)
    → CanJoin K start all log d.view new.store new.log frames → Stands K new.store.file.places new.store.state new.store.spelled (d.view new.store.file.disk) → new.copy.items ≡ frames → IsLogged K start all log new
joined {J = J} {d = d} K laws start all log frames new can stands same =
    let s = new.store.state in
    let disk = d.view new.store.file.disk in
    let (f, is) = seen K new.store.file.places s new.store.spelled disk stands in
    record {
      whole = can.whole;
      honest = can.honest;
      file = f;
      has = is.has;
      on = is_on K new.store.file.places s new.store.spelled f disk can.only is;
      turned = can.turned (found_of f.head f.parts s) (finds (format K) (format_laws K laws) f.head disk.contents f.parts s is.whole.file.store);
      opened = can.opened;
      kept = kept_as K laws start all log frames new.copy.items s s same refl can.kept;
      reads = (let there = ok_same _ _ (sym can.reads.found ∙ finds (format K) (format_laws K laws) f.head disk.contents f.parts s is.whole.file.store) in
          subst (λ (t : Found Header (Plain J)). StandBehind (format K) t.parts.base.number (all_frames t.parts) (last_number log) (drop can.kept.kept all)) there can.reads.stand);
    }
