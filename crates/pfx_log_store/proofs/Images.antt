-- What stands in each image of a file and of a log.
use Rattle.std.proofs.Common.{ℕ, ◌≤◌, List, length, drop, sym, subst, arith}
use Rattle.std.proofs.lemmas.List.{take_all}
use Rattle.pfx_events_acts.specs.Files.{IsFile}
use Rattle.pfx_events_base.specs.Bases.{IsBased, IsOn, turn_number}
use Rattle.pfx_events_base.proofs.Bounded.{file_based}
use Rattle.pfx_disk.specs.Disk.{View}
use Rattle.pfx_store_format.specs.Format.{format}
use Rattle.pfx_store_format.proofs.Keeping.{format_laws}
use Rattle.pfx_jobs.specs.Kind.{Kind, Laws}
use Rattle.pfx_log.specs.Holding.{Holds}
use Rattle.pfx_log.specs.Logs.{Log, last_number}
use Rattle.pfx_machine.specs.Plain.{Plain}
use Rattle.pfx_store_image.specs.Codec.{Codec}
use Rattle.pfx_store_image.specs.Store.{Replays}
use Rattle.pfx_store_image.proofs.Recovers.{recovers}
use Rattle.pfx_store_image.proofs.Runs.{numbers_of, numbers_rise}
use Rattle.pfx_store.specs.Files.{FileOf, spelled}
use Rattle.pfx_store_file.specs.Holding.{Survives}
use Rattle.pfx_log_store.specs.Behind.{all_frames}
use Rattle.pfx_log_store.specs.Covering.{AreCovered, HasKept}
use Rattle.pfx_log_store.proofs.Expected.{may}
use Rattle.pfx_log_store.proofs.Fitted.{AllMay, IsFitted, file_up, fitted, fitted_laws}
use Rattle.pfx_log_store.proofs.Found.{has_behind}

-- from a checkpoint of at most a number, or a greater one
based_more : {H S : Type 0} (C : Codec H S) (low high : ℕ) (image : List ℕ) → low ≤ high → IsBased C low image → IsBased C high image
based_more C low high image more is = record { file = is.file; found = is.found; low = (let least = is.low in omega (arith, least, more)) }

module _ {J : Type 0} (K : Kind J) (L : Laws K) where
  module _ (f : FileOf J) (s : Plain J) (disk : View) (on : IsOn (format K) f (spelled K f) s disk) where
    pub is_file : (image : List ℕ) → disk.now image → IsFile (format K) s f image
    is_file image now = on.each image (on.after.images image now)

    -- also by the codec of those that may stand there, if the file's frames may
    pub is_based : (last : ℕ) (rest : List (List ℕ)) → AllMay (format K).after (may (format K) (format_laws K L) last rest) f.parts.base.number (all_frames f.parts) → turn_number (format K) f ≤ last
        → (image : List ℕ) → disk.now image → IsBased (fitted (format K) (format_laws K L) (may (format K) (format_laws K L) last rest)) last image
    is_based last rest fit low image now =
        let C = format K in
        let m = may (format K) (format_laws K L) last rest in
        based_more (fitted C (format_laws K L) m) (turn_number C f) last image low
        (file_based (fitted C (format_laws K L) m) (fitted_laws C (format_laws K L) m) f s image (file_up C (format_laws K L) m f s fit image (is_file image now)))

    pub survives : (start : Plain J) (all : List (List ℕ)) → Replays (format K) start all s → (image : List ℕ) → disk.now image → Survives (format K) start all (length all) image
    survives start all leads image now = record {
      count = length all;
      at_least = omega arith;
      at_most = omega arith;
      state = s;
      replays = subst (λ l. Replays (format K) start l s) (sym (take_all (length all) all (omega arith))) leads;
      recovered = recovers (format K) (format_laws K L) f.head image f.parts s (is_file image now).store;
    }

    -- a file's last turn comes no later than its state
    pub turned_before : turn_number (format K) f ≤ s.number
    turned_before =
        let state = on.read.file.store.state in
        numbers_rise (format K) (format_laws K L) f.parts.middle.number f.parts.frames s.number (numbers_of (format K) (format_laws K L) f.parts.middle f.parts.frames s state)

-- a log's image beside one of a file that has its frames
pub covered : {J : Type 0} (K : Kind J) (L : Laws K) (start : Plain J) (all : List (List ℕ)) (n kept : ℕ) (behind : Plain J) (log : Log) (logged filed : List ℕ) → HasKept K start all kept behind log → kept ≤ n
    → Holds logged log → Survives (format K) start all n filed
    → IsFitted (format K) (format_laws K L) (may (format K) (format_laws K L) (last_number log) (drop kept all)) (last_number log) filed → AreCovered K start all n logged filed
covered K L start all n kept behind log logged filed has no_later holds survives fit = record {
  log = log;
  holds = holds;
  kept = kept;
  behind = behind;
  keeps = has;
  no_later = no_later;
  survives = survives;
  reads = has_behind K L start all n kept behind log has no_later filed survives fit;
}
