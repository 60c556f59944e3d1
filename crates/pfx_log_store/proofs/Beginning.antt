-- A store that was opened with the frames behind its log can join it.
use Rattle.std.proofs.Common.{◌≡◌, ⊎_elim, ℕ, ◌≤◌, List, [], ◌++◌, length, drop, sym, ◌∙◌, ap, subst, arith, take, append-nil, true, Ok}
use Rattle.std.proofs.lemmas.List.{take-append-drop, take_all}
use Rattle.std.proofs.Math.Seq.{drop-length}
use Rattle.std.proofs.lemmas.Bool.{cases_lt}
use Rattle.pfx_disk.specs.Disk.{View, Only}
use Rattle.pfx_disk.specs.declared.device.Disk.{Ghosts as DiskGhosts}
use Rattle.pfx_store_format.specs.Format.{format}
use Rattle.pfx_store_format.proofs.Keeping.{format_laws}
use Rattle.pfx_store_header.specs.Headers.{Header}
use Rattle.pfx_jobs.specs.Kind.{Kind, Laws}
use Rattle.pfx_log.specs.Files.{IsOpen}
use Rattle.pfx_log.specs.Holding.{Holds}
use Rattle.pfx_log.specs.Logs.{Log, block_of, last_number, with_block}
use Rattle.pfx_log.specs.declared.file.LogFile.{LogFile}
use Rattle.pfx_log.proofs.More.{last_number_more}
use Rattle.pfx_machine.specs.Plain.{Plain}
use Rattle.pfx_store_image.specs.Codec.{Codec}
use Rattle.pfx_store_image.specs.Recovery.{Found, found}
use Rattle.pfx_store_image.specs.Store.{IsStore, Numbers, Parts, Replays}
use Rattle.pfx_store_image.proofs.Answers.{ok_same}
use Rattle.pfx_store_image.proofs.Recovers.{finds, recovers}
use Rattle.pfx_store_image.proofs.Runs.{numbers_of, numbers_rise}
use Rattle.pfx_store_image.proofs.Stands.{found_stands}
use Rattle.pfx_segment.specs.Frames.{size}
use Rattle.pfx_store.specs.Standing.{Stands}
use Rattle.pfx_store.specs.Stores.{PlainStore}
use Rattle.pfx_store_file.specs.Holding.{Survives}
use Rattle.pfx_log_store.specs.Behind.{StandBehind, all_frames}
use Rattle.pfx_log_store.specs.Covering.{AreCovered, HasBehind, in_a_row}
use Rattle.pfx_log_store.specs.Fitting.{FitsIn}
use Rattle.pfx_log_store.specs.Opening.{GoOn, IsOpenBehind}
use Rattle.pfx_log_store.specs.Working.{CanJoin, IsKeptUpTo}
use Rattle.pfx_log_store.proofs.Fitted.{all_numbers, first_numbers}
use Rattle.pfx_log_store.proofs.Going.{frame_filled, more_behind, row_size, stand_same}
use Rattle.pfx_log_store.proofs.Kept.{has_kept_all, kept_all}
use Rattle.pfx_log_store.proofs.Rows.{replays_joined}

-- with the log as it was
module _ {J : Type 0} (K : Kind J) (laws : Laws K) (start : Plain J) (all : List (List ℕ)) (held : Log) (bytes : List ℕ) (go : GoOn K start all held bytes) where
  abbrev pub survives_all : Survives (format K) start all (length all) bytes
  survives_all = record {
    count = length all;
    at_least = omega arith;
    at_most = omega arith;
    state = go.reads.file.state;
    replays = subst (λ l. Replays (format K) start l go.reads.file.state) (take-append-drop go.kept all ∙ sym (take_all (length all) all (omega arith)))
        (replays_joined (format K) start go.behind go.reads.file.state (take go.kept all) (drop go.kept all) go.keeps.leads go.leads);
    recovered = recovers (format K) (format_laws K laws) go.reads.file.head bytes go.reads.file.parts go.reads.file.state (found_stands (format K) (format_laws K laws) go.reads.file bytes go.reads.found);
  }

  pub covered_held : (logged : List ℕ) → Holds logged held → AreCovered K start all (length all) logged bytes
  covered_held logged holds = record {
    log = held;
    holds = holds;
    kept = go.kept;
    behind = go.behind;
    keeps = go.keeps;
    no_later = go.keeps.few;
    survives = survives_all;
    reads = subst (λ l. HasBehind K (last_number held) (drop go.kept l) bytes) (sym (take_all (length all) all (omega arith))) go.reads;
  }

module _ {D L J : Type 0} {l : DiskGhosts L} (K : Kind J) (laws : Laws K) (view : D → View) (start : Plain J) (all : List (List ℕ)) (held : Log) (bytes : List ℕ) (store : PlainStore D J) (file : LogFile L l) (frames : List ℕ)
    (opened : IsOpenBehind K view bytes file.place.last store frames) (go : GoOn K start all held bytes) (is_open : IsOpen held file) where
  abbrev C : Codec Header (Plain J)
  C = format K

  one_file : go.reads.file ≡ opened.file
  one_file = ok_same _ _ (sym go.reads.found ∙ opened.found)

  stand : StandBehind (format K) opened.file.parts.base.number (all_frames opened.file.parts) (last_number held) (drop go.kept all)
  stand = subst (λ (t : Found Header (Plain J)). StandBehind (format K) t.parts.base.number (all_frames t.parts) (last_number held) (drop go.kept all)) one_file go.reads.stand

  copied : frames ≡ in_a_row (drop go.kept all)
  copied =
      let behind = opened.behind in
      let there = subst (λ n. StandBehind (format K) opened.file.parts.base.number (all_frames opened.file.parts) n behind.0) is_open.end.last behind.1 in
      behind.2 ∙ ap in_a_row (stand_same C (format_laws K laws) opened.file.parts.base.number (all_frames opened.file.parts) (last_number held) behind.0 (drop go.kept all) there stand)

  abbrev kept : IsKeptUpTo K start all held frames store.state
  kept = record {
    kept = go.kept;
    behind = go.behind;
    keeps = go.keeps;
    copied = copied;
    leads = subst (λ u. Replays (format K) go.behind (drop go.kept all) u) (ap (λ (t : Found Header (Plain J)). t.state) one_file ∙ opened.state) go.leads;
  }

  of_store : IsStore (format K) opened.file.head opened.file.parts opened.file.state bytes
  of_store = found_stands C (format_laws K laws) opened.file bytes opened.found

  reads_in : (log : Log) (rest : List (List ℕ)) → StandBehind (format K) opened.file.parts.base.number (all_frames opened.file.parts) (last_number log) rest → HasBehind K (last_number log) rest (view store.file.disk).contents
  reads_in log rest is = record { file = opened.file; found = ap (found (format K)) opened.contents ∙ opened.found; stand = is }

  only : Only (view store.file.disk).contents (view store.file.disk)
  only = subst (λ x. Only x (view store.file.disk)) (sym opened.contents) opened.only

  turned_in : (log : Log) → opened.file.parts.middle.number ≤ last_number log → (f : Found Header (Plain J)) → found (format K) (view store.file.disk).contents ≡ Ok f → f.parts.middle.number ≤ last_number log
  turned_in log low f is = subst (λ (t : Found Header (Plain J)). t.parts.middle.number ≤ last_number log) (ok_same _ _ (sym opened.found ∙ ap (found (format K)) (sym opened.contents) ∙ is)) low

  -- the frames lie in the segment that frames go to, so that the last turn comes no later than the log's end
  module _ (stands : Stands K store.file.places store.state store.spelled (view store.file.disk)) (fits : FitsIn (length frames) store.file.places) where
    same_parts : stands.parts ≡ opened.file.parts
    same_parts =
        let here = (stands.holds.images (view store.file.disk).contents stands.holds.honest.here).store in
        ap (λ (t : Found Header (Plain J)). t.parts) (ok_same _ _ (sym (finds C (format_laws K laws) stands.header (view store.file.disk).contents stands.parts store.state here) ∙ ap (found (format K)) opened.contents ∙ opened.found))

    few : size (drop go.kept all) ≤ size opened.file.parts.frames
    few =
        let gate = stands.holds.gate in
        let end = stands.holds.end in
        let long = stands.holds.fits.segment in
        let same : size stands.parts.frames ≡ size opened.file.parts.frames = ap (λ (q : Parts (Plain J)). size q.frames) same_parts in
        let row : length frames ≡ size (drop go.kept all) = ap length copied ∙ row_size (drop go.kept all) in
        omega (arith, fits, gate, end, long, same, row)

    low : opened.file.parts.middle.number ≤ last_number held
    low = ⊎_elim
        (λ past. absurd (let more = more_behind C (format_laws K laws) frame_filled opened.file.parts.base.number opened.file.parts.middle.number (last_number held) opened.file.parts.before stand.front opened.file.parts.frames (drop go.kept all)
        (first_numbers C (format_laws K laws) (λ n frame. true) opened.file.head opened.file.parts opened.file.state bytes opened.file.parts.turned of_store.other) stand.reaches stand.whole past in let at_most = few in omega (arith, more, at_most)))
        (λ there. there) (cases_lt (last_number held) opened.file.parts.middle.number)

    pub can_fit : CanJoin K start all held view store file frames
    can_fit = record {
      whole = opened.whole;
      honest = opened.honest;
      only = only;
      opened = is_open;
      kept = kept;
      reads = reads_in held (drop go.kept all) stand;
      turned = turned_in held low;
    }

  -- the log gets the frames first
  module _ (first : ℕ) where
    abbrev more : Log
    more = with_block held (block_of first store.state.number frames)

    last_is : last_number (with_block held (block_of first store.state.number frames)) ≡ opened.file.state.number
    last_is = last_number_more held (block_of first store.state.number frames) ∙ ap (λ (u : Plain J). u.number) (sym opened.state)

    stand_all : StandBehind (format K) opened.file.parts.base.number (all_frames opened.file.parts) (last_number (with_block held (block_of first store.state.number frames))) (drop (length all) all)
    stand_all = record {
      front = all_frames opened.file.parts;
      whole = sym (append-nil (all_frames opened.file.parts)) ∙ ap (λ l. all_frames opened.file.parts ++ l) (sym (drop-length all));
      reaches = subst (λ m. Numbers (format K) opened.file.parts.base.number (all_frames opened.file.parts) m) (sym last_is)
          (all_numbers C (format_laws K laws) (λ n frame. true) opened.file.head opened.file.parts opened.file.state bytes of_store);
    }

    pub can_catch_up : (then_file : LogFile L l) → IsOpen (with_block held (block_of first store.state.number frames)) then_file → CanJoin K start all (with_block held (block_of first store.state.number frames)) view store then_file []
    can_catch_up then_file then_open = record {
      whole = opened.whole;
      honest = opened.honest;
      only = only;
      opened = then_open;
      kept = kept_all K laws start all held frames store.state kept first;
      reads = reads_in more (drop (length all) all) stand_all;
      turned = turned_in more (let rise = numbers_rise C (format_laws K laws) opened.file.parts.middle.number opened.file.parts.frames opened.file.state.number (numbers_of C (format_laws K laws) opened.file.parts.middle opened.file.parts.frames opened.file.state of_store.state) in
          let same = last_is in omega (arith, rise, same));
    }

    pub covered_more : (logged : List ℕ) → Holds logged (with_block held (block_of first store.state.number frames)) → AreCovered K start all (length all) logged bytes
    covered_more logged holds = record {
      log = more;
      holds = holds;
      kept = length all;
      behind = store.state;
      keeps = has_kept_all K laws start all held frames store.state kept first;
      no_later = omega arith;
      survives = survives_all K laws start all held bytes go;
      reads = subst (λ l. HasBehind K (last_number (with_block held (block_of first store.state.number frames))) (drop (length all) l) bytes) (sym (take_all (length all) all (omega arith)))
          (record { file = opened.file; found = opened.found; stand = stand_all });
    }
