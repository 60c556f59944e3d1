-- A step of the checkpoint and an append, beside a log.
use Rattle.std.proofs.Common.{◌≡◌, ⊎_elim, ℕ, ◌+◌, ◌*◌, ◌≤◌, ◌<◌, List, [], ◌∷◌, ◌++◌, length, drop, refl, sym, ◌∙◌, ap, subst, arith, append-nil, Bool, true, false, Result, Some}
use Rattle.std.proofs.lemmas.List.{drop-append-le}
use Rattle.std.specs.Prelude.{OnOk, IsOk, if◌then◌else◌}
use Rattle.std.proofs.Math.Nat.{le-max_right}
use Rattle.std.proofs.lemmas.Bool.{lt-ltb, true≢false}
use Rattle.std.proofs.lemmas.Option.{same_Some}
use Rattle.pfx_events_base.specs.Bases.{HasBase, IsBased, IsNextFrame, IsOn, KeepsBase, Spells, turn_number}
use Rattle.pfx_events_base.proofs.Keeping.{append_base, append_number, tend_base, tend_number}
use Rattle.pfx_checkpoint.specs.Whole.{whole_bytes}
use Rattle.pfx_disk.specs.CallsMade.{HasMade}
use Rattle.pfx_disk.specs.Disk.{View, IsHonest}
use Rattle.pfx_disk.specs.Stop.{contents_after}
use Rattle.pfx_disk.specs.declared.device.Disk.{Ghosts as DiskGhosts}
use Rattle.pfx_disk.specs.declared.gates.TheConstants.{GATE_OPEN}
use Rattle.pfx_events.proofs.Frames.{frame_led, frame_room, frame_there, opens_here, start_is}
use Rattle.pfx_events.proofs.Known.{IsHeld, middle_is, spelled_read, state_is}
use Rattle.pfx_store_format.specs.Format.{format, layout}
use Rattle.pfx_store_format.specs.Frames.{state_after}
use Rattle.pfx_store_format.proofs.Keeping.{format_laws}
use Rattle.pfx_store_header.specs.Headers.{Header}
use Rattle.pfx_jobs.specs.Kind.{Kind, Laws}
use Rattle.pfx_jobs.specs.declared.job.Job.{Ghosts as JobGhosts}
use Rattle.pfx_log.specs.Files.{IsOpen}
use Rattle.pfx_log.specs.Logs.{Log, last_number}
use Rattle.pfx_machine.specs.Outcome.{outcome}
use Rattle.pfx_machine.specs.Plain.{Plain}
use Rattle.pfx_machine.specs.declared.command.Command.{Command}
use Rattle.pfx_record.specs.Batches.{PlainBatch, batch_bytes}
use Rattle.pfx_store_image.specs.Codec.{Codec}
use Rattle.pfx_store_image.specs.Layout.{segment_end}
use Rattle.pfx_store_image.specs.Store.{Numbers, Replays}
use Rattle.pfx_store_image.proofs.Runs.{numbers_of}
use Rattle.pfx_record_redo.specs.Applying.{applied}
use Rattle.pfx_record_redo.proofs.Outcomes.{records_outcome}
use Rattle.pfx_store.specs.Files.{FileOf, HasFile, appended, appending, behind_of, spelled, start_of, tending}
use Rattle.pfx_store.specs.Groups.{frame_of}
use Rattle.pfx_store.specs.Working.{Commits, Makes}
use Rattle.pfx_store.proofs.Behinds.{behind_long}
use Rattle.pfx_store_file.specs.Acts.{appended_file, gate_of, has_room, tended_file}
use Rattle.pfx_store_file.specs.Fitting.{HasRoom}
use Rattle.pfx_store_file.specs.Holding.{KeepsAll}
use Rattle.pfx_store_file.specs.declared.faults.StoreFault.{StoreFault}
use Rattle.pfx_store_file.proofs.Ends.{tended_kept}
use Rattle.pfx_log_store.specs.Behind.{StandBehind, all_frames}
use Rattle.pfx_log_store.specs.Covering.{HasKept}
use Rattle.pfx_log_store.specs.Working.{Covers, IsBatchOf, IsLogged, IsReady, KeepsLogged}
use Rattle.pfx_log_store.specs.declared.beside.LoggedStore.{LoggedStore}
use Rattle.pfx_log_store.proofs.Expected.{may, next_may, numbers_more}
use Rattle.pfx_log_store.proofs.Fitted.{AllMay, IsFitted, apply_up, fitted, fitted_down, fitted_laws, on_up}
use Rattle.pfx_log_store.proofs.Found.{may_stand, stand_up}
use Rattle.pfx_log_store.proofs.Images.{covered, is_based, survives}
use Rattle.pfx_log_store.proofs.Kept.{all_lead, has_kept_more, kept_as, kept_on}
use Rattle.pfx_log_store.proofs.Logging.{on_ok₂, on_ok₃, on_ok_if}

module _ {D L J : Type 0} {d : DiskGhosts D} {l : DiskGhosts L} {k : JobGhosts J} (K : Kind J) (laws : Laws K)
    (only_d : (disk : D) (image : List ℕ) → (d.view disk).since (d.view disk).clock image → (d.view disk).now image)
    (only_l : (disk : L) (image : List ℕ) → (l.view disk).since (l.view disk).clock image → (l.view disk).now image)
    (start : Plain J) (all : List (List ℕ)) (log : Log) (old new : LoggedStore D L J d l k) (is : IsLogged K start all log old) (same_log : new.log ≡ old.log) where
  abbrev s : Plain J
  s = old.store.state

  abbrev a : View
  a = d.view old.store.file.disk

  abbrev b : View
  b = d.view new.store.file.disk

  abbrev turn : ℕ
  turn = turn_number (format K) is.file

  leads : Replays (format K) start all s
  leads = all_lead K laws start all log old.copy.items s is.kept

  spells : Spells (format K) is.file (spelled K is.file)
  spells turned = spelled_read K laws is.file.head is.file.parts.middle (middle_is K laws is.file.head is.file.parts s (contents_after is.on.start is.on.done) is.on.read.file.store)

  abbrev C : Codec Header (Plain J)
  C = format K

  abbrev last : ℕ
  last = last_number log

  abbrev behind : List (List ℕ)
  behind = drop is.kept.kept all

  numbers : Numbers (format K) (last_number log) (drop is.kept.kept all) old.store.state.number
  numbers = subst (λ m. Numbers (format K) m (drop is.kept.kept all) old.store.state.number) is.kept.keeps.number (numbers_of (format K) (format_laws K laws) is.kept.behind (drop is.kept.kept all) s is.kept.leads)

  -- calls that keep of the file only such frames as are expected, and what survived
  module _ (more : List (List ℕ)) (others : List (List ℕ)) (whole : drop is.kept.kept more ≡ drop is.kept.kept all ++ others) where
    abbrev these : ℕ → List ℕ → Bool
    these = may (format K) (format_laws K laws) (last_number log) (drop is.kept.kept more)

    abbrev F : Codec Header (Plain J)
    F = fitted (format K) (format_laws K laws) (may (format K) (format_laws K laws) (last_number log) (drop is.kept.kept more))

    fits : AllMay (format K).after these is.file.parts.base.number (all_frames is.file.parts)
    fits = may_stand K laws (last_number log) (drop is.kept.kept more) (drop is.kept.kept all) others is.file.parts s.number is.reads numbers whole

    on_fitted : IsOn F is.file (spelled K is.file) s a
    on_fitted = on_up (format K) (format_laws K laws) these is.file s fits (spelled K is.file) a is.on

    before : (image : List ℕ) → a.since a.clock image → IsBased F last image
    before image at = is_based K laws is.file s a is.on (last_number log) (drop is.kept.kept more) fits is.turned image (only_d old.store.file.disk image at)

    module _ (base : KeepsBase F last a b) where
      fitted_since : (filed : List ℕ) → b.since a.clock filed → IsFitted (format K) (format_laws K laws) these last filed
      fitted_since filed since = fitted_down (format K) (format_laws K laws) these last filed (base a.clock (omega arith) before filed since)

      covers_by : HasKept K start more is.kept.kept is.kept.behind log → KeepsAll (format K) start all more a b → Covers K start more (length all) old new
      covers_by has keeps logged filed since_l since_d =
          let few = is.kept.keeps.few in
          covered K laws start more (length all) is.kept.kept is.kept.behind log logged filed has few
          (is.opened.images logged (only_l old.log.disk logged (subst (λ f. (l.view f.disk).since (l.view old.log.disk).clock logged) same_log since_l)))
          (keeps a.clock (length all) (omega arith) (λ image at. survives K laws is.file s a is.on start all leads image (only_d old.store.file.disk image at)) filed since_d)
          (fitted_since filed since_d)

      -- the file afterwards
      reads_by : (g : FileOf J) (t : Plain J) (body : List ℕ) → IsHonest b → a.clock ≤ b.clock → IsOn (format K) g body t b → Numbers (format K) last (drop is.kept.kept more) t.number
          → StandBehind (format K) g.parts.base.number (all_frames g.parts) last (drop is.kept.kept more)
      reads_by g t body honest later on ends =
          let x = contents_after on.start on.done in
          let here : b.since a.clock x = subst (λ image. b.since a.clock image) on.after.contents (honest.counted a.clock b.contents later honest.here) in
          stand_up K laws last (drop is.kept.kept more) x (fitted_since x here) g.head g.parts t on.read.file.store (drop is.kept.kept more) [] (sym (append-nil (drop is.kept.kept more))) ends

  -- A step of the checkpoint.
  module _ {T : Type 0} (result : Result T StoreFault) (acts : Makes d.view old.store new.store result K (λ f. tending K f) (λ f. tended_file (format K) f) (OnOk result)) (same : new.store.state ≡ s) (same_copy : new.copy ≡ old.copy)
      (keeps : KeepsAll (format K) start all all a b) (honest : IsHonest a → IsHonest b) (whole : IsOk result → new.store.file.broken ≡ false) (later : a.clock ≤ b.clock) where
    tends : HasBase (format K) turn (tending K is.file) a b (IsOn (format K) (tended_file (format K) is.file) (spelled K is.file) s b)
    tends = tend_base (format K) (format_laws K laws) is.file s a b (spelled K is.file) spells is.on

    none_more : drop is.kept.kept all ≡ drop is.kept.kept all ++ []
    none_more = sym (append-nil (drop is.kept.kept all))

    tends_fitted : KeepsBase (F all [] none_more) last a b
    tends_fitted = (tend_base (F all [] none_more) (fitted_laws (format K) (format_laws K laws) (these all [] none_more)) is.file s a b (spelled K is.file) spells (on_fitted all [] none_more)).during (acts.between is.file is.has is.honest) last is.turned

    logged_on : new.store.file.broken ≡ false → IsOn (format K) (tended_file (format K) is.file) (spelled K is.file) s b → HasFile K (tended_file (format K) is.file) new.store.file.places new.store.spelled → IsLogged K start all log new
    logged_on unbroken on has = record {
      whole = unbroken;
      honest = honest is.honest;
      file = tended_file (format K) is.file;
      has = has;
      on = subst (λ u. IsOn (format K) (tended_file (format K) is.file) (spelled K (tended_file (format K) is.file)) u b) (sym same)
          (subst (λ body. IsOn (format K) (tended_file (format K) is.file) body s b) (ap (whole_bytes K) (sym (tended_kept (format K) is.file).middle)) on);
      turned = (let low = is.turned in let number = tend_number (format K) is.file in omega (arith, low, number));
      opened = subst (λ f. IsOpen log f) (sym same_log) is.opened;
      kept = kept_as K laws start all log old.copy.items new.copy.items s new.store.state (ap (λ c. c.items) same_copy) same is.kept;
      reads = reads_by all [] none_more tends_fitted (tended_file (format K) is.file) s (spelled K is.file) (honest is.honest) later on numbers;
    }

    pub tend_keeps : KeepsLogged K start all (length all) old new result
    tend_keeps = record {
      logged = on_ok₃ result (on_ok_if result whole) (acts.made is.file is.has is.honest) (acts.file is.file is.has is.honest) (λ unbroken made has. (log, logged_on unbroken (tends.then made) has));
      covered = covers_by all [] none_more tends_fitted is.kept.keeps keeps;
    }

  -- An append.
  module _ {T : Type 0} (result : Result T StoreFault) (batch : PlainBatch J) (H : List (Command J)) (of : IsBatchOf K s H batch) (acts : Makes d.view old.store new.store result K (λ f. appending K f s (batch_bytes K batch)) (λ f. appended K f s (batch_bytes K batch)) (OnOk result))
      (moved : OnOk result (applied K s batch.records ≡ Some new.store.state)) (commits : Commits K s (batch_bytes K batch) result a b) (honest : IsHonest a → IsHonest b) (whole : IsOk result → new.store.file.broken ≡ false)
      (copied : OnOk result (new.copy.items ≡ old.copy.items ++ batch_bytes K batch)) (ready : IsReady (length (batch_bytes K batch)) old) (later : a.clock ≤ b.clock) where
    abbrev t : Plain J
    t = outcome K s H

    abbrev frame : List ℕ
    frame = frame_of K s H

    abbrev more : List (List ℕ)
    more = all ++ frame_of K s H ∷ []

    same_bytes : batch_bytes K batch ≡ frame_of K s H
    same_bytes = ap (batch_bytes K) of.are

    held : IsHeld is.file.head s
    held = state_is K laws is.file.head is.file.parts s (contents_after is.on.start is.on.done) is.on.read.file.store

    led : state_after K s (frame_of K s H) ≡ Some (outcome K s H)
    led = frame_led K laws s H of.some of.few of.may held.state of.accepted

    opens : frame_of K s H ≡ GATE_OPEN ∷ drop 1 (frame_of K s H)
    opens = opens_here K laws s H of.some of.few of.may held.state of.accepted

    small : length (behind_of (frame_of K s H)) + 9 < (layout is.file.head).segment
    small =
        let room : 41 + 2096 * s.ledger.set.workers ≤ s.segment = subst (λ n. 41 + 2096 * s.ledger.set.workers ≤ n) (sym held.of.segment) held.of.room in
        let same = held.of.segment in
        omega (arith, frame_room K laws s H of.some of.few of.may held.state of.accepted room, le-max_right 10 is.file.head.segment, same)

    next : IsNextFrame (format K) is.file s (drop 1 (frame_of K s H)) (start_of s) (outcome K s H)
    next = record {
      frame = frame_there K laws s H of.some of.few of.may held.state of.accepted;
      leads = subst (λ (f : List ℕ). state_after K s f ≡ Some t) opens led;
      small = small;
      starts = start_is K s held.state;
    }

    abbrev g : FileOf J
    g = appended K is.file s (frame_of K s H)

    appends : HasBase (format K) turn (appending K is.file s (frame_of K s H)) a b (IsOn (format K) (appended K is.file s (frame_of K s H)) (spelled K (appended K is.file s (frame_of K s H))) (outcome K s H) b)
    appends = subst (λ f. HasBase (format K) turn (appending K is.file s frame) a b (IsOn (format K) (appended_file (format K) is.file s (behind_of frame) f) (whole_bytes K (appended_file (format K) is.file s (behind_of frame) f).parts.middle) t b))
        (sym opens) (append_base (format K) (format_laws K laws) is.file s a b t (drop 1 frame) (start_of s) (whole_bytes K) next spells is.on)

    one_more : drop is.kept.kept (all ++ frame_of K s H ∷ []) ≡ drop is.kept.kept all ++ frame_of K s H ∷ []
    one_more = drop-append-le is.kept.kept all (frame_of K s H ∷ []) is.kept.keeps.few

    next_fits : these (all ++ frame_of K s H ∷ []) (frame_of K s H ∷ []) one_more s.number (frame_of K s H) ≡ true
    next_fits = next_may (format K) (format_laws K laws) last (drop is.kept.kept (all ++ frame_of K s H ∷ [])) s.number (drop is.kept.kept all) (frame_of K s H) [] numbers one_more

    next_fitted : IsNextFrame (F more (frame_of K s H ∷ []) one_more) is.file s (drop 1 (frame_of K s H)) (start_of s) (outcome K s H)
    next_fitted = record {
      frame = next.frame;
      leads = apply_up (format K) (format_laws K laws) (these more (frame_of K s H ∷ []) one_more) s (GATE_OPEN ∷ drop 1 frame) t
          (subst (λ f. these more (frame_of K s H ∷ []) one_more s.number f ≡ true) opens next_fits) next.leads;
      small = next.small;
      starts = record { long = next.starts.long; number = next.starts.number; closed = next.starts.closed };
    }

    ends_more : Numbers (format K) last (drop is.kept.kept (all ++ frame_of K s H ∷ [])) t.number
    ends_more = subst (λ l. Numbers (format K) last l t.number) (sym one_more) (numbers_more (format K) (format_laws K laws) last (drop is.kept.kept all) s.number frame t.number numbers ((format_laws K laws).after s frame t led))

    makes : Makes d.view old.store new.store result K (λ f. appending K f s (frame_of K s H)) (λ f. appended K f s (frame_of K s H)) (OnOk result)
    makes = subst (λ f. Makes d.view old.store new.store result K (λ file. appending K file s f) (λ file. appended K file s f) (OnOk result)) same_bytes acts

    appends_fitted : KeepsBase (F more (frame_of K s H ∷ []) one_more) last a b
    appends_fitted = (append_base (F more (frame_of K s H ∷ []) one_more) (fitted_laws (format K) (format_laws K laws) (these more (frame_of K s H ∷ []) one_more)) is.file s a b t (drop 1 frame) (start_of s) (whole_bytes K)
        next_fitted spells (on_fitted more (frame_of K s H ∷ []) one_more)).during (makes.between is.file is.has is.honest) last is.turned

    -- the last turn comes no later than the log's end
    low_by : (room : Bool) → (room ≡ false → s.number ≤ last_number log) → (if room then turn else s.number) ≤ last_number log
    low_by true full = is.turned
    low_by false full = full refl

    roomy : HasRoom (length (batch_bytes K batch)) old.store.file.places → has_room (format K) is.file (length (behind_of (frame_of K s H))) ≡ true
    roomy room =
        let gate = is.has.are.are.gate in
        let end = is.has.are.are.end in
        let long = behind_long K laws batch in
        subst (λ f. has_room (format K) is.file (length (behind_of f)) ≡ true) same_bytes
        (lt-ltb (gate_of (format K) is.file + length (behind_of (batch_bytes K batch))) (segment_end ((format K).layout is.file.head) is.file.parts.segment) (omega (arith, room, gate, end, long)))

    turned : turn_number (format K) (appended K is.file s (frame_of K s H)) ≤ last_number log
    turned =
        let low = low_by (has_room (format K) is.file (length (behind_of frame))) (λ full. ⊎_elim
        (λ room. absurd (true≢false (sym (roomy room) ∙ full)))
        (λ up. let number = up.number in let last = is.opened.end.last in omega (arith, number, last)) ready) in
        let number = append_number (format K) is.file s (behind_of frame) frame in
        omega (arith, low, number)

    reached : applied K s batch.records ≡ Some new.store.state → new.store.state ≡ outcome K s H
    reached taken = same_Some new.store.state t (sym (ap (λ (u : PlainBatch J). applied K s u.records) (sym of.are) ∙ taken) ∙ records_outcome K laws s H held.state of.accepted)

    logged_with : new.store.file.broken ≡ false → new.store.state ≡ outcome K s H → new.copy.items ≡ old.copy.items ++ batch_bytes K batch
        → IsOn (format K) (appended K is.file s (frame_of K s H)) (spelled K (appended K is.file s (frame_of K s H))) (outcome K s H) b → HasFile K (appended K is.file s (frame_of K s H)) new.store.file.places new.store.spelled
        → IsLogged K start (all ++ frame_of K s H ∷ []) log new
    logged_with unbroken at copy on has = record {
      whole = unbroken;
      honest = honest is.honest;
      file = g;
      has = has;
      on = subst (λ u. IsOn (format K) g (spelled K g) u b) (sym at) on;
      turned = turned;
      opened = subst (λ f. IsOpen log f) (sym same_log) is.opened;
      kept = kept_as K laws start more log (old.copy.items ++ frame) new.copy.items t new.store.state (copy ∙ ap (λ f. old.copy.items ++ f) same_bytes) at (kept_on K laws start all log old.copy.items s is.kept frame t led);
      reads = reads_by more (frame_of K s H ∷ []) one_more appends_fitted g t (spelled K g) (honest is.honest) later on ends_more;
    }

    there : OnOk result ((new.store.file.broken ≡ false) × (new.store.state ≡ outcome K s H))
    there = on_ok₂ result (on_ok_if result whole) moved (λ unbroken taken. (let both : (new.store.file.broken ≡ false) × (new.store.state ≡ outcome K s H) = (unbroken, reached taken) in both))

    written : OnOk result ((new.copy.items ≡ old.copy.items ++ batch_bytes K batch) × HasMade (appending K is.file s (frame_of K s H)) a b)
    written = on_ok₂ result copied (makes.made is.file is.has is.honest) (λ copy made. (let both : (new.copy.items ≡ old.copy.items ++ batch_bytes K batch) × HasMade (appending K is.file s (frame_of K s H)) a b = (copy, made) in both))

    pub append_keeps : KeepsLogged K start (all ++ frame_of K s H ∷ []) (length all) old new result
    append_keeps = record {
      logged = on_ok₃ result there written (makes.file is.file is.has is.honest) (λ one two has. (log, logged_with one.0 one.1 two.0 (appends.then two.1) has));
      covered = covers_by more (frame_of K s H ∷ []) one_more appends_fitted (has_kept_more K laws start all log frame is.kept.kept is.kept.behind is.kept.keeps)
          (subst (λ f. KeepsAll (format K) start all (all ++ f ∷ []) a b) same_bytes (commits.keeps start all leads));
    }
