-- What a keeper says of a store's calls, of a call that isn't made, and of what has failed.
use Rattle.std.specs.Prelude.{◌≡◌, ◌⊎◌, ◌+◌, ℕ, List, [], ◌∷◌, ◌++◌, length, Bool, true, false, Option, None, Some, Result, Ok, Err, refl}
use Rattle.std.proofs.Common.{sym, ◌∙◌, ap, subst, arith, inl, inr, length-append}
use Rattle.std.proofs.lemmas.Bool.{true≢false}
use Rattle.std.proofs.lemmas.List.{take-append-le}
use Rattle.pfx_disk.specs.Disk.{View, IsHonest}
use Rattle.pfx_fault.specs.declared.fields.Cause.{Cause}
use Rattle.pfx_fault.specs.declared.fields.Cause.TheVariants as cause
use Rattle.pfx_store_format.specs.Format.{format}
use Rattle.pfx_jobs.specs.Kind.{Kind}
use Rattle.pfx_machine.specs.Plain.{Plain}
use Rattle.pfx_record.specs.Records.{Recorded}
use Rattle.pfx_store_image.proofs.Answers.{err_same, ok_same}
use Rattle.pfx_store_image.specs.Store.{Replays}
use Rattle.pfx_store.specs.Keepers.{IsKeeping, Keeps, KeepsTending}
use Rattle.pfx_store.specs.Marks.{AreKept, Covers, IsKept, marked}
use Rattle.pfx_store.specs.Stores.{PlainStore}
use Rattle.pfx_store.specs.Working.{Commits, IsCall, MovesBy, Tends}
use Rattle.pfx_store.specs.declared.appending.Mark.{Mark}
use Rattle.pfx_store_file.specs.Holding.{KeepsAll, Survives}
use Rattle.pfx_store_file.specs.Tending.{TakesFrame, append_calls, calls_of, next_step}
use Rattle.pfx_store_file.specs.declared.checkpoint.Tended.{Tended}
use Rattle.pfx_store_file.specs.declared.faults.StoreFault.{StoreFault}
use Rattle.pfx_store_file.specs.declared.faults.StoreFault.TheVariants as fault
use Rattle.pfx_log_store.specs.Working.{failure_by}

-- ---- what has failed

pub store_whole : (broken log_broken stopped : Bool) → failure_by broken log_broken stopped ≡ None → broken ≡ false
store_whole true log_broken stopped none = cc
store_whole false log_broken stopped none = refl

pub log_whole : (broken log_broken stopped : Bool) → failure_by broken log_broken stopped ≡ None → (log_broken ≡ false) × (stopped ≡ false)
log_whole true log_broken stopped none = cc
log_whole false true stopped none = cc
log_whole false false true none = cc
log_whole false false false none = (refl, refl)

pub none_failed : (broken log_broken stopped : Bool) → broken ≡ false → log_broken ≡ false → stopped ≡ false → failure_by broken log_broken stopped ≡ None
none_failed false false false whole log goes = refl
none_failed true log_broken stopped whole log goes = absurd (true≢false whole)
none_failed false true stopped whole log goes = absurd (true≢false log)
none_failed false false true whole log goes = absurd (true≢false goes)

pub store_failed : (broken log_broken stopped : Bool) → broken ≡ true → failure_by broken log_broken stopped ≡ Some cause.Device
store_failed true log_broken stopped is = refl
store_failed false log_broken stopped is = absurd (true≢false (sym is))

pub log_failed : (broken log_broken stopped : Bool) → broken ≡ false → stopped ≡ true → failure_by broken log_broken stopped ≡ Some cause.Log
log_failed true log_broken stopped whole is = absurd (true≢false whole)
log_failed false true stopped whole is = refl
log_failed false false true whole is = refl
log_failed false false false whole is = absurd (true≢false (sym is))

pub no_memory : (broken log_broken stopped : Bool) → failure_by broken log_broken stopped ≡ Some cause.Memory → ⊥
no_memory true log_broken stopped is = cc
no_memory false true stopped is = cc
no_memory false false true is = cc
no_memory false false false is = cc

-- ---- calls

some_same : (a b : Cause) → Some a ≡ Some b → a ≡ b
some_same a b is = cc

module _ {D J T : Type 0} (view : D → View) where
  -- one that is made
  pub called_ok : (old new : PlainStore D J) (was is : Option Cause) (v : T) (calls : ℕ) → IsCall view old new (Ok v) calls → was ≡ None → is ≡ None → IsKeeping view old new was is (Ok v) calls
  called_ok old new was is v calls call before after = record {
    whole = (before, after);
    fails = tt;
    stays = λ cause failed. absurd (let e = sym before ∙ failed in cc);
    device = λ none err. cc;
    log = λ err. cc;
    no_memory = λ err. cc;
    takes = record { ok = λ here. call.takes.ok refl; later = call.takes.later; at_most = call.takes.at_most; no_fewer = call.takes.no_fewer };
    honest = call.honest;
    parts = call.parts;
  }

  pub called_err : (old new : PlainStore D J) (was is : Option Cause) (e : StoreFault) (calls : ℕ) → IsCall {T = T} view old new (Err e) calls → was ≡ None → old.file.broken ≡ false
      → (new.file.broken ≡ true → is ≡ Some cause.Device) → IsKeeping {T = T} view old new was is (Err cause.Device) calls
  called_err old new was is fault.Device calls call none whole breaks = record {
    whole = tt;
    fails = breaks (call.works.breaks refl);
    stays = λ cause failed. absurd (let e = sym none ∙ failed in cc);
    device = λ before err. call.works.device refl;
    log = λ err. cc;
    no_memory = λ err. cc;
    takes = record { ok = λ here. absurd (true≢false (sym here)); later = call.takes.later; at_most = call.takes.at_most; no_fewer = call.takes.no_fewer };
    honest = call.honest;
    parts = call.parts;
  }
  called_err old new was is fault.Broken calls call none whole breaks = absurd (true≢false (sym (call.works.broken.0 refl) ∙ whole))
  called_err old new was is fault.NoRoom calls call none whole breaks = absurd (call.roomy refl)

  -- one that isn't
  pub not_called : (store : PlainStore D J) (was is : Option Cause) (why : Cause) (calls : ℕ) → is ≡ Some why → (was ≡ None → why ≡ cause.Log) → (was ≡ None) ⊎ (was ≡ Some why)
      → (is ≡ Some cause.Memory → ⊥) → IsKeeping {T = T} view store store was is (Err why) calls
  not_called store was is why calls fails log still sure = record {
    whole = tt;
    fails = fails;
    stays = λ other failed. (ap Err (again still other failed), refl);
    device = λ before err. absurd (let e = sym (log before) ∙ err_same why cause.Device err in cc);
    log = λ err. refl;
    no_memory = λ err. sure (fails ∙ ap Some (err_same why cause.Memory err));
    takes = record { ok = λ here. absurd (true≢false (sym here)); later = omega arith; at_most = omega arith; no_fewer = omega arith };
    honest = (λ h. h, λ h. h);
    parts = refl;
  }
    where
      again : (was ≡ None) ⊎ (was ≡ Some why) → (other : Cause) → was ≡ Some other → why ≡ other
      again (inl none) other failed = absurd (let e = sym none ∙ failed in cc)
      again (inr before) other failed = some_same why other (sym before ∙ failed)

-- ---- what survives of frames, and the marks, if there may be a frame more

module _ {J : Type 0} (K : Kind J) (start : Plain J) (all : List (List ℕ)) (frame : List ℕ) where
  longer : length (all ++ frame ∷ []) ≡ length all + 1
  longer = length-append all (frame ∷ [])

  survives_more : (n : ℕ) (image : List ℕ) → Survives (format K) start all n image → Survives (format K) start (all ++ frame ∷ []) n image
  survives_more n image v =
      let most = v.at_most in
      record {
        count = v.count;
        at_least = v.at_least;
        at_most = omega (arith, most, longer);
        state = v.state;
        replays = subst (λ (l : List (List ℕ)). Replays (format K) start l v.state) (sym (take-append-le v.count all (frame ∷ []) most)) v.replays;
        recovered = v.recovered;
      }

  keeps_more : (disk : View) → KeepsAll (format K) start all (all ++ frame ∷ []) disk disk
  keeps_more disk c n le before image here = survives_more n image (before image here)

  mark_more : (mark : Mark) (disk : View) → IsKept K start all mark disk → IsKept K start (all ++ frame ∷ []) mark disk
  mark_more mark disk kept =
      let few = kept.few in
      record {
        count = kept.count;
        few = omega (arith, few, longer);
        state = kept.state;
        leads = subst (λ (l : List (List ℕ)). Replays (format K) start l kept.state) (sym (take-append-le kept.count all (frame ∷ []) few)) kept.leads;
        number = kept.number;
        past = kept.past;
        images = λ image here. survives_more kept.count image (kept.images image here);
      }

  marks_more : (marks : List Mark) (disk : View) → AreKept K start all marks disk → AreKept K start (all ++ frame ∷ []) marks disk
  marks_more [] disk kept = tt
  marks_more (mark ∷ marks) disk kept = (mark_more mark disk kept.0, marks_more marks disk kept.1)

-- ---- a batch

module _ {D J : Type 0} (view : D → View) (K : Kind J) (records : List (Recorded J)) (frame : List ℕ) where
  -- what an append says of the marks
  abbrev MarksOn : PlainStore D J → PlainStore D J → Result Mark StoreFault → Type 0
  MarksOn old new result = IsHonest (view old.file.disk) → (start : Plain J) (all : List (List ℕ)) (marks : List Mark)
      → Covers K start all marks old.file.broken old.state (view old.file.disk)
      → Covers K start (all ++ frame ∷ []) (marked result marks) new.file.broken new.state (view new.file.disk)

  pub batch_kept : (old new : PlainStore D J) (was is : Option Cause) (mark : Mark) → IsCall view old new (Ok mark) (append_calls (length frame) old.file.places) → MovesBy {E = StoreFault} K records (Ok mark) old.state new.state
      → TakesFrame (length frame) old.file.places new.file.places → (mark.number ≡ new.state.number) × (mark.clock ≡ (view new.file.disk).clock) → MarksOn old new (Ok mark)
      → (IsHonest (view old.file.disk) → Commits {E = StoreFault} K old.state frame (Ok mark) (view old.file.disk) (view new.file.disk)) → was ≡ None → is ≡ None → Keeps view K records frame old new was is (Ok mark)
  batch_kept old new was is mark call state place is_mark marks commits before after = record {
    call = called_ok view old new was is mark _ call before after;
    state = record { moved = state.moved; same = tt };
    place = place;
    mark = is_mark;
    marks = marks;
    commits = λ honest. (let c = commits honest in record { keeps = c.keeps; acknowledged = c.acknowledged });
  }

  pub batch_failed : (old new : PlainStore D J) (was is : Option Cause) (e : StoreFault) → IsCall {T = Mark} view old new (Err e) (append_calls (length frame) old.file.places) → MovesBy {T = Mark} K records (Err e) old.state new.state
      → MarksOn old new (Err e) → (IsHonest (view old.file.disk) → Commits {T = Mark} K old.state frame (Err e) (view old.file.disk) (view new.file.disk)) → was ≡ None → old.file.broken ≡ false
      → (new.file.broken ≡ true → is ≡ Some cause.Device) → Keeps view K records frame old new was is (Err cause.Device)
  batch_failed old new was is e call state marks commits none whole breaks = record {
    call = called_err view old new was is e _ call none whole breaks;
    state = record { moved = tt; same = state.same };
    place = tt;
    mark = tt;
    marks = λ honest start all marks_before covers. (marks honest start all marks_before covers).marks;
    commits = λ honest. (let c = commits honest in record { keeps = c.keeps; acknowledged = c.acknowledged });
  }

  pub batch_left : (store : PlainStore D J) (was is : Option Cause) (why : Cause) → is ≡ Some why → (was ≡ None → why ≡ cause.Log) → (was ≡ None) ⊎ (was ≡ Some why) → (is ≡ Some cause.Memory → ⊥)
      → Keeps view K records frame store store was is (Err why)
  batch_left store was is why fails log still sure = record {
    call = not_called view store was is why _ fails log still sure;
    state = record { moved = tt; same = refl };
    place = tt;
    mark = tt;
    marks = λ honest start all marks covers. marks_more K start all frame marks (view store.file.disk) covers.marks;
    commits = λ honest. record { keeps = λ start all replays. keeps_more K start all frame (view store.file.disk); acknowledged = λ start all replays. tt };
  }

-- ---- a step of the checkpoint

module _ {D J : Type 0} (view : D → View) (K : Kind J) where
  abbrev MarksStay : PlainStore D J → PlainStore D J → Type 0
  MarksStay old new = IsHonest (view old.file.disk) → (start : Plain J) (all : List (List ℕ)) (marks : List Mark)
      → Covers K start all marks old.file.broken old.state (view old.file.disk) → Covers K start all marks new.file.broken new.state (view new.file.disk)

  abbrev KeepsOn : PlainStore D J → PlainStore D J → Type 0
  KeepsOn old new = IsHonest (view old.file.disk) → (start : Plain J) (all : List (List ℕ)) → Replays (format K) start all old.state
      → KeepsAll (format K) start all all (view old.file.disk) (view new.file.disk)

  pub step_taken : (old new : PlainStore D J) (was is : Option Cause) (tended : Tended) → IsCall view old new (Ok tended) (calls_of (next_step old.file.places)) → new.state ≡ old.state → Tends {E = StoreFault} old new (Ok tended)
      → MarksStay old new → KeepsOn old new → was ≡ None → is ≡ None → KeepsTending view K old new was is (Ok tended)
  step_taken old new was is tended call state tends marks keeps before after = record {
    call = called_ok view old new was is tended _ call before after;
    state = state;
    tends = record {
      step = tends.step;
      stays = tends.stays;
      nothing = tends.nothing;
      piece = λ here. tends.piece (ap Ok (ok_same tended _ here));
      nearer = tends.nearer;
      fewer = tends.fewer;
    };
    marks = marks;
    keeps = keeps;
  }

  pub step_failed : (old new : PlainStore D J) (was is : Option Cause) (e : StoreFault) → IsCall {T = Tended} view old new (Err e) (calls_of (next_step old.file.places)) → new.state ≡ old.state → Tends old new (Err e)
      → MarksStay old new → KeepsOn old new → was ≡ None → old.file.broken ≡ false → (new.file.broken ≡ true → is ≡ Some cause.Device) → KeepsTending view K old new was is (Err cause.Device)
  step_failed old new was is e call state tends marks keeps none whole breaks = record {
    call = called_err view old new was is e _ call none whole breaks;
    state = state;
    tends = record { step = tt; stays = tends.stays; nothing = tends.nothing; piece = λ here. cc; nearer = λ on. tt; fewer = tt };
    marks = marks;
    keeps = keeps;
  }

  pub step_left : (store : PlainStore D J) (was : Option Cause) (why : Cause) → was ≡ Some why → (was ≡ Some cause.Memory → ⊥) → KeepsTending view K store store was was (Err why)
  step_left store was why failed sure = record {
    call = not_called view store was was why _ failed (λ none. absurd (let e = sym none ∙ failed in cc)) (inr failed) sure;
    state = refl;
    tends = record {
      step = tt;
      stays = record { segment = refl; gate = refl; end = refl };
      nothing = λ over. (refl, refl);
      piece = λ here. cc;
      nearer = λ on. tt;
      fewer = tt;
    };
    marks = λ honest start all marks covers. covers;
    keeps = λ honest start all replays c n le before. before;
  }
