-- What survives of frames, as commands.
use Rattle.std.specs.Prelude.{◌≡◌, ◌<◌, ◌≤◌, ℕ, ◌+◌, List, [], ◌∷◌, ◌++◌, length, take, Option, None, Some, Ok, Err, Result, OnOk, OnErr, IfOk, IfErr, IsErrAnd, refl}
use Rattle.std.proofs.Common.{inl, inr, sym, ◌∙◌, ap, arith, length-append, subst}
use Rattle.std.proofs.lemmas.List.{take-append-le}
use Rattle.pfx_disk.specs.Disk.{View, HasFailed, IsHonest}
use Rattle.pfx_fault.specs.declared.fields.Cause.{Cause}
use Rattle.pfx_fault.specs.declared.fields.Cause.TheVariants.{Device}
use Rattle.pfx_record_redo.specs.Applying.{applied}
use Rattle.pfx_store_format.specs.Format.{format}
use Rattle.pfx_store_format.specs.Frames.{state_after}
use Rattle.pfx_store_format.proofs.Batches.{some_same}
use Rattle.pfx_store.specs.Groups.{AreKeptAs, AreRecordsOf, alone, frame_of}
use Rattle.pfx_store.specs.Groups as groups
use Rattle.pfx_store.specs.Keepers.{IsKeeping, Keeps}
use Rattle.pfx_store.specs.Stores.{PlainStore}
use Rattle.pfx_store.specs.Working as working
use Rattle.pfx_store.specs.declared.appending.Mark.{Mark}
use Rattle.pfx_store.proofs.Grouping.{alone_small, batch_led, joined_alone, keeps_groups, length-alone, length-records, records_lead, replays_same, to_frames, to_groups}
use Rattle.pfx_store.proofs.Grouping as grouping
use Rattle.pfx_machine.specs.Plain.{Plain, IsState}
use Rattle.pfx_machine.specs.Batches.{IsBatchable}
use Rattle.pfx_machine.specs.Outcome.{outcome}
use Rattle.pfx_machine.specs.Sessions.{IsAcceptable}
use Rattle.pfx_machine.specs.declared.command.Command.{Command}
use Rattle.pfx_record.specs.Batches.{batch_bytes}
use Rattle.pfx_record.specs.Records as recorded
use Rattle.pfx_store_image.specs.Recovery.{recovered}
use Rattle.pfx_store_image.proofs.Answers.{err_same}
use Rattle.pfx_store_image.specs.Store.{Replays}
use Rattle.pfx_store_file.specs.Holding as frames
use Rattle.pfx_store_file.specs.Tending.{append_calls}
use Rattle.pfx_store_engine.specs.Executing.{IsCommit, IsPut}
use Rattle.pfx_store_engine.specs.Surviving.{Survives, KeepsAll, frames_of}
use Rattle.pfx_store_engine.specs.KeepingLaws.{acceptable_both}
use Rattle.pfx_store_engine.proofs.Commands.{all_in, replays_commands, with_accepted, with_frames, with_group, with_small, with_survives}
use Rattle.pfx_jobs.specs.Kind.{Kind, Laws}

-- commands more, whose frame this is
pub keeps_commands : {J : Type 0} (K : Kind J) (L : Laws K) (start s : Plain J) (H G : List (Command J)) (frame : List ℕ) (old new : View) → IsState start → IsAcceptable K start H → s ≡ outcome K start H → IsAcceptable K s G →
    IsBatchable G → 0 < length G → length G ≤ 16 → frame ≡ frame_of K s G → frames.KeepsAll (format K) start (frames_of K start H) (frames_of K start H ++ frame ∷ []) old new → KeepsAll K start H (H ++ G) old new
keeps_commands {J = J} K L start s H G frame old new h all at accepted may some few is keeps c n le before image here =
    let more : IsAcceptable K start (H ++ G) = acceptable_both K L start H G all (subst (λ (t : Plain J). IsAcceptable K t G) at accepted) in
    let there : frames_of K start H ++ frame ∷ [] ≡ groups.frames_of K start (with_group K L start H G) =
    ap (λ (f : List ℕ). frames_of K start H ++ f ∷ []) (is ∙ ap (λ (t : Plain J). frame_of K t G) at) ∙ sym (with_frames K L start H G) in
    with_survives K L start H G n image some
    (keeps_groups K L start (alone H) (with_group K L start H G) old new h (all_in K start H all) (alone_small H) (with_accepted K L start H G more) (with_small K L start H G may some few)
    (subst (λ (l : List (List ℕ)). frames.KeepsAll (format K) start (frames_of K start H) l old new) there keeps) c n le before image here)

-- commands that come later
pub survives_more : {J : Type 0} (K : Kind J) (s : Plain J) (H G : List (Command J)) (n : ℕ) (image : List ℕ) → Survives K s H n image → Survives K s (H ++ G) n image
survives_more {J = J} K s H G n image v =
    let most = v.at_most in
    let few : v.count ≤ length H = omega (arith, most, length-alone H) in
    record {
      count = v.count;
      at_least = v.at_least;
      at_most = omega (arith, few, length-alone (H ++ G), length-append H G);
      recovered = v.recovered ∙ ap (λ (l : List (Command J)). Ok (outcome K s l)) (joined_alone v.count H ∙ (sym (take-append-le v.count H G few) ∙ sym (joined_alone v.count (H ++ G))));
    }

-- nothing is done
pub keeps_more : {J : Type 0} (K : Kind J) (start : Plain J) (H G : List (Command J)) (disk : View) → KeepsAll K start H (H ++ G) disk disk
keeps_more K start H G disk from n le before image here = survives_more K start H G n image (before image here)

-- a call that writes no frame, and then one behind which a command more survives
pub keeps_behind : {J : Type 0} (K : Kind J) (L : Laws K) (start : Plain J) (H more : List (Command J)) (a b c : View) → IsState start → IsAcceptable K start H → a.clock ≤ b.clock →
    frames.KeepsAll (format K) start (frames_of K start H) (frames_of K start H) a b → KeepsAll K start H more b c → KeepsAll K start H more a c
keeps_behind K L start H more a b c h all later one two from n le before =
    let in_groups = all_in K start H all in
    let small = alone_small H in
    two from n (omega (arith, le, later))
    (λ other was. to_groups K L start (alone H) h in_groups small n other (one from n le (λ image here. to_frames K L start (alone H) h in_groups small n image (before image here)) other was))

-- an image in which one frame survives is recovered to the state after it
pub one_recovered : {J : Type 0} (K : Kind J) (s t : Plain J) (frame image : List ℕ) → state_after K s frame ≡ Some t → frames.Survives (format K) s (frame ∷ []) 1 image → recovered (format K) image ≡ Ok t
one_recovered K s t frame image leads v =
    let least = v.at_least in
    let most = v.at_most in
    let one : v.count ≡ 1 = omega (arith, least, most) in
    v.recovered ∙ ap Ok (replays_same (format K) (frame ∷ []) s v.state t (subst (λ (n : ℕ). Replays (format K) s (take n (frame ∷ [])) v.state) one v.replays) (t, leads, refl))

-- A batch with the records of accepted commands.
module _ {J : Type 0} (K : Kind J) (L : Laws K) (s : Plain J) (G : List (Command J)) (records : List (recorded.Recorded J)) where
  pub state_with : (t : Plain J) → IsState s → AreKeptAs K s G records → applied K s records ≡ Some t → t ≡ outcome K s G
  state_with t h is taken = some_same t (outcome K s G) (sym taken ∙ records_lead K L s G records h is)

  pub frame_is : (first : ℕ) → IsState s → AreKeptAs K s G records → first ≡ s.number + 1 → batch_bytes K (record { first = first; records = records }) ≡ frame_of K s G
  frame_is first h is next = grouping.frame_is K L s G records h is first next

  pub acknowledged_with : (t : Plain J) (first : ℕ) → IsState s → AreKeptAs K s G records → 0 < length G → length G ≤ 16 → first ≡ s.number + 1 → applied K s records ≡ Some t → (image : List ℕ) →
      frames.Survives (format K) s (batch_bytes K (record { first = first; records = records }) ∷ []) 1 image → recovered (format K) image ≡ Ok t
  acknowledged_with t first h is some few next taken image survives =
      one_recovered K s t (batch_bytes K (record { first = first; records = records })) image
      (ap (state_after K s) (frame_is first h is next) ∙ (batch_led K L s G h is.accepted some few is.may ∙ ap Some (sym (state_with t h is taken)))) survives

  pub keeps_with : (start : Plain J) (H : List (Command J)) (first : ℕ) (old new : View) → IsState s → IsState start → IsAcceptable K start H → s ≡ outcome K start H → AreKeptAs K s G records →
      0 < length G → length G ≤ 16 → first ≡ s.number + 1 → frames.KeepsAll (format K) start (frames_of K start H) (frames_of K start H ++ batch_bytes K (record { first = first; records = records }) ∷ []) old new
      → KeepsAll K start H (H ++ G) old new
  keeps_with start H first old new h_s h all at is some few next keeps =
      keeps_commands K L start s H G (batch_bytes K (record { first = first; records = records })) old new h all at is.accepted is.may some few (frame_is first h_s is next) keeps

pub on_ok_then : {T E P Q : Type 0} (r : Result T E) → (P → Q) → OnOk r P → OnOk r Q
on_ok_then (Ok x) f p = f p
on_ok_then (Err e) f p = tt

-- their batch, kept in a store, is an append of the commands' frame
pub put_as : {J : Type 0} (K : Kind J) (L : Laws K) {D : Type 0} (view : D → View) (old : PlainStore D J) (G : List (Command J)) (new : PlainStore D J) (was is : Option Cause) (result : Result Mark Cause) (first : ℕ) (records : List (recorded.Recorded J)) →
    IsState old.state → AreKeptAs K old.state G records → first ≡ old.state.number + 1 →
    Keeps view K records (batch_bytes K (record { first = first; records = records })) old new was is result → IsPut K view old G new was is result
put_as K L view old G new was is result first records h are next kept =
    let frame = frame_is K L old.state G records first h are next in
    record {
      call = subst (λ (f : List ℕ). IsKeeping view old new was is result (append_calls (length f) old.file.places)) frame kept.call;
      state = on_ok_then result (λ taken. state_with K L old.state G records new.state h are taken) kept.state.moved;
      same = kept.state.same;
      mark = kept.mark;
      commits = λ honest. subst (λ (f : List ℕ). working.Commits K old.state f result (view old.file.disk) (view new.file.disk)) frame (kept.commits honest);
    }

-- how many commands the records are of
pub length_of : {J : Type 0} (K : Kind J) (s : Plain J) (G : List (Command J)) (records : List (recorded.Recorded J)) → AreRecordsOf K s G records → length G ≡ length records
length_of K s G records is = sym (length-records K s G) ∙ ap length (sym is.of)

pub kept_length : {J : Type 0} (K : Kind J) (s : Plain J) (G : List (Command J)) (records : List (recorded.Recorded J)) → AreKeptAs K s G records → length G ≡ length records
kept_length K s G records is = sym (length-records K s G) ∙ ap length (sym is.of)

-- the frames of commands lead to their outcome
pub replays_to : {J : Type 0} (K : Kind J) (L : Laws K) (start s : Plain J) (H : List (Command J)) → IsState start → IsAcceptable K start H → s ≡ outcome K start H → Replays (format K) start (frames_of K start H) s
replays_to {J = J} K L start s H h all at = subst (λ (t : Plain J). Replays (format K) start (frames_of K start H) t) (sym at) (replays_commands K L start H h all)

pub on_ok_two : {T E P Q R : Type 0} (r : Result T E) → (P → Q → R) → OnOk r P → OnOk r Q → OnOk r R
on_ok_two (Ok x) f p q = f p q
on_ok_two (Err e) f p q = tt

-- a call behind which nothing has failed has answered
pub worked : {T P : Type 0} (r : Result T Cause) (is : Option Cause) → IfErr r (λ cause. is ≡ Some cause) → is ≡ None → OnOk r P → P
worked (Ok x) is fails whole p = p
worked (Err cause) is fails whole p = absurd (let e = sym fails ∙ whole in cc)

-- what is said of a success, after a fault, and of a fault, whatever was answered
pub if_ok_none : {T E : Type 0} (P : T → Type 0) (Q : E → Type 0) (r : Result T E) → IsErrAnd r Q → IfOk r P
if_ok_none P Q (Ok x) of = absurd of
if_ok_none P Q (Err e) of = tt

pub on_err_so : {T E P : Type 0} (r : Result T E) → P → OnErr r P
on_err_so (Ok x) p = tt
on_err_so (Err e) p = p

pub on_err_then : {T E P Q : Type 0} (r : Result T E) → (P → Q) → OnErr r P → OnErr r Q
on_err_then (Ok x) f p = tt
on_err_then (Err e) f p = f p

-- a call behind one that answered
failed_since : (a b c : View) → a.failures ≤ b.failures → HasFailed b c → HasFailed a c
failed_since a b c fewer (inl less) = inl (omega (arith, fewer, less))
failed_since a b c fewer (inr spent) = inr spent

-- a step that failed, handed on
pub commit_failed : {J : Type 0} {D S : Type 0} (view : D → View) (old new : PlainStore D J) (was is : Option Cause) (calls : ℕ) (first : Result S Cause) (result : Result Mark Cause) (cause : Cause) → first ≡ Err cause → IsErrAnd result (λ e. e ≡ cause)
    → IsKeeping view old new was is first calls → new.state ≡ old.state → IsCommit view old new was is result
commit_failed view old new was is calls first (Ok mark) cause at same call stays = absurd same
commit_failed view old new was is calls first (Err e) cause at same call stays =
    let both : first ≡ Err e = at ∙ ap Err (sym same) in
    record {
      whole = tt;
      fails = subst (λ r. IfErr r (λ why. is ≡ Some why)) both call.fails;
      device = λ none err. call.device none (both ∙ (ap Err (err_same e Device err)));
      follows = record { goes = record { later = call.takes.later; no_fewer = call.takes.no_fewer }; honest = call.honest };
      same = stays;
      mark = tt;
    }

-- an append behind a step
pub commit_both : {J : Type 0} {D S : Type 0} (view : D → View) (old mid new : PlainStore D J) (was between is : Option Cause) (steps calls : ℕ) (first : Result S Cause) (step : S) (result : Result Mark Cause) → first ≡ Ok step
    → IsKeeping view old mid was between first steps → IsKeeping view mid new between is result calls → OnErr result (new.state ≡ old.state)
    → IfOk result (λ mark. (mark.number ≡ new.state.number) × (mark.clock ≡ (view new.file.disk).clock)) → IsCommit view old new was is result
commit_both view old mid new was between is steps calls first step result at one two same mark =
    let nothing : (was ≡ None) × (between ≡ None) = subst (λ r. OnOk r ((was ≡ None) × (between ≡ None))) at one.whole in
    let later = one.takes.later in
    let later_2 = two.takes.later in
    let fewer = one.takes.no_fewer in
    let fewer_2 = two.takes.no_fewer in
    record {
      whole = on_ok_then result (λ ends. (nothing.0, ends.1)) two.whole;
      fails = two.fails;
      device = λ none err. failed_since (view old.file.disk) (view mid.file.disk) (view new.file.disk) fewer (two.device nothing.1 err);
      follows = record {
        goes = record { later = omega (arith, later, later_2); no_fewer = omega (arith, fewer, fewer_2) };
        honest = (λ h. two.honest.0 (one.honest.0 h), λ h. one.honest.1 (two.honest.1 h));
      };
      same = same;
      mark = mark;
    }
