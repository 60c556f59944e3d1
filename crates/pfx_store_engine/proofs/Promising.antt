-- What is kept by one call.
use Rattle.std.specs.Prelude.{IfErr, IfOk, IsErrAnd, OnOk}
use Rattle.std.proofs.Common.{◌≡◌, ◌<◌, ◌≤◌, ◌⊎◌, inl, inr, ℕ, length, List, [], ◌∷◌, ◌++◌, Option, Some, None, Result, Ok, Err, refl, sym, ap, subst, ◌∙◌, arith}
use Rattle.std.proofs.lemmas.List.{take_all}
use Rattle.pfx_disk.specs.Disk.{View, IsHonest}
use Rattle.pfx_store_format.specs.Format.{format}
use Rattle.pfx_store.proofs.Grouping.{joined_alone, length-alone}
use Rattle.pfx_store_image.specs.Recovery.{recovered}
use Rattle.pfx_machine.specs.Plain.{Plain, IsState}
use Rattle.pfx_machine.specs.Outcome.{outcome}
use Rattle.pfx_machine.specs.Sessions.{IsAcceptable}
use Rattle.pfx_machine.specs.declared.command.Command.{Command}
use Rattle.pfx_machine.specs.declared.command.Command.TheVariants.{Slot}
use Rattle.pfx_machine.specs.declared.faults.MachineFault.{MachineFault}
use Rattle.pfx_store_image.proofs.Answers.{err_same, ok_same}
use Rattle.pfx_machine.proofs.Compose.{outcome-none}
use Rattle.pfx_fault.specs.declared.fields.Cause.{Cause}
use Rattle.pfx_fault.specs.declared.refusals.Fault.{Fault}
use Rattle.pfx_fault.specs.declared.refusals.Fault.TheVariants as fault
use Rattle.pfx_machine.specs.Runs.{answer}
use Rattle.pfx_store_engine.specs.Promises.{Promise, AreNotDone, IsSame, IsInDoubt, IsLeftBy, IsEngineFault, IsNotDone}
use Rattle.pfx_store_engine.specs.declared.engine.EngineFault.{EngineFault}
use Rattle.pfx_store_engine.specs.declared.engine.EngineFault.TheVariants as enginefault
use Rattle.pfx_store_engine.specs.Failing.{Fails, IsLook, IsStop, NotAccepted, Stops, last_kept, stopped_at}
use Rattle.pfx_store_engine.specs.Failing as failing
use Rattle.pfx_store_engine.specs.Surviving.{KeepsAll}
use Rattle.pfx_store_engine.specs.Keeping.{Anchors, KeepsFrom, IsAccepted}
use Rattle.pfx_store_engine.specs.KeepingLaws.{one_accepted}
use Rattle.pfx_jobs.specs.Kind.{Kind}

-- the commands are durable
pub keeps_all : {J : Type 0} (K : Kind J) (old new : View) (was : Option Cause) (s t : Plain J) (G : List (Command J)) → IsAcceptable K s G → t ≡ outcome K s G → (IsHonest old → IsHonest new) → (IsHonest old → Anchors K new t)
    → KeepsFrom K old was s G (length G) new t
keeps_all {J = J} K old new was s t G accepted at honest anchored = record {
  accepted = accepted;
  state = λ all. at;
  kept = λ whole good anchors. record {
    honest = honest good;
    anchored = λ all. anchored good;
    survive = λ image here. record {
      count = length G;
      at_least = omega arith;
      at_most = omega (arith, length-alone G);
      recovered = recovers good image here ∙ ap (λ (l : List (Command J)). Ok (outcome K s l)) (sym (joined_alone (length G) G ∙ take_all (length G) G (omega arith)));
    };
  };
}
  where
    recovers : IsHonest old → (image : List ℕ) → new.now image → recovered (format K) image ≡ Ok (outcome K s G)
    recovers good image here = anchored good image ((honest good).counted new.clock image (omega arith) here) ∙ ap Ok at

pub keeps_one : {J : Type 0} (K : Kind J) (old new : View) (was : Option Cause) (s t : Plain J) (c : Command J) → IsAccepted K s c → t ≡ outcome K s (c ∷ []) → (IsHonest old → IsHonest new) → (IsHonest old → Anchors K new t)
    → KeepsFrom K old was s (c ∷ []) 1 new t
keeps_one K old new was s t c accepted at honest anchored = keeps_all K old new was s t (c ∷ []) (one_accepted K s c accepted) at honest anchored

-- it isn't known how many of them are
pub keeps_some : {J : Type 0} (K : Kind J) (old new : View) (was : Option Cause) (s t : Plain J) (G : List (Command J)) → IsState s → IsAcceptable K s G → 0 < length G → old.clock ≤ new.clock → (IsHonest old → IsHonest new)
    → (IsHonest old → (start : Plain J) → (H : List (Command J)) → IsState start → IsAcceptable K start H → s ≡ outcome K start H → KeepsAll K start H (H ++ G) old new)
    → KeepsFrom K old was s G 0 new t
keeps_some K old new was s t G valid accepted some later honest keeps = record {
  accepted = accepted;
  state = λ all. absurd (omega (arith, some, all));
  kept = λ whole good anchors. record {
    honest = honest good;
    anchored = λ all. absurd (omega (arith, some, all));
    survive = λ image here. keeps good s [] valid tt (sym (outcome-none K s)) old.clock 0 (omega arith)
        (λ other there. record {
          count = 0;
          at_least = omega arith;
          at_most = omega arith;
          recovered = anchors other there ∙ ap Ok (sym (outcome-none K s));
        }) image ((honest good).counted old.clock image later here);
  };
}

pub keeps_doubt : {J : Type 0} (K : Kind J) (old new : View) (was : Option Cause) (s t : Plain J) (c : Command J) → IsState s → IsAccepted K s c → old.clock ≤ new.clock → (IsHonest old → IsHonest new)
    → (IsHonest old → (start : Plain J) → (H : List (Command J)) → IsState start → IsAcceptable K start H → s ≡ outcome K start H → KeepsAll K start H (H ++ c ∷ []) old new)
    → KeepsFrom K old was s (c ∷ []) 0 new t
keeps_doubt K old new was s t c valid accepted later honest keeps = keeps_some K old new was s t (c ∷ []) valid (one_accepted K s c accepted) (omega arith) later honest keeps

-- of what answers nothing had failed
pub not_failed : {T F : Type 0} (was : Option Cause) (r : Result T F) (x : T) → r ≡ Ok x → {f : Cause → F} → ((cause : Cause) → was ≡ Some cause → r ≡ Err (f cause)) → was ≡ None
not_failed None r x is h = refl
not_failed (Some cause) r x is h = absurd (let e = sym is ∙ h cause refl in cc)

pub kept_whole : (was : Option Cause) (marked n : ℕ) → last_kept was marked ≡ Ok n → was ≡ None
kept_whole None marked n is = refl
kept_whole (Some cause) marked n is = cc

-- causes that are told alike are the same
some_cause : (a b : Cause) → Some a ≡ Some b → a ≡ b
some_cause a b same = cc

-- what is answered of it
abbrev failed_call : {T : Type 0} → Fault → Result T EngineFault
failed_call f = Err (enginefault.Failed f)

abbrev pub an_err : {T : Type 0} → Fault → Result T Fault
an_err f = Err f

pub kept_fault : {J : Type 0} (may : Cause → Type 0) (was : Option Cause) (s : Plain J) (f : Fault) → ((cause : Cause) → was ≡ Some cause → may cause) → Err f ≡ last_kept was s.number → IsEngineFault (λ t g. IsStop may t.number g) s f
kept_fault may None s f could is = cc
kept_fault may (Some cause) s f could is = subst (λ (g : Fault). IsEngineFault (λ t h. IsStop may t.number h) s g) (sym (err_same {A = ℕ} f (stopped_at s.number cause) is)) (cause, could cause refl, refl)

pub look_stopped : {T : Type 0} (was : Option Cause) (marked : ℕ) (f : Fault) (cause : Cause) → Err f ≡ last_kept was marked → was ≡ Some cause → an_err {T = T} f ≡ an_err (stopped_at marked cause)
look_stopped None marked f cause is failed = cc
look_stopped (Some other) marked f cause is failed = ap an_err (err_same {A = ℕ} f (stopped_at marked other) is ∙ ap (stopped_at marked) (some_cause other cause failed))

pub look_whole : (was : Option Cause) (marked : ℕ) (f : Fault) → Err f ≡ last_kept was marked → was ≡ None → f ≡ fault.NoMemory
look_whole None marked f is none = cc
look_whole (Some cause) marked f is none = cc

pub kept_faults : {J : Type 0} (may : Cause → Type 0) (was : Option Cause) (s : Plain J) (r : Result ℕ Fault) → ((cause : Cause) → was ≡ Some cause → may cause) → r ≡ last_kept was s.number → IfErr r (IsEngineFault (λ t g. IsStop may t.number g) s)
kept_faults may was s (Ok n) could is = tt
kept_faults may was s (Err f) could is = kept_fault may was s f could is

pub kept_settles : (was : Option Cause) (marked : ℕ) (r : Result ℕ Fault) → r ≡ last_kept was marked → OnOk r (was ≡ None)
kept_settles was marked (Ok n) is = kept_whole was marked n (sym is)
kept_settles was marked (Err f) is = tt

pub kept_number : (was : Option Cause) (marked : ℕ) (r : Result ℕ Fault) → r ≡ last_kept was marked → IfOk r (λ n. n ≡ marked)
kept_number None marked (Ok n) is = ok_same {E = Fault} n marked is
kept_number (Some cause) marked (Ok n) is = cc
kept_number was marked (Err f) is = tt

-- and what is handed on of it
pub handed_fault : {J : Type 0} {T : Type 0} (may : Cause → Type 0) (was : Option Cause) (s : Plain J) (r : Result T Fault) (e : Fault) → ((cause : Cause) → was ≡ Some cause → may cause) → IsErrAnd r (λ x. x ≡ e) → Err e ≡ last_kept was s.number
    → IfErr r (IsEngineFault (λ t g. IsStop may t.number g) s)
handed_fault may was s (Ok x) e could same is = absurd same
handed_fault may was s (Err f) e could same is = kept_fault may was s f could (ap an_err same ∙ is)

pub look_handed : {E T : Type 0} (was : Option Cause) (marked : ℕ) (a : E) (r : Result T Fault) (e : Fault) → IsErrAnd r (λ x. x ≡ e) → Err e ≡ last_kept was marked → IsLook marked was a a r
look_handed was marked a (Ok x) e same is = absurd same
look_handed was marked a (Err f) e same is = record {
  stopped = λ cause failed. look_stopped was marked f cause (ap an_err same ∙ is) failed;
  whole = λ none. look_whole was marked f (ap an_err same ∙ is) none;
  stays = refl;
}

pub look_failed : {E T : Type 0} (was : Option Cause) (marked : ℕ) (a : E) (f : Fault) → Err f ≡ last_kept was marked → IsLook {T = T} marked was a a (Err f)
look_failed was marked a f is = record { stopped = λ cause failed. look_stopped was marked f cause is failed; whole = λ none. look_whole was marked f is none; stays = refl }

pub look_fine : {E T : Type 0} (was : Option Cause) (marked n : ℕ) (a : E) (x : T) → Ok n ≡ last_kept was marked → IsLook marked was a a (Ok x)
look_fine was marked n a x is = record { stopped = λ cause failed. absurd (let e = sym (kept_whole was marked n (sym is)) ∙ failed in cc); whole = λ none. tt; stays = refl }

pub look_starved : {E T : Type 0} (was : Option Cause) (marked n : ℕ) (a : E) → Ok n ≡ last_kept was marked → IsLook {T = T} marked was a a (Err fault.NoMemory)
look_starved was marked n a is = record { stopped = λ cause failed. absurd (let e = sym (kept_whole was marked n (sym is)) ∙ failed in cc); whole = λ none. refl; stays = refl }

-- why a call stops: something had failed before, or nothing had
pub fails_more : (marked : ℕ) (known : Cause → Type 0) (one other : Type 0) (why : EngineFault) → (one → other) → Fails 0 (λ cause. ⊥) one why → Fails marked known other why
fails_more marked known one other (enginefault.Refused f) more fails = more fails
fails_more marked known one other (enginefault.Failed f) more fails = by f fails
  where
    by : (f : Fault) → Fails 0 (λ cause. ⊥) one (enginefault.Failed f) → Fails marked known other (enginefault.Failed f)
    by fault.NoMemory fails = more fails
    by another fails = absurd fails.2

-- of the cause less is known
pub fails_known : (marked : ℕ) (known less : Cause → Type 0) (unchanged : Type 0) (why : EngineFault) → ((cause : Cause) → known cause → less cause) → Fails marked known unchanged why → Fails marked less unchanged why
fails_known marked known less unchanged (enginefault.Refused f) so fails = fails
fails_known marked known less unchanged (enginefault.Failed f) so fails = by f fails
  where
    by : (f : Fault) → Fails marked known unchanged (enginefault.Failed f) → Fails marked less unchanged (enginefault.Failed f)
    by fault.NoMemory fails = fails
    by another fails = (fails.0, fails.1, so fails.0 fails.2)

pub stops_failed : {T : Type 0} (marked : ℕ) (was : Option Cause) (known : Cause → Type 0) (unchanged : Type 0) (f : Fault) (cause : Cause) → Some cause ≡ was → f ≡ stopped_at marked cause → known cause → unchanged
    → Stops {T = T} marked was known unchanged (Err (enginefault.Failed f))
stops_failed {T = T} marked was known unchanged f cause before told is same = record {
  fails = subst (λ (g : Fault). Fails marked known unchanged (enginefault.Failed g)) (sym told) (cause, refl, is);
  stopped = λ other failed. (ap (λ (g : Fault). failed_call {T = T} g) (told ∙ ap (stopped_at marked) (some_cause cause other (before ∙ failed))), same);
}

pub stops_refused : {T : Type 0} (marked : ℕ) (was : Option Cause) (known : Cause → Type 0) (unchanged : Type 0) (why : EngineFault) → None ≡ was → Fails marked known unchanged why → Stops {T = T} marked was known unchanged (Err why)
stops_refused marked was known unchanged why before fails = record { fails = fails; stopped = λ other failed. absurd (let e = before ∙ failed in cc) }

pub stops_failing : {T : Type 0} (marked : ℕ) (was : Option Cause) (known : Cause → Type 0) (unchanged : Type 0) (f : Fault) (cause : Cause) → None ≡ was → f ≡ stopped_at marked cause → known cause → Stops {T = T} marked was known unchanged (Err (enginefault.Failed f))
stops_failing marked was known unchanged f cause before told is =
    stops_refused marked was known unchanged (enginefault.Failed f) before (subst (λ (g : Fault). Fails marked known unchanged (enginefault.Failed g)) (sym told) (cause, refl, is))

pub stops_ok : {T : Type 0} (marked : ℕ) (was : Option Cause) (known : Cause → Type 0) (unchanged : Type 0) (x : T) → None ≡ was → Stops marked was known unchanged (Ok x)
stops_ok marked was known unchanged x before = record { fails = tt; stopped = λ other failed. absurd (let e = before ∙ failed in cc) }

pub err_is : {T F : Type 0} (r : Result T F) (f g : F) → r ≡ Err g → r ≡ Err f → g ≡ f
err_is r f g is was = err_same g f (sym is ∙ was)

-- A call of an engine of a store that answers no reply, seen by the store's disk, what has failed, and the store's state; it may fail by these causes.
module _ {J : Type 0} (K : Kind J) {E : Type 0} (view : E → View) (failed : E → Option Cause) (kept : E → Plain J) (may : Cause → Type 0) where
  abbrev pub promise : Promise J E
  promise = record {
    state = kept;
    faults = λ s f. IsStop may s.number f;
    settled = λ e. failed e ≡ None;
    keeps = λ a H n b. KeepsFrom K (view a) (failed a) (kept a) H n (view b) (kept b);
  }

  pub not_done : (c : Command J) (a b : E) (run next : Plain J) (known : Cause → Type 0) (same : Type 0) (why : EngineFault) → (failed a ≡ None → run ≡ kept a) → NotAccepted K run c next why → kept b ≡ kept a
      → (failed a ≡ None → failing.IsInDoubt K run c why) → Fails (kept a).number known same why → ((cause : Cause) → known cause → may cause)
      → (same → KeepsFrom K (view a) (failed a) (kept a) [] 0 (view b) (kept b) × (failed a ≡ None → failed b ≡ None))
      → ((cause : Cause) → failed a ≡ Some cause → (why ≡ enginefault.Failed (stopped_at (kept a).number cause)) × same)
      → (IsAccepted K (kept a) c → KeepsFrom K (view a) (failed a) (kept a) (c ∷ []) 0 (view b) (kept b))
      → IsNotDone K promise c a b why
  not_done c a b run next known same why at refused stays doubt fails could unchanged was keeps = by why refl
    where
      is_same : same → IsSame promise a b
      is_same y = record { state = stays; keeps = (unchanged y).0 }

      whole_by : (o : Option Cause) → failed a ≡ o → (f : MachineFault) → why ≡ enginefault.Refused f → failed a ≡ None
      whole_by None is f refused = is
      whole_by (Some cause) is f refused = absurd (let e : enginefault.Refused f ≡ enginefault.Failed (stopped_at (kept a).number cause) = sym refused ∙ (was cause is).0 in cc)

      doubted : (o : Option Cause) → failed a ≡ o → (f : Fault) (cause : Cause) → why ≡ enginefault.Failed f → f ≡ stopped_at (kept a).number cause → IsSame promise a b ⊎ IsInDoubt K promise c a b
      doubted (Some before) is f cause told stopped = inl (is_same (was before is).1)
      doubted None is f cause told stopped =
          let accepted : IsAccepted K run c = subst (failing.IsInDoubt K run c) (told ∙ ap enginefault.Failed stopped) (doubt is) in
          let mine : IsAccepted K (kept a) c = subst (λ (s : Plain J). IsAccepted K s c) (at is) accepted in
          inr (record { reply = mine.0; accepted = mine.1; state = inl stays; keeps = keeps mine })

      stopped_by : (f : Fault) (cause : Cause) → why ≡ enginefault.Failed f → f ≡ stopped_at (kept a).number cause → may cause → IsEngineFault promise.faults (kept a) f × IsLeftBy K promise c a b f
      stopped_by f cause told stopped could_be =
          subst (λ (g : Fault). IsEngineFault promise.faults (kept a) g × IsLeftBy K promise c a b g) (sym stopped) ((cause, could_be, refl), doubted (failed a) refl f cause told stopped)

      failed_by : (f : Fault) → why ≡ enginefault.Failed f → Fails (kept a).number known same (enginefault.Failed f) → IsNotDone K promise c a b (enginefault.Failed f)
      failed_by fault.NoMemory told h = (tt, is_same h)
      failed_by other told h = stopped_by other h.0 told h.1 (could h.0 h.2)

      by : (w : EngineFault) → why ≡ w → IsNotDone K promise c a b w
      by (enginefault.Refused f) is =
          let y : same = subst (λ (w : EngineFault). Fails (kept a).number known same w) is fails in
          let no : (answer K run c ≡ Err f) × (next ≡ run) = subst (NotAccepted K run c next) is refused in
          (subst (λ (s : Plain J). answer K s c ≡ Err f) (at (whole_by (failed a) refl f is)) no.0, is_same y, (unchanged y).1)
      by (enginefault.Failed f) is = failed_by f is (subst (λ (w : EngineFault). Fails (kept a).number known same w) is fails)

  -- Slots of which none was run
  pub slots_not_run : (count : ℕ) (a b : E) (run next : Plain J) (unchanged : Type 0) (why : EngineFault) → run ≡ kept a → NotAccepted K run Slot next why → Fails 0 (λ cause. ⊥) unchanged why → IsSame promise a b
      → (failed a ≡ None → failed b ≡ None) → AreNotDone K promise count a b why
  slots_not_run count a b run next unchanged (enginefault.Refused f) at refused fails same whole = (subst (λ (s : Plain J). answer K s Slot ≡ Err f) at refused.0, same, whole)
  slots_not_run count a b run next unchanged (enginefault.Failed f) at refused fails same whole = by f fails
    where
      by : (f : Fault) → Fails 0 (λ cause. ⊥) unchanged (enginefault.Failed f) → AreNotDone K promise count a b (enginefault.Failed f)
      by fault.NoMemory fails = (tt, same)
      by other fails = absurd fails.2
