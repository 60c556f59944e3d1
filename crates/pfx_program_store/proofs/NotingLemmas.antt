-- What a run on a disk whose calls are noted leaves.
use Rattle.std.specs.Prelude.{if◌then◌else◌}
use Rattle.std.proofs.Common.{◌≡◌, ◌⊎◌, ℕ, ◌+◌, Bool, true, false, List, [], ◌++◌, length, Option, None, Some, Result, Ok, Err, IfSome, refl, sym, ap, subst, ◌∙◌, arith, append_assoc, append-nil, inl, inr}
use Rattle.pfx_disk_chronicle.specs.Chart.{acts_of}
use Rattle.pfx_disk_chronicle.specs.declared.made.Made.{Made}
use Rattle.pfx_disk.specs.Disk.{View, IsHonest}
use Rattle.pfx_disk.specs.Stop.{Left}
use Rattle.pfx_fault.specs.declared.fields.Cause.{Cause}
use Rattle.pfx_fault.specs.declared.fields.Cause.TheVariants as cause
use Rattle.pfx_fault.specs.declared.refusals.Fault.{Fault}
use Rattle.pfx_fault.specs.declared.refusals.Fault.TheVariants as fault
use Rattle.pfx_store_format.specs.Format.{format}
use Rattle.pfx_kinds.specs.AnyKind.{any_kind}
use Rattle.pfx_kinds.specs.declared.any.AnyJob.{AnyJob}
use Rattle.pfx_machine.proofs.Compose.{outcome-none}
use Rattle.pfx_machine.specs.Outcome.{outcome}
use Rattle.pfx_machine.specs.Plain.{Plain}
use Rattle.pfx_machine.specs.declared.command.Command.{Command}
use Rattle.pfx_program.proofs.StepLemmas.{commands_append, then_state}
use Rattle.pfx_program.specs.declared.form.OutputForm.{OutputForm}
use Rattle.pfx_program.specs.Running.{Carried, Ends, Halts, Runs, Stopped}
use Rattle.pfx_program.specs.Script.{Step, at_start, commands_of, course_from, taken, text_of}
use Rattle.pfx_program.specs.declared.report.AtRefusal.{AtRefusal}
use Rattle.pfx_program.specs.declared.report.Report.{Report}
use Rattle.pfx_store_image.specs.Recovery.{recovered}
use Rattle.pfx_store.specs.Keepers.{failure_of}
use Rattle.pfx_store.specs.Stores.{PlainStore}
use Rattle.pfx_program_script.specs.Records.{Fields, Records}
use Rattle.pfx_program_store.proofs.EndingLemmas.{begun, known_rest, nothing_more}
use Rattle.pfx_store_engine.proofs.Keeps.{survives_more}
use Rattle.pfx_store_engine.proofs.Promising.{promise}
use Rattle.pfx_program_store.specs.Ending.{EndsBehind}
use Rattle.pfx_store_engine.specs.Failing.{MayFail}
use Rattle.pfx_store_engine.specs.Keeping.{Anchors}
use Rattle.pfx_program_store.specs.Noting.{IsAloneFault, IsNotedRun}
use Rattle.pfx_store_engine.specs.Surviving.{Survives}

-- a store fails by its disk alone
pub device_only : {D J : Type 0} (why : Cause) → MayFail {K = PlainStore D J} (λ store. failure_of store) why → why ≡ cause.Device
device_only why (store, failed) = by store.file.broken failed
  where
    by : (broken : Bool) → (if broken then Some cause.Device else None) ≡ Some why → why ≡ cause.Device
    by true is = cc
    by false is = cc

-- a run that stops is at the state after what it printed, or after all that it tried
reached : (reading : Type 0) (faults : Plain AnyJob → Fault → Type 0) (s : Plain AnyJob) (text : List ℕ) (tried : List Step) (t : Plain AnyJob) (was is : Option (List ℕ)) (f : Fault) → Halts reading faults s text tried t was is f
    → (t ≡ s) ⊎ (t ≡ outcome any_kind s (commands_of tried))
reached reading faults s text tried t was is fault.OutputFailed h = inr h.0
reached reading faults s text tried t was is fault.InputFailed h = inl h.1
reached reading faults s text tried t was is fault.NoMemory h = h.0
reached reading faults s text tried t was is (fault.BadScript at) h = absurd h
reached reading faults s text tried t was is other h = h.1

-- where a run is left: some of what is left of the course was tried
record Stands (s : Plain AnyJob) (printed rest : List Step) (t : Plain AnyJob) : Type 0 where
  tried : List Step
  back : List Step
  untold : rest ≡ tried ++ back
  state : t ≡ outcome any_kind s (commands_of (printed ++ tried))

-- nothing was
stands_there : (s : Plain AnyJob) (printed rest : List Step) (t : Plain AnyJob) → t ≡ outcome any_kind s (commands_of printed) → Stands s printed rest t
stands_there s printed rest t at = record {
  tried = [];
  back = rest;
  untold = refl;
  state = at ∙ ap (λ (l : List Step). outcome any_kind s (commands_of l)) (sym (append-nil printed));
}

stands : (s : Plain AnyJob) (printed tried rest : List Step) (t : Plain AnyJob) → (t ≡ outcome any_kind s (commands_of printed)) ⊎ (t ≡ outcome any_kind (outcome any_kind s (commands_of printed)) (commands_of tried))
    → Stands s printed (tried ++ rest) t
stands s printed tried rest t (inl at) = stands_there s printed (tried ++ rest) t at
stands s printed tried rest t (inr at) = record {
  tried = tried;
  back = rest;
  untold = refl;
  state = then_state s (outcome any_kind s (commands_of printed)) t printed tried refl at;
}

module _ (may meant : Cause → Type 0) (could : (cause : Cause) → may cause → meant cause) (held : Type 0) (image : List ℕ) (made : List Made) (disk : View) (premise : IsHonest disk → held) where
  module _ {E : Type 0} (view : E → View) (failed_by : E → Option Cause) (kept : E → Plain AnyJob) (form : OutputForm) (at_refusal : AtRefusal) (script : Records) (records : List Fields)
      (a b : E) (known : IfSome script.left (λ all. taken at_refusal (at_start form (kept a)) all ≡ records))
      (failed : Bool) (was is : Option (List ℕ)) (whole : failed_by a ≡ None) (honest : held → IsHonest (view a)) (anchors : held → Anchors any_kind (view a) (kept a))
      (leaves : held → (left : List ℕ) → Left image (acts_of made) left → (view b).now left) (follows : IsHonest disk → (left : List ℕ) → disk.now left → (view b).now left) where
    went : (result : Result Report Fault) → EndsBehind (IsAloneFault meant (kept a)) (course_from (script.place + 1) (at_start form (kept a)) records).steps [] (course_from (script.place + 1) (at_start form (kept a)) records) failed was is result
        → Carried (promise any_kind view failed_by kept may) (course_from (script.place + 1) (at_start form (kept a)) records).steps a b was is → IsNotedRun meant form at_refusal (kept a) script failed was is held image made disk (kept b) result
    went result ends h =
        let steps : List Step = (course_from (script.place + 1) (at_start form (kept a)) records).steps in
        let all : steps ≡ steps ++ [] = sym (append-nil steps) in
        let survive : held → (left : List ℕ) → (view b).now left → Survives any_kind (kept a) (commands_of (steps ++ [])) (length (commands_of steps)) left = λ so left here.
        subst (λ (l : List Step). Survives any_kind (kept a) (commands_of l) (length (commands_of steps)) left) all ((h.keeps.kept whole (honest so) (anchors so)).survive left here) in
        let at = stands_there (kept a) steps [] (kept b) h.state in
        record {
          records = records;
          known = known;
          printed = steps;
          rest = [];
          course = all;
          ends = ends;
          tried = at.tried;
          back = at.back;
          untold = at.untold;
          state = at.state;
          kept = λ so left behind. survive so left (leaves so left behind);
          premise = premise;
          on_disk = λ sure left here. survive (premise sure) left (follows sure left here);
        }

    stopped : (most : ℕ) (f : Fault) → Stopped (promise any_kind view failed_by kept may) most (failed ≡ true) (course_from (script.place + 1) (at_start form (kept a)) records).steps a b was is f
        → ((printed tried rest : List Step) (t : Plain AnyJob) → Halts (failed ≡ true) (λ s g. (promise any_kind view failed_by kept may).faults s g) (outcome any_kind (kept a) (commands_of printed)) (text_of printed) tried t was is f
        → EndsBehind (IsAloneFault meant (kept a)) printed (tried ++ rest) (course_from (script.place + 1) (at_start form (kept a)) records) failed was is (Err f))
        → IsNotedRun meant form at_refusal (kept a) script failed was is held image made disk (kept b) (Err f)
    stopped most f h ends =
        let split : (commands_of h.printed ++ commands_of h.tried) ++ commands_of h.rest ≡ commands_of (h.printed ++ (h.tried ++ h.rest)) =
        append_assoc (commands_of h.printed) (commands_of h.tried) (commands_of h.rest)
        ∙ ap (λ (l : List (Command AnyJob)). commands_of h.printed ++ l) (sym (commands_append h.tried h.rest)) ∙ sym (commands_append h.printed (h.tried ++ h.rest)) in
        let survive : held → (left : List ℕ) → (view b).now left → Survives any_kind (kept a) (commands_of (h.printed ++ (h.tried ++ h.rest))) (length (commands_of h.printed)) left = λ so left here.
        subst (λ (l : List (Command AnyJob)). Survives any_kind (kept a) l (length (commands_of h.printed)) left) split
        (survives_more any_kind (kept a) (commands_of h.printed ++ commands_of h.tried) (commands_of h.rest) (length (commands_of h.printed)) left ((h.keeps.kept whole (honest so) (anchors so)).survive left here)) in
        let at = stands (kept a) h.printed h.tried h.rest (kept b)
        (reached (failed ≡ true) (λ s g. (promise any_kind view failed_by kept may).faults s g) (outcome any_kind (kept a) (commands_of h.printed)) (text_of h.printed) h.tried (kept b) was is f h.why) in
        record {
          records = records;
          known = known;
          printed = h.printed;
          rest = h.tried ++ h.rest;
          course = h.split;
          ends = ends h.printed h.tried h.rest _ h.why;
          tried = at.tried;
          back = at.back;
          untold = at.untold;
          state = at.state;
          kept = λ so left behind. survive so left (leaves so left behind);
          premise = premise;
          on_disk = λ sure left here. survive (premise sure) left (follows sure left here);
        }

    by_end : (most : ℕ) (result : Result Report Fault) → Ends (promise any_kind view failed_by kept may) most (failed ≡ true) (course_from (script.place + 1) (at_start form (kept a)) records) a b was is result
        → IsNotedRun meant form at_refusal (kept a) script failed was is held image made disk (kept b) result
    by_end most (Ok report) h = went (Ok report) (h.0, refl, h.1.text, h.3) h.1
    by_end most (Err (fault.BadScript at)) h = went (Err (fault.BadScript at)) (h.0, refl, h.1.text) h.1
    by_end most (Err fault.OutputFailed) h = stopped most fault.OutputFailed h (λ printed tried rest t why. (why.1, (begun tried rest why.1 why.2 why.3).0, (begun tried rest why.1 why.2 why.3).1, why.4))
    by_end most (Err fault.InputFailed) h = stopped most fault.InputFailed h (λ printed tried rest t why. (why.0, why.2))
    by_end most (Err fault.NoMemory) h = stopped most fault.NoMemory h (λ printed tried rest t why. (tt, why.1))
    by_end most (Err other) h = stopped most other h (λ printed tried rest t why. ((why.0.0, could why.0.0 why.0.1, why.0.2), why.2))

  module _ {E : Type 0} (view : E → View) (failed_by : E → Option Cause) (kept : E → Plain AnyJob) (form : OutputForm) (at_refusal : AtRefusal) where
    pub noted_run : (most : ℕ) (script : Records) (failed : Bool) (a b : E) (was is : Option (List ℕ)) (result : Result Report Fault) → Runs (promise any_kind view failed_by kept may) form at_refusal most script failed a b was is result
        → failed_by a ≡ None → (held → IsHonest (view a)) → (held → Anchors any_kind (view a) (kept a)) → (held → (left : List ℕ) → Left image (acts_of made) left → (view b).now left)
        → (IsHonest disk → (left : List ℕ) → disk.now left → (view b).now left) → IsNotedRun meant form at_refusal (kept a) script failed was is held image made disk (kept b) result
    noted_run most script failed a b was is result h whole honest anchors leaves follows =
        by_end view failed_by kept form at_refusal script h.records a b h.known failed was is whole honest anchors leaves follows most result h.ends

-- a run for which there was no memory
pub noted_none : (may : Cause → Type 0) (form : OutputForm) (at_refusal : AtRefusal) (s : Plain AnyJob) (script : Records) (failed : Bool) (was : Option (List ℕ)) (held : Type 0) (image : List ℕ) (made : List Made) (disk : View) (here : List ℕ → Type 0) → (IsHonest disk → held)
    → (held → (left : List ℕ) → Left image (acts_of made) left → here left) → (IsHonest disk → (left : List ℕ) → disk.now left → here left)
    → (held → (left : List ℕ) → here left → recovered (format any_kind) left ≡ Ok s)
    → IsNotedRun may form at_refusal s script failed was was held image made disk s (Err fault.NoMemory)
noted_none may form at_refusal s script failed was held image made disk here premise leaves follows recovers = record {
  records = rest.0;
  known = rest.1;
  printed = [];
  rest = (course_from (script.place + 1) (at_start form s) rest.0).steps;
  course = refl;
  ends = (tt, nothing_more was);
  tried = [];
  back = (course_from (script.place + 1) (at_start form s) rest.0).steps;
  untold = refl;
  state = sym (outcome-none any_kind s);
  kept = λ so left behind. survive so left (leaves so left behind);
  premise = premise;
  on_disk = λ sure left is. survive (premise sure) left (follows sure left is);
}
  where
    rest : (records : List Fields) × IfSome script.left (λ all. taken at_refusal (at_start form s) all ≡ records)
    rest = known_rest at_refusal (at_start form s) script.left

    survive : held → (left : List ℕ) → here left → Survives any_kind s (commands_of (course_from (script.place + 1) (at_start form s) rest.0).steps) 0 left
    survive so left is = record {
      count = 0;
      at_least = omega arith;
      at_most = omega arith;
      recovered = recovers so left is ∙ ap Ok (sym (outcome-none any_kind s));
    }
