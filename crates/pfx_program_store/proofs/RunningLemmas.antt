-- What a run's end leaves on the disk.
use Rattle.std.proofs.Common.{◌≡◌, ℕ, ◌+◌, Bool, true, List, [], ◌++◌, length, Option, None, Result, Ok, Err, IfSome, sym, ap, subst, ◌∙◌, append_assoc, append-nil}
use Rattle.std.specs.Io.KnownBytes.{Appends}
use Rattle.pfx_disk.specs.Disk.{View, IsHonest}
use Rattle.pfx_fault.specs.declared.fields.Cause.{Cause}
use Rattle.pfx_fault.specs.declared.refusals.Fault.{Fault}
use Rattle.pfx_fault.specs.declared.refusals.Fault.TheVariants as fault
use Rattle.pfx_kinds.specs.AnyKind.{any_kind}
use Rattle.pfx_kinds.specs.declared.any.AnyJob.{AnyJob}
use Rattle.pfx_machine.specs.Plain.{Plain}
use Rattle.pfx_machine.specs.Outcome.{outcome}
use Rattle.pfx_machine.specs.declared.command.Command.{Command}
use Rattle.pfx_program_script.specs.Records.{Fields, Records}
use Rattle.pfx_program.specs.declared.form.OutputForm.{OutputForm}
use Rattle.pfx_program.specs.Script.{Step, at_start, commands_of, course_from, taken, text_of}
use Rattle.pfx_program.specs.declared.report.AtRefusal.{AtRefusal}
use Rattle.pfx_program.specs.declared.report.Report.{Report}
use Rattle.pfx_program.specs.Running.{Carried, Halts, Stopped, Ends, Runs}
use Rattle.pfx_program.proofs.StepLemmas.{commands_append}
use Rattle.pfx_store_engine.specs.Keeping.{Anchors}
use Rattle.pfx_program_store.specs.Running.{IsKeptAsPrinted}
use Rattle.pfx_store_engine.specs.Surviving.{Survives}
use Rattle.pfx_store_engine.proofs.Keeps.{survives_more}
use Rattle.pfx_store_engine.proofs.Promising.{promise}

module _ {E : Type 0} (view : E → View) (failed_by : E → Option Cause) (kept : E → Plain AnyJob) (may : Cause → Type 0) (form : OutputForm) where
  -- what was printed at a halt
  part_of : (reading : Type 0) (faults : Plain AnyJob → Fault → Type 0) (s : Plain AnyJob) (text : List ℕ) (tried : List Step) (t : Plain AnyJob) (was is : Option (List ℕ)) (f : Fault) → Halts reading faults s text tried t was is f
      → (part : List ℕ) × Appends was is (text ++ part)
  part_of reading faults s text tried t was is fault.OutputFailed h = (h.1, h.4)
  part_of reading faults s text tried t was is fault.InputFailed h = ([], subst (Appends was is) (sym (append-nil text)) h.2)
  part_of reading faults s text tried t was is fault.NoMemory h = ([], subst (Appends was is) (sym (append-nil text)) h.1)
  part_of reading faults s text tried t was is (fault.BadScript at) h = absurd h
  part_of reading faults s text tried t was is other h = ([], subst (Appends was is) (sym (append-nil text)) h.2)

  carried_kept : (script : Records) (records : List Fields) (a b : E) (was is : Option (List ℕ)) → failed_by a ≡ None → IsHonest (view a) → Anchors any_kind (view a) (kept a)
      → Carried (promise any_kind view failed_by kept may) (course_from (script.place + 1) (at_start form (kept a)) records).steps a b was is → IsKeptAsPrinted form (kept a) script records was is (view b)
  carried_kept script records a b was is whole honest anchors h =
      let steps : List Step = (course_from (script.place + 1) (at_start form (kept a)) records).steps in
      let all : steps ≡ steps ++ [] = sym (append-nil steps) in
      record {
        printed = steps;
        rest = [];
        course = all;
        part = [];
        text = subst (Appends was is) (sym (append-nil (text_of steps))) h.text;
        survive = λ image here. subst (λ (l : List Step). Survives any_kind (kept a) (commands_of l) (length (commands_of steps)) image) all ((h.keeps.kept whole honest anchors).survive image here);
      }

  stopped_kept : (most : ℕ) (reading : Type 0) (script : Records) (records : List Fields) (a b : E) (was is : Option (List ℕ)) (f : Fault) → failed_by a ≡ None → IsHonest (view a) → Anchors any_kind (view a) (kept a)
      → Stopped (promise any_kind view failed_by kept may) most reading (course_from (script.place + 1) (at_start form (kept a)) records).steps a b was is f → IsKeptAsPrinted form (kept a) script records was is (view b)
  stopped_kept most reading script records a b was is f whole honest anchors h =
      let part = part_of reading (λ s g. (promise any_kind view failed_by kept may).faults s g) (outcome any_kind (kept a) (commands_of h.printed)) (text_of h.printed) h.tried (kept b) was is f h.why in
      let split : (commands_of h.printed ++ commands_of h.tried) ++ commands_of h.rest ≡ commands_of (h.printed ++ (h.tried ++ h.rest)) =
      append_assoc (commands_of h.printed) (commands_of h.tried) (commands_of h.rest)
      ∙ ap (λ (l : List (Command AnyJob)). commands_of h.printed ++ l) (sym (commands_append h.tried h.rest)) ∙ sym (commands_append h.printed (h.tried ++ h.rest)) in
      record {
        printed = h.printed;
        rest = h.tried ++ h.rest;
        course = h.split;
        part = part.0;
        text = part.1;
        survive = λ image here. subst (λ (l : List (Command AnyJob)). Survives any_kind (kept a) l (length (commands_of h.printed)) image) split
            (survives_more any_kind (kept a) (commands_of h.printed ++ commands_of h.tried) (commands_of h.rest) (length (commands_of h.printed)) image ((h.keeps.kept whole honest anchors).survive image here));
      }

  ended : (most : ℕ) (reading : Type 0) (script : Records) (records : List Fields) (a b : E) (was is : Option (List ℕ)) (result : Result Report Fault) → failed_by a ≡ None → IsHonest (view a) → Anchors any_kind (view a) (kept a)
      → Ends (promise any_kind view failed_by kept may) most reading (course_from (script.place + 1) (at_start form (kept a)) records) a b was is result → IsKeptAsPrinted form (kept a) script records was is (view b)
  ended most reading script records a b was is (Ok x) whole honest anchors h = carried_kept script records a b was is whole honest anchors h.1
  ended most reading script records a b was is (Err (fault.BadScript at)) whole honest anchors h = carried_kept script records a b was is whole honest anchors h.1
  ended most reading script records a b was is (Err other) whole honest anchors h = stopped_kept most reading script records a b was is other whole honest anchors h

  pub kept_as_printed : (at_refusal : AtRefusal) (most : ℕ) (script : Records) (failed : Bool) (a b : E) (was is : Option (List ℕ)) (result : Result Report Fault) → Runs (promise any_kind view failed_by kept may) form at_refusal most script failed a b was is result
      → failed_by a ≡ None → IsHonest (view a) → Anchors any_kind (view a) (kept a) → (records : List Fields) × IfSome script.left (λ all. taken at_refusal (at_start form (kept a)) all ≡ records) × IsKeptAsPrinted form (kept a) script records was is (view b)
  kept_as_printed at_refusal most script failed a b was is result h whole honest anchors = (h.records, h.known, ended most (failed ≡ true) script h.records a b was is result whole honest anchors h.ends)
