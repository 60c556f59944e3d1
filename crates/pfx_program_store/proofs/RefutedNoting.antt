-- Worked rows: for each field of what a noted run leaves, a run of which it doesn't hold. A definition that says less lets them pass, and
-- its row fails.
use Rattle.std.specs.Prelude.{Bool}
use Rattle.std.proofs.Common.{◌≡◌, ◌+◌, ◌++◌, ℕ, List, [], ◌∷◌, length, Option, Some, None, IfSome, Result, Ok, Err, true, false, refl, sym, ap, subst, ◌∙◌, arith, append_assoc}
use Rattle.std.proofs.lemmas.Bool.{false≢true}
use Rattle.std.proofs.lemmas.Option.{none-some}
use Rattle.pfx_disk_chronicle.specs.declared.made.Made.{Made}
use Rattle.pfx_disk.specs.Disk.{View, IsHonest}
use Rattle.pfx_fault.specs.declared.fields.Cause.{Cause}
use Rattle.pfx_fault.specs.declared.fields.Cause.TheVariants as cause
use Rattle.pfx_fault.specs.declared.refusals.Fault.{Fault}
use Rattle.pfx_fault.specs.declared.refusals.Fault.TheVariants as fault
use Rattle.pfx_store_header.specs.Headers.{read_header}
use Rattle.pfx_kinds.specs.AnyKind.{any_kind}
use Rattle.pfx_kinds.specs.declared.any.AnyJob.{AnyJob}
use Rattle.pfx_machine.proofs.Compose.{outcome-none}
use Rattle.pfx_machine.specs.Outcome.{outcome}
use Rattle.pfx_machine.specs.Plain.{Plain}
use Rattle.pfx_machine.specs.declared.command.Command.{Command}
use Rattle.pfx_program.proofs.StepLemmas.{commands_append}
use Rattle.pfx_program.specs.Script.{Step, at_start, commands_of, course_from, taken}
use Rattle.pfx_program.specs.Reports.{first_of}
use Rattle.pfx_program.specs.declared.report.RefusedRecord.{RefusedRecord}
use Rattle.pfx_program.proofs.RunLemmas.{taken_none}
use Rattle.pfx_program.specs.declared.report.AtRefusal.{AtRefusal}
use Rattle.pfx_program.specs.declared.report.Report.{Report}
use Rattle.pfx_program.specs.declared.form.OutputForm.{OutputForm}
use Rattle.pfx_store_image.specs.Recovery.{found, recovered}
use Rattle.pfx_program_script.specs.Records.{Fields, Records}
use Rattle.pfx_program_store.specs.Noting.{IsAloneFault, IsNotedRun}
use Rattle.pfx_store_engine.specs.Surviving.{Survives}

-- whether something was found
abbrev is_ok : {A E : Type 0} → Result A E → Bool
is_ok (Ok x) = true
is_ok (Err e) = false

none_first : {A : Type 0} (xs ys : List A) → xs ++ ys ≡ [] → xs ≡ []
none_first [] ys h = refl
none_first (x ∷ xs) ys h = cc

-- a script without records has no command, and its course comes to its end
no_commands : (at : ℕ) (form : OutputForm) (s : Plain AnyJob) → commands_of (course_from at (at_start form s) []).steps ≡ []
unfolding course_from
no_commands at form s = refl

no_end : (at : ℕ) (form : OutputForm) (s : Plain AnyJob) → (course_from at (at_start form s) []).ends_at ≡ None
unfolding course_from
no_end at form s = refl

no_refusals : (at : ℕ) (form : OutputForm) (s : Plain AnyJob) → (course_from at (at_start form s) []).refusals ≡ []
unfolding course_from
no_refusals at form s = refl

-- nothing is found in an empty file
not_in_nothing : (s : Plain AnyJob) (H : List (Command AnyJob)) (n : ℕ) → Survives any_kind s H n [] → ⊥
unfolding recovered found read_header
not_in_nothing s H n h = false≢true (ap is_ok h.recovered)

-- where nothing was printed no command was kept, so a failed disk's answer doesn't name the next one
kept_of_nothing : (may : Cause → Type 0) (s : Plain AnyJob) → IsAloneFault may s [] (fault.StoreFailed (s.number + 1) cause.Device) → ⊥
kept_of_nothing may s h =
    let same = ap marked_in h.2 ∙ ap (λ (t : Plain AnyJob). t.number) (outcome-none any_kind s) in
    omega (arith, same)
  where
    marked_in : Fault → ℕ
    marked_in (fault.StoreFailed marked why) = marked
    marked_in other = 0

-- and its cause is one of those that may be
cause_of_another : (s : Plain AnyJob) (marked : ℕ) → IsAloneFault (λ why. why ≡ cause.Device) s [] (fault.StoreFailed marked cause.Log) → ⊥
cause_of_another s marked h = let (why, is, same) = h in let log = ap cause_in same ∙ is in cc
  where
    cause_in : Fault → Cause
    cause_in (fault.StoreFailed marked why) = why
    cause_in other = cause.Device

module _ (may : Cause → Type 0) (form : OutputForm) (at_refusal : AtRefusal) (s : Plain AnyJob) (script : Records) (none : script.left ≡ Some []) (failed : Bool) (was is : Option (List ℕ)) (held : Type 0) (made : List Made) (disk : View) (t : Plain AnyJob) where
  records_none : (image : List ℕ) (result : Result Report Fault) (h : IsNotedRun may form at_refusal s script failed was is held image made disk t result) → h.records ≡ []
  records_none image result h = sym (subst (λ (left : Option (List Fields)). IfSome left (λ all. taken at_refusal (at_start form s) all ≡ h.records)) none h.known) ∙ taken_none at_refusal (at_start form s)

  -- nothing was left to run, and no record was without form
  ends_nowhere : (image : List ℕ) (at : ℕ) → IsNotedRun may form at_refusal s script failed was is held image made disk t (Err (fault.BadScript at)) → ⊥
  ends_nowhere image at h =
      none-some at (sym (no_end (script.place + 1) form s) ∙ ap (λ (l : List Fields). (course_from (script.place + 1) (at_start form s) l).ends_at) (sym (records_none image _ h)) ∙ h.ends.0)

  -- nothing is reported of it
  report_lost : (image : List ℕ) (report : Report) → report.accepted ≡ 1 → IsNotedRun may form at_refusal s script failed was is held image made disk t (Ok report) → ⊥
  report_lost image report one h =
      let none : report.accepted ≡ 0 =
      h.ends.3.accepted ∙ ap (λ (l : List Fields). length (commands_of (course_from (script.place + 1) (at_start form s) l).steps)) (records_none image _ h) ∙ ap length (no_commands (script.place + 1) form s) in
      omega (arith, one, none)

  refusal_lost : (image : List ℕ) (report : Report) → report.refused ≡ 1 → IsNotedRun may form at_refusal s script failed was is held image made disk t (Ok report) → ⊥
  refusal_lost image report one h =
      let none : report.refused ≡ 0 =
      h.ends.3.refused ∙ ap (λ (l : List Fields). length (course_from (script.place + 1) (at_start form s) l).refusals) (records_none image _ h) ∙ ap length (no_refusals (script.place + 1) form s) in
      omega (arith, one, none)

  first_lost : (image : List ℕ) (report : Report) (x : RefusedRecord) → report.first ≡ Some x → IsNotedRun may form at_refusal s script failed was is held image made disk t (Ok report) → ⊥
  first_lost image report x some h =
      none-some x (sym (h.ends.3.first ∙ ap (λ (l : List Fields). first_of (course_from (script.place + 1) (at_start form s) l).refusals) (records_none image _ h) ∙ ap first_of (no_refusals (script.place + 1) form s)) ∙ some)

  -- a script without commands leaves the store where it was
  state_lost : (image : List ℕ) (result : Result Report Fault) → t.number ≡ s.number + 1 → IsNotedRun may form at_refusal s script failed was is held image made disk t result → ⊥
  state_lost image result next h =
      let whole : (h.printed ++ h.tried) ++ h.back ≡ (course_from (script.place + 1) (at_start form s) []).steps =
      append_assoc h.printed h.tried h.back ∙ ap (λ (l : List Step). h.printed ++ l) (sym h.untold) ∙ sym h.course
      ∙ ap (λ (l : List Fields). (course_from (script.place + 1) (at_start form s) l).steps) (records_none image result h) in
      let nothing : commands_of (h.printed ++ h.tried) ≡ [] =
      none_first (commands_of (h.printed ++ h.tried)) (commands_of h.back)
      (sym (commands_append (h.printed ++ h.tried) h.back) ∙ ap commands_of whole ∙ no_commands (script.place + 1) form s) in
      let same = ap (λ (p : Plain AnyJob). p.number) (h.state ∙ ap (outcome any_kind s) nothing ∙ outcome-none any_kind s) in
      omega (arith, next, same)

  -- the disk held nothing, no call was made, and a stop leaves nothing
  kept_nowhere : (result : Result Report Fault) → held → IsNotedRun may form at_refusal s script failed was is held [] [] disk t result → ⊥
  kept_nowhere result so h = not_in_nothing s _ _ (h.kept so [] refl)

  -- an honest disk that may hold nothing after a stop
  on_disk_nowhere : (image : List ℕ) (result : Result Report Fault) → IsHonest disk → disk.now [] → IsNotedRun may form at_refusal s script failed was is held image made disk t result → ⊥
  on_disk_nowhere image result honest here h = not_in_nothing s _ _ (h.on_disk honest [] here)

-- an honest disk, and bytes that it didn't hold
premise_lost : (may : Cause → Type 0) (form : OutputForm) (at_refusal : AtRefusal) (s : Plain AnyJob) (script : Records) (failed : Bool) (was is : Option (List ℕ)) (image : List ℕ) (made : List Made) (disk : View) (t : Plain AnyJob) (result : Result Report Fault)
    → IsHonest disk → IsNotedRun may form at_refusal s script failed was is ⊥ image made disk t result → ⊥
premise_lost may form at_refusal s script failed was is image made disk t result honest h = h.premise honest
