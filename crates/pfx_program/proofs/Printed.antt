-- Worked rows of when a run may print: what a line waits for, and what stands before it.
use Rattle.std.specs.Prelude.{IfSome}
use Rattle.std.proofs.Common.{◌≡◌, ◌≤◌, ◌+◌, ◌++◌, ℕ, List, [], ◌∷◌, length, Option, Some, None, refl, sym, ap, subst, arith, length-append}
use Rattle.std.proofs.lemmas.Option.{same_Some}
use Rattle.std.specs.Io.KnownBytes.{Appends}
use Rattle.pfx_kinds.specs.declared.any.AnyJob.{AnyJob}
use Rattle.pfx_machine.specs.Plain.{Plain}
use Rattle.pfx_machine.specs.declared.command.Command.{Command}
use Rattle.pfx_machine.specs.declared.command.Command.TheVariants.{Slot}
use Rattle.pfx_program.specs.Printing.{MayPrint, MayRun, MayTell, Rule}
use Rattle.pfx_store_engine.specs.Promises.{Promise}
use Rattle.pfx_program.specs.Script.{Step, carried, course_from, taken, with_command}
use Rattle.pfx_program.specs.declared.form.OutputForm.{OutputForm}
use Rattle.pfx_program.specs.declared.report.AtRefusal.{AtRefusal}
use Rattle.pfx_program_script.specs.Records.{Fields, Records}

-- a Slot that prints one byte
abbrev pub slot : Step
slot = carried (7 ∷ []) Slot

abbrev first_command : List Step → Option (Command AnyJob)
first_command [] = None
first_command (x ∷ steps) = x.command

-- a text may be printed once so many commands are kept
abbrev behind : ℕ → Rule ℕ
behind n kept is text = n ≤ kept

-- a text may be printed as the first one alone
abbrev as_first : Rule ℕ
as_first kept is text = is ≡ Some []

module _ (s : Plain AnyJob) where
  -- an engine that is known by how many commands it keeps
  abbrev counted : Promise AnyJob ℕ
  counted = record { state = λ kept. s; faults = λ t f. ⊥; settled = λ kept. ⊥; keeps = λ start H n kept. n ≤ kept }

  -- the line of a command waits until the command is kept
  line_of_what_is_kept : MayPrint counted (behind 1) 0 (Some []) (slot ∷ [])
  line_of_what_is_kept [] x tried rest split kept keeps is appended =
      subst (λ (c : Option (Command AnyJob)). length (with_command c []) ≤ kept) (sym (ap first_command split)) keeps
  line_of_what_is_kept (y ∷ printed) x tried rest split kept keeps is appended =
      let long = ap length split in
      let more = length-append printed (x ∷ (tried ++ rest)) in
      absurd (omega (arith, long, more))

  -- and no longer
  line_that_waits_for_two : MayPrint counted (behind 2) 0 (Some []) (slot ∷ []) → ⊥
  line_that_waits_for_two may =
      let two : 2 ≤ 1 = may [] slot [] [] refl 1 (omega arith) (Some []) refl in
      omega (arith, two)

  -- the second line stands behind the first
  second_is_not_first : MayPrint counted as_first 0 (Some []) (slot ∷ slot ∷ []) → ⊥
  second_is_not_first may =
      let none : Some (7 ∷ []) ≡ Some [] = may (slot ∷ []) slot [] [] refl 2 (omega arith) (Some (7 ∷ [])) refl in
      let long : 1 ≡ 0 = ap length (same_Some {A = List ℕ} (7 ∷ []) [] none) in
      omega (arith, long)

  -- so do the lines of some Slots
  told_is_not_first : MayTell as_first 2 (Some []) (λ (byte : ℕ). byte ∷ []) (λ bytes. bytes) (7 ∷ 8 ∷ []) → ⊥
  told_is_not_first may =
      let none : Some (7 ∷ []) ≡ Some [] = may (7 ∷ []) 8 [] refl (Some (7 ∷ [])) refl in
      let long : 1 ≡ 0 = ap length (same_Some {A = List ℕ} (7 ∷ []) [] none) in
      omega (arith, long)

  -- at the end of a script a line is printed, whatever its records were
  end_is_printed : (form : OutputForm) (at_refusal : AtRefusal) (script : Records) → script.left ≡ None → MayRun counted (behind 1) form at_refusal script 0 0 (Some []) → ⊥
  unfolding course_from
  end_is_printed form at_refusal script unknown may =
      let none : 1 ≤ 0 = may [] (subst (λ (l : Option (List Fields)). IfSome l (λ all. taken at_refusal (record { form = form; state = s; accepted = 0 }) all ≡ [])) (sym unknown) tt) [] _ [] [] refl 0 (omega arith) (Some []) refl in
      omega (arith, none)
