-- When a run may print, as what it prints on has it.
use Rattle.std.specs.Prelude.{◌≡◌, ◌+◌, ◌++◌, ℕ, List, [], ◌∷◌, length, Option, IfSome}
use Rattle.std.specs.Io.KnownBytes.{Appends}
use Rattle.pfx_machine.specs.declared.command.Reply.{Reply}
use Rattle.pfx_program.specs.Answers.{reply_line}
use Rattle.pfx_store_engine.specs.Promises.{Promise}
use Rattle.pfx_program.specs.Running.{run_of, ran_steps}
use Rattle.pfx_program.specs.Script.{Step, commands_of, course_from, taken, text_of}
use Rattle.pfx_program.specs.declared.form.OutputForm.{OutputForm}
use Rattle.pfx_program.specs.declared.report.AtRefusal.{AtRefusal}
use Rattle.pfx_program_script.specs.Records.{Fields, Records}
use Rattle.pfx_kinds.specs.declared.any.AnyJob.{AnyJob}

-- when a text may be printed: by this engine, behind what was written
abbrev pub Rule : Type 0 → Type 1
Rule E = E → Option (List ℕ) → List ℕ → Type 0

-- Of a course's steps the text of each may be printed, behind the texts of those before it and nothing else, by any engine that keeps
-- their commands and its own since the start; further ones may have been accepted by then.
abbrev pub MayPrint : {E : Type 0} → Promise AnyJob E → Rule E → E → Option (List ℕ) → List Step → Type 0
MayPrint {E} P allows start was steps = (printed : List Step) → (x : Step) → (tried rest : List Step) → steps ≡ printed ++ x ∷ (tried ++ rest) → (now : E)
    → P.keeps start (commands_of (printed ++ x ∷ tried)) (length (commands_of (printed ++ x ∷ []))) now → (is : Option (List ℕ)) → Appends was is (text_of printed) → allows now is x.text

-- the line of each of these may be printed by this engine, behind the lines of those before it
abbrev pub MayTell : {E A : Type 0} → Rule E → E → Option (List ℕ) → (A → List ℕ) → (List A → List ℕ) → List A → Type 0
MayTell {E} {A} allows engine was line lines xs = (front : List A) → (x : A) → (back : List A) → xs ≡ front ++ x ∷ back → (is : Option (List ℕ)) → Appends was is (lines front) → allows engine is (line x)

-- the line of a Slot that was carried out, and the lines of some
abbrev pub line_of : OutputForm → ℕ × Reply → List ℕ
line_of form x = reply_line form x.0 x.1

abbrev pub lines_of : OutputForm → List (ℕ × Reply) → List ℕ
lines_of form said = text_of (ran_steps form said)

-- whatever records a run takes of those that a script has left, as far as they are known: of their course from here on each text may be printed so
abbrev pub MayRun : {E : Type 0} → Promise AnyJob E → Rule E → OutputForm → AtRefusal → Records → ℕ → E → Option (List ℕ) → Type 0
MayRun P allows form at_refusal script accepted engine was = (records : List Fields) → IfSome script.left (λ all. taken at_refusal (run_of P form engine accepted) all ≡ records)
    → MayPrint P allows engine was (course_from (script.place + 1) (run_of P form engine accepted) records).steps
