-- A list of commands given one after the other, of which some are refused.
use Rattle.std.specs.Prelude.{List, [], ◌∷◌, ◌++◌, Option, Some, None, Result, Ok, Err}
use Rattle.pfx_jobs.specs.Kind.{Kind}
use Rattle.pfx_machine.specs.Plain.{Plain}
use Rattle.pfx_machine.specs.Outcome.{outcome}
use Rattle.pfx_machine.specs.Refusals.{refusal, reply}
use Rattle.pfx_machine.specs.declared.command.Command.{Command}
use Rattle.pfx_machine.specs.declared.command.Reply.{Reply}
use Rattle.pfx_machine.specs.declared.faults.MachineFault.{MachineFault}

-- the commands before it, with a command that isn't refused after them
abbrev pub with_accepted : {J : Type 0} → List (Command J) → Command J → Option MachineFault → List (Command J)
with_accepted before c None = before ++ c ∷ []
with_accepted before c (Some fault) = before

-- the commands that are accepted, each after the accepted ones before it
abbrev pub accepted_behind : {J : Type 0} → Kind J → Plain J → List (Command J) → List (Command J) → List (Command J)
accepted_behind K B before [] = before
accepted_behind K B before (c ∷ H) = accepted_behind K B (with_accepted before c (refusal K (outcome K B before) c)) H

abbrev pub accepted : {J : Type 0} → Kind J → Plain J → List (Command J) → List (Command J)
accepted K B H = accepted_behind K B [] H

-- a command's answer: its reply, or why it is refused
abbrev pub answer_by : Reply → Option MachineFault → Result Reply MachineFault
answer_by said None = Ok said
answer_by said (Some fault) = Err fault

abbrev pub answer : {J : Type 0} → Kind J → Plain J → Command J → Result Reply MachineFault
answer K s c = answer_by (reply s c) (refusal K s c)

-- each command's answer after the accepted ones before it
abbrev pub answers_behind : {J : Type 0} → Kind J → Plain J → List (Command J) → List (Command J) → List (Result Reply MachineFault)
answers_behind K B before [] = []
answers_behind K B before (c ∷ H) = answer K (outcome K B before) c ∷ answers_behind K B (with_accepted before c (refusal K (outcome K B before) c)) H

abbrev pub answers : {J : Type 0} → Kind J → Plain J → List (Command J) → List (Result Reply MachineFault)
answers K B H = answers_behind K B [] H
