-- Lists of commands each of which is accepted where it stands, and their replies.
use Rattle.std.specs.Prelude.{◌≡◌, List, [], ◌∷◌, ◌++◌, None, ⊤}
use Rattle.pfx_jobs.specs.Kind.{Kind}
use Rattle.pfx_machine.specs.Plain.{Plain}
use Rattle.pfx_machine.specs.Outcome.{outcome}
use Rattle.pfx_machine.specs.Refusals.{refusal, reply}
use Rattle.pfx_machine.specs.declared.command.Command.{Command}
use Rattle.pfx_machine.specs.declared.command.Reply.{Reply}

-- each command of H is accepted after those before it
abbrev pub AllAccepted : {J : Type 0} → Kind J → Plain J → List (Command J) → List (Command J) → Type 0
AllAccepted K B before [] = ⊤
AllAccepted K B before (c ∷ H) = (refusal K (outcome K B before) c ≡ None) × AllAccepted K B (before ++ c ∷ []) H

abbrev pub IsAcceptable : {J : Type 0} → Kind J → Plain J → List (Command J) → Type 0
IsAcceptable K B H = AllAccepted K B [] H

-- each command's reply, after those before it
abbrev pub replies_behind : {J : Type 0} → Kind J → Plain J → List (Command J) → List (Command J) → List Reply
replies_behind K B before [] = []
replies_behind K B before (c ∷ H) = reply (outcome K B before) c ∷ replies_behind K B (before ++ c ∷ []) H

abbrev pub replies : {J : Type 0} → Kind J → Plain J → List (Command J) → List Reply
replies K B H = replies_behind K B [] H
