-- Several commands that one call of an engine carries out.
use Rattle.std.specs.Prelude.{◌≡◌, ◌⊎◌, ⊤, ℕ, ◌+◌, ◌++◌, length, List, [], ◌∷◌, Result, Ok, Err}
use Rattle.pfx_jobs.specs.Kind.{Kind}
use Rattle.pfx_machine.specs.Plain.{Plain}
use Rattle.pfx_machine.specs.Outcome.{outcome}
use Rattle.pfx_machine.specs.Runs.{answer}
use Rattle.pfx_machine.specs.declared.command.Command.{Command}
use Rattle.pfx_machine.specs.declared.command.Command.TheVariants.{Submit, Slot, Withdraw, Reweigh}
use Rattle.pfx_machine.specs.declared.command.Reply.{Reply}
use Rattle.pfx_machine.specs.declared.faults.MachineFault.{MachineFault}
use Rattle.pfx_store_engine.specs.Promises.{Promise}

-- a command that gives a task a job or takes one away
abbrev pub IsChange : {J : Type 0} → Command J → Type 0
IsChange (Submit x job) = ⊤
IsChange (Withdraw x) = ⊤
IsChange Slot = ⊥
IsChange (Reweigh workers weights) = ⊥

abbrev pub AreChanges : {J : Type 0} → List (Command J) → Type 0
AreChanges [] = ⊤
AreChanges (c ∷ H) = IsChange c × AreChanges H

-- what a command is told: its number and its reply, or why it is refused
abbrev pub Told : Type 0
Told = Result (ℕ × Reply) MachineFault

-- each of these commands is told so after the accepted ones before it, from the state on
abbrev pub AreTold : {J : Type 0} → Kind J → Plain J → List (Command J) → List Told → Type 0
AreTold K s [] [] = ⊤
AreTold K s [] (x ∷ told) = ⊥
AreTold K s (c ∷ H) [] = ⊥
AreTold K s (c ∷ H) (Ok x ∷ told) = (answer K s c ≡ Ok x.1) × (x.0 ≡ s.number + 1) × AreTold K (outcome K s (c ∷ [])) H told
AreTold K s (c ∷ H) (Err f ∷ told) = (answer K s c ≡ Err f) × AreTold K s H told

-- the commands that are told a number
abbrev pub accepted_of : {J : Type 0} → List (Command J) → List Told → List (Command J)
accepted_of [] told = []
accepted_of (c ∷ H) [] = []
accepted_of (c ∷ H) (Ok x ∷ told) = c ∷ accepted_of H told
accepted_of (c ∷ H) (Err f ∷ told) = accepted_of H told

-- the commands were carried out one after the other, and each one that was accepted is kept
pub record AreAllDone {J E : Type 0} (K : Kind J) (P : Promise J E) (H : List (Command J)) (told : List Told) (old new : E) : Type 0 where
  pub answered : AreTold K (P.state old) H told
  pub state : P.state new ≡ outcome K (P.state old) (accepted_of H told)
  pub keeps : P.keeps old (accepted_of H told) (length (accepted_of H told)) new
  pub settled : P.settled new

-- of some first ones it isn't known how many are kept, and the others were not carried out
pub record AreAllLeft {J E : Type 0} (K : Kind J) (P : Promise J E) (H : List (Command J)) (old new : E) : Type 0 where
  pub took : List (Command J)
  pub rest : List (Command J)
  pub split : H ≡ took ++ rest
  pub said : List Told
  pub answered : AreTold K (P.state old) took said
  pub state : (P.state new ≡ P.state old) ⊎ (P.state new ≡ outcome K (P.state old) (accepted_of took said))
  pub keeps : P.keeps old (accepted_of took said) 0 new
