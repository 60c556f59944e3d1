-- What comes of a command of a front's only client.
use Rattle.std.specs.Prelude.{◌≡◌, ◌⊎◌, ◌<◌, ◌≤◌, ◌^◌, ℕ, ◌+◌, ◌++◌, List, [], ◌∷◌, length, Some, Ok, Err, ⊤}
use Rattle.pfx_choice.specs.declared.faults.ChoiceFault.TheVariants.{NoMemory}
use Rattle.pfx_book.specs.Notes.{alone, commands_of, greatest, lost_in}
use Rattle.pfx_book.specs.declared.faults.BookFault.TheVariants as book
use Rattle.pfx_book.specs.declared.note.Note.{Note}
use Rattle.pfx_book.specs.declared.note.Note.TheVariants.{Accepted}
use Rattle.pfx_fault.specs.declared.fields.Cause.{Cause}
use Rattle.pfx_fault.specs.declared.fields.Cause.TheVariants.{Memory}
use Rattle.pfx_fault.specs.declared.refusals.Fault.{Fault}
use Rattle.pfx_fault.specs.declared.refusals.Fault.TheVariants as fault
use Rattle.pfx_front.specs.Sole.{state_of}
use Rattle.pfx_front.specs.declared.faults.CallFault as front
use Rattle.pfx_front.specs.declared.faults.CallFault.TheVariants as frontfault
use Rattle.pfx_machine.specs.Plain.{Plain}
use Rattle.pfx_machine.specs.Runs.{answer}
use Rattle.pfx_machine.specs.declared.command.Command.{Command}
use Rattle.pfx_machine.specs.declared.command.Reply.{Reply}
use Rattle.pfx_machine.specs.declared.faults.MachineFault.{MachineFault}
use Rattle.pfx_machine.specs.declared.faults.MachineFault.TheVariants.{NoRow}
use Rattle.pfx_store_engine.specs.Promises.{AreAnswered, slots_for}
use Rattle.pfx_store_engine.specs.Sharing.{AreTold, Told, accepted_of}
use Rattle.pfx_store_engine.specs.declared.engine.EngineFault.{EngineFault}
use Rattle.pfx_store_engine.specs.declared.engine.EngineFault.TheVariants as enginefault
use Rattle.pfx_front_engine.specs.Keeping.{HasReceipt, KeepsBy}
use Rattle.pfx_jobs.specs.Kind.{Kind}

-- what the machine's refusal is to a run: for want of memory the run ends
abbrev pub why_machine : MachineFault → EngineFault
why_machine (NoRow NoMemory) = enginefault.Failed fault.NoMemory
why_machine other = enginefault.Refused other

-- what a front's refusal is to a run
abbrev pub why_of : front.CallFault → EngineFault
why_of frontfault.NoMemory = enginefault.Failed fault.NoMemory
why_of (frontfault.Refused book.NoMemory) = enginefault.Failed fault.NoMemory
why_of (frontfault.Refused book.SessionFull) = enginefault.Failed fault.SessionFull
why_of (frontfault.Refused (book.Machine f)) = why_machine f
why_of (frontfault.StoreFailed marked cause) = enginefault.Failed (fault.StoreFailed marked cause)

-- a run over a front may end with this
abbrev pub MayEndRun : Fault → Type 0
MayEndRun fault.NoMemory = ⊤
MayEndRun fault.SessionFull = ⊤
MayEndRun (fault.StoreFailed marked cause) = ⊤
MayEndRun other = ⊥

-- memory was refused for the last receipt: more was accepted than up to this number, which is the start's or has a receipt
pub record LacksReceipt {J : Type 0} (K : Kind J) (start : Plain J) (notes : List (Note J)) (marked : ℕ) (cause : Cause) : Type 0 where
  pub memory : cause ≡ Memory
  pub behind : marked < (state_of K start notes).number
  pub kept : (marked ≡ start.number) ⊎ HasReceipt notes marked

-- what a front ends a run with, by its client's notes: memory was refused; the session has as many commands as it may; or the
-- client was told that the flusher gave up, for just this cause and behind just this mark, or memory was refused for the last receipt
abbrev pub IsFrontFault : {J : Type 0} → Kind J → Plain J → List (Note J) → Fault → Type 0
IsFrontFault K start notes fault.NoMemory = ⊤
IsFrontFault K start notes fault.SessionFull = 2 ^ 20 ≤ length (commands_of (alone notes))
IsFrontFault K start notes (fault.StoreFailed marked cause) = (lost_in notes ≡ Some (record { marked = marked; cause = cause })) ⊎ LacksReceipt K start notes marked cause
IsFrontFault K start notes other = ⊥

-- the machine refuses the command, or the front ends the run
abbrev pub IsReason : {J : Type 0} → Kind J → Plain J → List (Note J) → Command J → List (Note J) → EngineFault → Type 0
IsReason K start was c is (enginefault.Refused f) = answer K (state_of K start was) c ≡ Err f
IsReason K start was c is (enginefault.Failed f) = IsFrontFault K start is f

-- the command was accepted, as the machine does after the commands before it
pub record IsAnswered {J : Type 0} (K : Kind J) (start : Plain J) (was : List (Note J)) (c : Command J) (number : ℕ) (said : Reply)
    (is : List (Note J)) : Type 0 where
  pub accepted : answer K (state_of K start was) c ≡ Ok said
  pub next : number ≡ (state_of K start was).number + 1
  pub noted : alone is ≡ alone was ++ (1, Accepted number c said) ∷ []
  pub known : number ≤ greatest is

-- the command wasn't accepted, and no other was
pub record IsUnanswered {J : Type 0} (K : Kind J) (start : Plain J) (was : List (Note J)) (c : Command J) (is : List (Note J)) (why : EngineFault) : Type 0 where
  pub reason : IsReason K start was c is why
  pub stays : KeepsBy start.number was [] 0 is
  pub known : greatest was ≤ greatest is

-- Slots were accepted one after the other, some, and the number at the most, and nothing else was
pub record AreAsked {J : Type 0} (K : Kind J) (start : Plain J) (was : List (Note J)) (count : ℕ) (said : List (ℕ × Reply)) (is : List (Note J)) : Type 0 where
  pub some : 0 < length said
  pub few : length said ≤ count
  pub answered : AreAnswered K (state_of K start was) said
  pub kept : KeepsBy start.number was (slots_for said) 0 is

-- commands were asked for one after the other, and told so; those that were accepted needn't be kept yet
pub record AreAllAsked {J : Type 0} (K : Kind J) (start : Plain J) (was : List (Note J)) (H : List (Command J)) (told : List Told) (is : List (Note J)) : Type 0 where
  pub answered : AreTold K (state_of K start was) H told
  pub kept : KeepsBy start.number was (accepted_of H told) 0 is

-- some first ones were
pub record AreSomeAsked {J : Type 0} (K : Kind J) (start : Plain J) (was : List (Note J)) (H : List (Command J)) (is : List (Note J)) : Type 0 where
  pub took : List (Command J)
  pub rest : List (Command J)
  pub split : H ≡ took ++ rest
  pub said : List Told
  pub asked : AreAllAsked K start was took said is
