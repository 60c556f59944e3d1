-- What an engine is to the callers of its calls.
use Rattle.std.specs.Prelude.{◌≡◌, ℕ, ◌+◌, ◌<◌, ◌≤◌, ◌++◌, ◌⊎◌, length, List, [], ◌∷◌, map, Option, Some, None, Ok, Err, slice_get, ⊤}
use Rattle.pfx_columns.specs.Ledgers.{task}
use Rattle.pfx_jobs.specs.Kind.{Kind}
use Rattle.pfx_machine.specs.Plain.{Plain, whole}
use Rattle.pfx_machine.specs.Outcome.{outcome}
use Rattle.pfx_machine.specs.Runs.{answer}
use Rattle.pfx_machine.specs.Board.{all_lines}
use Rattle.pfx_machine.specs.declared.board.Board.{Board}
use Rattle.pfx_machine.specs.declared.command.Command.{Command}
use Rattle.pfx_machine.specs.declared.command.Command.TheVariants.{Slot}
use Rattle.pfx_machine.specs.declared.command.Reply.{Reply}
use Rattle.pfx_fault.specs.declared.refusals.Fault.{Fault}
use Rattle.pfx_fault.specs.declared.refusals.Fault.TheVariants as fault
use Rattle.pfx_store_engine.specs.declared.place.RealTask.{RealTask}
use Rattle.pfx_store_engine.specs.declared.engine.EngineFault.{EngineFault}
use Rattle.pfx_store_engine.specs.declared.engine.EngineFault.TheVariants as enginefault

-- What an engine of this type is: the state that its accepted commands made; what its calls fail with in a state, besides
-- NoMemory; whether all that was accepted is kept; and what is kept from one engine to a later one: these commands were
-- accepted between them, and so many of them are kept for good.
pub record Promise (J E : Type 0) : Type 1 where
  pub state : E → Plain J
  pub faults : Plain J → Fault → Type 0
  pub settled : E → Type 0
  pub keeps : E → List (Command J) → ℕ → E → Type 0

-- what is kept of no command, of some commands and then of more, and that fewer are kept where more are
pub record Laws {J E : Type 0} (P : Promise J E) : Type 0 where
  pub none : (e : E) → P.keeps e [] 0 e
  pub more : (a b c : E) (H G : List (Command J)) (n : ℕ) → (P.settled a → P.settled b) → P.keeps a H (length H) b
      → P.keeps b G n c → P.keeps a (H ++ G) (length H + n) c
  pub fewer : (a b : E) (H : List (Command J)) (n m : ℕ) → m ≤ n → P.keeps a H n b → P.keeps a H m b

-- a fault of an engine's call
abbrev pub IsEngineFault : {J : Type 0} → (Plain J → Fault → Type 0) → Plain J → Fault → Type 0
IsEngineFault faults s fault.NoMemory = ⊤
IsEngineFault faults s fault.InputFailed = ⊥
IsEngineFault faults s fault.OutputFailed = ⊥
IsEngineFault faults s (fault.BadScript at) = ⊥
IsEngineFault faults s other = faults s other

-- nothing was done
pub record IsSame {J E : Type 0} (P : Promise J E) (old new : E) : Type 0 where
  pub state : P.state new ≡ P.state old
  pub keeps : P.keeps old [] 0 new

-- a command was carried out, and is kept
pub record IsDone {J E : Type 0} (K : Kind J) (P : Promise J E) (c : Command J) (number : ℕ) (reply : Reply) (old new : E) : Type 0 where
  pub accepted : answer K (P.state old) c ≡ Ok reply
  pub next : number ≡ (P.state old).number + 1
  pub state : P.state new ≡ outcome K (P.state old) (c ∷ [])
  pub keeps : P.keeps old (c ∷ []) 1 new
  pub settled : P.settled new

-- a command was accepted, and it isn't known whether it is kept
pub record IsInDoubt {J E : Type 0} (K : Kind J) (P : Promise J E) (c : Command J) (old new : E) : Type 0 where
  pub reply : Reply
  pub accepted : answer K (P.state old) c ≡ Ok reply
  pub state : (P.state new ≡ P.state old) ⊎ (P.state new ≡ outcome K (P.state old) (c ∷ []))
  pub keeps : P.keeps old (c ∷ []) 0 new

-- a failed call leaves the state for want of memory, and else has done nothing or leaves its command in doubt
abbrev pub IsLeftBy : {J E : Type 0} → Kind J → Promise J E → Command J → E → E → Fault → Type 0
IsLeftBy K P c old new fault.NoMemory = IsSame P old new
IsLeftBy K P c old new other = IsSame P old new ⊎ IsInDoubt K P c old new

-- why a command has no answer: the machine refuses it, which changes nothing, or the engine failed
abbrev pub IsNotDone : {J E : Type 0} → Kind J → Promise J E → Command J → E → E → EngineFault → Type 0
IsNotDone K P c old new (enginefault.Refused f) = (answer K (P.state old) c ≡ Err f) × IsSame P old new × (P.settled old → P.settled new)
IsNotDone K P c old new (enginefault.Failed f) = IsEngineFault P.faults (P.state old) f × IsLeftBy K P c old new f

-- ---- several Slots in one call

-- so many Slots
abbrev pub slots_for : {A J : Type 0} → List A → List (Command J)
slots_for said = map (λ x. Slot) said

-- each of these Slots is accepted after those before it, from the state on, with its number and its reply
abbrev pub AreAnswered : {J : Type 0} → Kind J → Plain J → List (ℕ × Reply) → Type 0
AreAnswered K s [] = ⊤
AreAnswered K s (x ∷ said) = (answer K s Slot ≡ Ok x.1) × (x.0 ≡ s.number + 1) × AreAnswered K (outcome K s (Slot ∷ [])) said

-- some Slots were carried out, the number at the most, and all of them are kept
pub record AreDone {J E : Type 0} (K : Kind J) (P : Promise J E) (count : ℕ) (said : List (ℕ × Reply)) (old new : E) : Type 0 where
  pub some : 0 < length said
  pub few : length said ≤ count
  pub answered : AreAnswered K (P.state old) said
  pub state : P.state new ≡ outcome K (P.state old) (slots_for said)
  pub keeps : P.keeps old (slots_for said) (length said) new
  pub settled : P.settled new

-- some Slots were accepted, the number at the most, and it isn't known how many of them are kept
pub record AreInDoubt {J E : Type 0} (K : Kind J) (P : Promise J E) (count : ℕ) (old new : E) : Type 0 where
  pub said : List (ℕ × Reply)
  pub few : length said ≤ count
  pub answered : AreAnswered K (P.state old) said
  pub state : (P.state new ≡ P.state old) ⊎ (P.state new ≡ outcome K (P.state old) (slots_for said))
  pub keeps : P.keeps old (slots_for said) 0 new

-- a failed call leaves the state for want of memory, and else has done nothing or leaves its Slots in doubt
abbrev pub AreLeftBy : {J E : Type 0} → Kind J → Promise J E → ℕ → E → E → Fault → Type 0
AreLeftBy K P count old new fault.NoMemory = IsSame P old new
AreLeftBy K P count old new other = IsSame P old new ⊎ AreInDoubt K P count old new

-- why no Slot has an answer: the machine refuses the first, which changes nothing, or the engine failed
abbrev pub AreNotDone : {J E : Type 0} → Kind J → Promise J E → ℕ → E → E → EngineFault → Type 0
AreNotDone K P count old new (enginefault.Refused f) = (answer K (P.state old) Slot ≡ Err f) × IsSame P old new × (P.settled old → P.settled new)
AreNotDone K P count old new (enginefault.Failed f) = IsEngineFault P.faults (P.state old) f × AreLeftBy K P count old new f

-- the board is that of the state
pub record Shows {J : Type 0} (K : Kind J) (s : Plain J) (board : Board) : Type 0 where
  pub number : board.number ≡ s.number
  pub slot : board.slot ≡ whole s
  pub from : board.from ≡ s.from
  pub lines : board.lines.items ≡ all_lines K s

-- what a real task of the state has, or that the state has none of this number
abbrev pub IsPlace : {J : Type 0} → Plain J → ℕ → Option (RealTask J) → Type 0
IsPlace s x None = slice_get s.jobs x ≡ None
IsPlace s x (Some place) = (slice_get s.jobs x ≡ Some place.job) × (place.allocation ≡ (task s.ledger x).alloc) × (place.from ≡ s.from)
