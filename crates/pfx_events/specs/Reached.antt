-- Worlds that a run leads to, from a store just found or from one that goes on, and what holds of them.
use Rattle.std.specs.Prelude.{◌≡◌, ◌≢◌, ℕ, ◌+◌, List, [], ◌∷◌, length, true, false, None}
use Rattle.pfx_disk.specs.Stop.{Act}
use Rattle.pfx_machine.specs.Plain.{Plain}
use Rattle.pfx_machine.specs.declared.command.Command.{Command}
use Rattle.pfx_events_world.specs.Calls.{MayLeave}
use Rattle.pfx_events_world.specs.Claims.{IsReceipted, IsOrderly, IsShown, HasSurvived, IsRecovered, IsLater}
use Rattle.pfx_events_world.specs.Events.{Event, Ask, Begin, Step, Give, Seal, Abandon, Take, Tend, Device, Publish, Mark, Fail, Receipt, Look}
use Rattle.pfx_events_world.specs.Events.{Stop}
use Rattle.pfx_events_world.specs.Events.{MayHappen, CanRun, happens, run}
use Rattle.pfx_events_world.specs.Setting.{Setting, Settled}
use Rattle.pfx_events_world.specs.World.{World, new_world}

-- an event with which the store has nothing to do: none of its acts, no call of its disk and no stop
abbrev pub IsAside : {J : Type 0} → Event J → Type 0
IsAside (Ask c) = Unit {0}
IsAside Begin = Unit {0}
IsAside (Step k) = Unit {0}
IsAside (Give k place) = Unit {0}
IsAside Seal = Unit {0}
IsAside Abandon = Unit {0}
IsAside (Take n) = ⊥
IsAside Tend = ⊥
IsAside (Device ok) = ⊥
IsAside Publish = Unit {0}
IsAside Mark = Unit {0}
IsAside Fail = Unit {0}
IsAside (Receipt n) = Unit {0}
IsAside (Look reader n) = Unit {0}
IsAside (Stop image) = ⊥

-- all of them are such
abbrev pub AreAside : {J : Type 0} → List (Event J) → Type 0
AreAside [] = Unit {0}
AreAside (e ∷ events) = IsAside e × AreAside events

module _ {J : Type 0} where
  -- nothing is accepted yet, and these calls of the disk were made since the image: pieces of a checkpoint may be among them
  abbrev pub going_world : (S : Setting J) → Plain J → List ℕ → List Act → S.Parts → World S
  going_world S B image done place = record (new_world S B image place) { done = done }

  -- A run leads to this world, and it began where a read and each image that a stop may leave stood for this start.
  pub record IsReached (S : Setting J) (B : Plain J) (w : World S) : Type 0 where
    pub image : List ℕ
    pub done : List Act
    pub place : S.Parts
    pub events : List (Event J)
    pub settled : Settled S image done B place
    pub can : CanRun S B (going_world S B image done place) events
    pub is : run S B (going_world S B image done place) events ≡ w

  -- nothing is under way, and all that was accepted is marked
  pub record IsAtRest (S : Setting J) (w : World S) : Type 0 where
    pub none : w.coming ≡ []
    pub whole : w.broken ≡ false
    pub goes_on : w.book.halted ≡ false
    pub shut : w.book.opened ≡ None
    pub marked : w.book.marked ≡ w.book.taken
    pub taken : w.book.taken ≡ length w.book.accepted

  -- these events lead to a world at rest that has accepted these commands; the last has its receipt, and no receipt is lost
  pub record Reaches (S : Setting J) (B : Plain J) (w : World S) (H : List (Command J)) (events : List (Event J)) : Type 0 where
    pub can : CanRun S B w events
    pub rests : IsAtRest S (run S B w events)
    pub accepted : (run S B w events).book.accepted ≡ H
    pub receipt : IsReceipted (B.number + length H) (run S B w events).book.receipts
    pub receipts : (n : ℕ) → IsReceipted n w.book.receipts → IsReceipted n (run S B w events).book.receipts

  -- A command is asked and taken, and a stop comes within its append. The next start's sync goes through, and what is left is
  -- at rest, with the receipts of before.
  pub record IsStopped (S : Setting J) (B : Plain J) (w : World S) (c : Command J) (left : List ℕ) : Type 0 where
    pub can : CanRun S B w (Ask c ∷ Take 1 ∷ Stop left ∷ Device true ∷ [])
    pub under_way : (run S B w (Ask c ∷ Take 1 ∷ [])).coming ≢ []
    pub rests : IsAtRest S (run S B w (Ask c ∷ Take 1 ∷ Stop left ∷ Device true ∷ []))
    pub receipts : (run S B w (Ask c ∷ Take 1 ∷ Stop left ∷ Device true ∷ [])).book.receipts ≡ w.book.receipts

  -- the claims, of one world, each stop of it and each event that may come next
  pub record KeepsClaims (S : Setting J) (B : Plain J) (w : World S) : Type 0 where
    pub orderly : IsOrderly S B w
    pub shown : IsShown S B w
    pub survived : HasSurvived S B w
    pub recovers : (left : List ℕ) → MayLeave w.start w.done w.coming left → IsRecovered S B w (happens S B w (Stop left)) left
    pub later : (e : Event J) → MayHappen S B w e → IsLater S w (happens S B w e)
