-- What holds in every run from a new store.
use Rattle.std.specs.Prelude.{◌≡◌, ◌⊎◌, ℕ, ◌≤◌, List, [], ◌∷◌, ◌++◌, length, take, Some}
use Rattle.pfx_machine.specs.Plain.{Plain, IsState}
use Rattle.pfx_machine.specs.Outcome.{outcome}
use Rattle.pfx_machine.specs.Sessions.{IsAcceptable}
use Rattle.pfx_machine.specs.declared.command.Command.{Command}
use Rattle.pfx_events_world.specs.Calls.{MayLeave}
use Rattle.pfx_events_world.specs.Setting.{Setting}
use Rattle.pfx_events_world.specs.World.{World, new_world, state_at}
use Rattle.pfx_events_world.specs.Events.{Event, Stop, Begins, run, CanRun}

-- a receipt was given for this number
abbrev pub IsReceipted : ℕ → List (ℕ × ℕ) → Type 0
IsReceipted n [] = ⊥
IsReceipted n (r ∷ receipts) = (n ≡ r.0) ⊎ IsReceipted n receipts

module _ {J : Type 0} where
  -- each of these images stands for the state after a beginning of the commands, whose last number is at least n
  pub record Survives (S : Setting J) (B : Plain J) (accepted : List (Command J)) (n : ℕ) (images : List ℕ → Type 0) : Type 0 where
    pub each : (image : List ℕ) → images image → (k : ℕ) × (p : S.Parts) × (k ≤ length accepted)
        × (S.recovered image ≡ Some (state_at S B accepted k, p)) × (n ≤ (state_at S B accepted k).number)

  -- a file that stands for this start
  abbrev pub IsNew : (S : Setting J) → Plain J → List ℕ → S.Parts → Type 0
  IsNew S B image p = S.recovered image ≡ Some (B, p)

  -- the accepted commands are acceptable, the book's state is their outcome, and at each front of them the state is one: fair
  pub record IsOrderly (S : Setting J) (B : Plain J) (w : World S) : Type 0 where
    pub acceptable : IsAcceptable S.kind B w.book.accepted
    pub state : w.book.state ≡ outcome S.kind B w.book.accepted
    pub fair : (k : ℕ) → k ≤ length w.book.accepted → IsState (state_at S B w.book.accepted k)

  -- what is published, and what each reader sees, begins what the store appended
  pub record IsShown (S : Setting J) (B : Plain J) (w : World S) : Type 0 where
    pub kept : w.kept ≤ length w.book.accepted
    pub published : Begins w.published (take w.kept w.book.accepted)
    pub readers : (reader : ℕ) → Begins (w.readers reader) (take w.kept w.book.accepted)

  -- what a stop may leave, now or within the coming call, holds the start and every receipted command
  pub record HasSurvived (S : Setting J) (B : Plain J) (w : World S) : Type 0 where
    pub always : Survives S B w.book.accepted B.number (MayLeave w.start w.done w.coming)
    pub receipted : (n : ℕ) → IsReceipted n w.book.receipts → Survives S B w.book.accepted n (MayLeave w.start w.done w.coming)

  -- what recovery finds at a stop, and what is left
  pub record IsRecovered (S : Setting J) (B : Plain J) (w left : World S) (image : List ℕ) : Type 0 where
    pub front : (left.book.accepted ≡ take w.kept w.book.accepted) ⊎ (left.book.accepted ≡ take w.book.taken w.book.accepted)
    pub state : left.book.state ≡ outcome S.kind B left.book.accepted
    pub found : (p : S.Parts) × (S.recovered image ≡ Some (left.book.state, p))
    pub receipts : left.book.receipts ≡ w.book.receipts
    pub holds : (n : ℕ) → IsReceipted n w.book.receipts → n ≤ left.book.state.number

  -- readers and receipts never go back, over stops too
  pub record IsLater (S : Setting J) (w v : World S) : Type 0 where
    pub readers : (reader : ℕ) → Begins (w.readers reader) (v.readers reader)
    pub marked : w.book.marked ≤ v.book.marked
    pub receipts : (n : ℕ) → IsReceipted n w.book.receipts → IsReceipted n v.book.receipts

  -- so it is at each event of every run
  abbrev pub NeverGoesBack : (S : Setting J) → Type 0
  NeverGoesBack S = (B : Plain J) (image : List ℕ) (p : S.Parts) (events : List (Event J)) (e : Event J) → IsNew S B image p →
      CanRun S B (new_world S B image p) (events ++ e ∷ []) →
      IsLater S (run S B (new_world S B image p) events) (run S B (new_world S B image p) (events ++ e ∷ []))

  -- the accepted commands are acceptable throughout, and fair at every slot
  abbrev pub StaysOrderly : (S : Setting J) → Type 0
  StaysOrderly S = (B : Plain J) (image : List ℕ) (p : S.Parts) (events : List (Event J)) → IsNew S B image p →
      CanRun S B (new_world S B image p) events → IsOrderly S B (run S B (new_world S B image p) events)

  -- the published list and each reader's list are beginnings of what the store appended
  abbrev pub ShowsAppended : (S : Setting J) → Type 0
  ShowsAppended S = (B : Plain J) (image : List ℕ) (p : S.Parts) (events : List (Event J)) → IsNew S B image p →
      CanRun S B (new_world S B image p) events → IsShown S B (run S B (new_world S B image p) events)

  -- no receipted command is lost
  abbrev pub LosesNothing : (S : Setting J) → Type 0
  LosesNothing S = (B : Plain J) (image : List ℕ) (p : S.Parts) (events : List (Event J)) → IsNew S B image p →
      CanRun S B (new_world S B image p) events → HasSurvived S B (run S B (new_world S B image p) events)

  -- at every stop a whole front of the accepted commands is recovered, with every receipted one
  abbrev pub RecoversPrefix : (S : Setting J) → Type 0
  RecoversPrefix S = (B : Plain J) (image : List ℕ) (p : S.Parts) (events : List (Event J)) (left : List ℕ) → IsNew S B image p →
      CanRun S B (new_world S B image p) (events ++ Stop left ∷ []) →
      IsRecovered S B (run S B (new_world S B image p) events) (run S B (new_world S B image p) (events ++ Stop left ∷ [])) left
