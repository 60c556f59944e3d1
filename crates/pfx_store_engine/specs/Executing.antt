-- What comes of a command that an engine carries out over its store.
use Rattle.std.specs.Prelude.{◌≡◌, ◌⊎◌, ◌↔◌, ◌≤◌, ◌+◌, ◌++◌, ℕ, min, List, [], ◌∷◌, length, Bool, true, Option, None, Some, Result, Ok, Err, OnOk, OnErr, IfOk, IfErr}
use Rattle.pfx_disk.specs.Disk.{View, HasFailed, IsHonest}
use Rattle.pfx_fault.specs.declared.fields.Cause.{Cause}
use Rattle.pfx_fault.specs.declared.fields.Cause.TheVariants.{Device}
use Rattle.pfx_store_format.specs.Format.{format}
use Rattle.pfx_machine.specs.Outcome.{outcome}
use Rattle.pfx_machine.specs.Plain.{Plain, IsState}
use Rattle.pfx_machine.specs.Runs.{answer}
use Rattle.pfx_machine.specs.Sessions.{IsAcceptable}
use Rattle.pfx_machine.specs.declared.command.Command.{Command}
use Rattle.pfx_machine.specs.declared.command.Command.TheVariants.{Slot}
use Rattle.pfx_machine.specs.declared.faults.MachineFault.{MachineFault}
use Rattle.pfx_machine.specs.declared.command.Reply.{Reply}
use Rattle.pfx_store_engine.specs.Promises.{AreAnswered, slots_for}
use Rattle.pfx_store_image.specs.Recovery.{recovered}
use Rattle.pfx_segment.specs.Segment.{Takes}
use Rattle.pfx_store.specs.Groups.{frame_of}
use Rattle.pfx_store.specs.Keepers.{IsKeeping}
use Rattle.pfx_store.specs.Stores.{PlainStore}
use Rattle.pfx_store.specs.Working as working
use Rattle.pfx_store.specs.declared.appending.Mark.{Mark}
use Rattle.pfx_store_file.specs.Calls.{GoesOn}
use Rattle.pfx_store_file.specs.Tending.{append_calls}
use Rattle.pfx_store_engine.specs.Keeping.{Anchors}
use Rattle.pfx_store_engine.specs.Stepping.{frame_len}
use Rattle.pfx_store_engine.specs.Surviving.{KeepsAll}
use Rattle.pfx_jobs.specs.Kind.{Kind}

-- a command was accepted at a state: the mark has the next number and the disk's clock, the reply is the machine's, and the state is
-- the one after the command, and nothing has failed
pub record IsExecuted {J : Type 0} (K : Kind J) (s : Plain J) (c : Command J) (t : Plain J) (clock : ℕ) (failed : Option Cause) (r : Mark × Reply) : Type 0 where
  pub number : r.0.number ≡ s.number + 1
  pub clock_now : r.0.clock ≡ clock
  pub reply : answer K s c ≡ Ok r.1
  pub state : t ≡ outcome K s (c ∷ [])
  pub whole : failed ≡ None

-- a command was accepted at a state: the reply is the machine's, and the state is the one after the command, and nothing has failed
pub record IsCarriedOut {J : Type 0} (K : Kind J) (s : Plain J) (c : Command J) (t : Plain J) (failed : Option Cause) (reply_given : Reply) : Type 0 where
  pub reply : answer K s c ≡ Ok reply_given
  pub moves : t ≡ outcome K s (c ∷ [])
  pub whole : failed ≡ None

-- So many Slots were asked for, and these were run, up to this state: all of them, unless the machine refuses the next one, or there was
-- no memory for it, and then the engine is starved.
abbrev pub Fills : {J : Type 0} → Kind J → ℕ → List (ℕ × Reply) → Plain J → Bool → Type 0
Fills K count said t starved = (length said ≡ count) ⊎ (((f : MachineFault) × (answer K t Slot ≡ Err f)) ⊎ (starved ≡ true))

-- So many Slots were asked for, and these were accepted one after the other from a state on, in one frame, which has 16 if it isn't the
-- last one: their numbers and replies are the machine's, and the state is the one after them, and nothing has failed.
pub record AreCarriedOut {J : Type 0} (K : Kind J) (s t : Plain J) (count : ℕ) (failed : Option Cause) (starved : Bool) (said : List (ℕ × Reply)) : Type 0 where
  pub fills : Fills K (min count 16) said t starved
  pub few : length said ≤ 16
  pub answered : AreAnswered K s said
  pub moves : t ≡ outcome K s (slots_for said)
  pub whole : failed ≡ None

-- the disk after a call is the one before: time went on, failures stayed, and it is honest if and only if it was
pub record Follows (old new : View) : Type 0 where
  pub goes : GoesOn old new
  pub honest : IsHonest old ↔ IsHonest new

-- At every moment of a call the commands that survived before survive, with these or without; and once it succeeded each image is
-- recovered to the state after it.
pub record Commits {J T E : Type 0} (K : Kind J) (s : Plain J) (group : List (Command J)) (t : Plain J) (old new : View) (result : Result T E) : Type 0 where
  pub keeps : (start : Plain J) → (H : List (Command J)) → IsState start → IsAcceptable K start H → s ≡ outcome K start H
      → KeepsAll K start H (H ++ group) old new
  pub acknowledged : OnOk result (Anchors K new t)

-- A call that keeps commands in this store. It goes well only where nothing has failed, and else answers what has; then the state stays.
-- Once it succeeded the mark has the state's number and the disk's clock.
pub record IsCommit {J D : Type 0} (view : D → View) (old new : PlainStore D J) (was is : Option Cause) (result : Result Mark Cause) : Type 0 where
  pub whole : OnOk result ((was ≡ None) × (is ≡ None))
  pub fails : IfErr result (λ cause. is ≡ Some cause)
  pub device : was ≡ None → result ≡ Err Device → HasFailed (view old.file.disk) (view new.file.disk)
  pub follows : Follows (view old.file.disk) (view new.file.disk)
  pub same : OnErr result (new.state ≡ old.state)
  pub mark : IfOk result (λ mark. (mark.number ≡ new.state.number) × (mark.clock ≡ (view new.file.disk).clock))

-- A call of a keeper that keeps the frame of commands: it is such a call, the state is the one after them unless it failed, the mark has the
-- last number and the disk's clock, and at every moment what survived before survives, with the frame or without.
pub record IsPut {J D : Type 0} (K : Kind J) (view : D → View) (old : PlainStore D J) (group : List (Command J)) (new : PlainStore D J) (was is : Option Cause)
    (result : Result Mark Cause) : Type 0 where
  pub call : IsKeeping view old new was is result (append_calls (frame_len K old.state group) old.file.places)
  pub state : OnOk result (new.state ≡ outcome K old.state group)
  pub same : OnErr result (new.state ≡ old.state)
  pub mark : IfOk result (λ mark. (mark.number ≡ new.state.number) × (mark.clock ≡ (view new.file.disk).clock))
  pub commits : IsHonest (view old.file.disk) → working.Commits K old.state (frame_of K old.state group) result (view old.file.disk) (view new.file.disk)

-- so many calls of the disk, and an honest disk is one before and after
pub record TakesCalls {T E : Type 0} (calls : ℕ) (old new : View) (result : Result T E) : Type 0 where
  pub takes : Takes calls old new result
  pub honest : IsHonest old ↔ IsHonest new

-- At every moment of a call the commands that survived before survive, with this one or without; and from its mark on each image is
-- recovered to the state after it.
pub record CommitsOne {J E : Type 0} (K : Kind J) (s : Plain J) (c : Command J) (t : Plain J) (old new : View) (result : Result (Mark × Reply) E) : Type 0 where
  pub keeps : (start : Plain J) → (H : List (Command J)) → IsState start → IsAcceptable K start H → s ≡ outcome K start H
      → KeepsAll K start H (H ++ c ∷ []) old new
  pub acknowledged : IfOk result (λ r. (image : List ℕ) → new.since r.0.clock image → recovered (format K) image ≡ Ok t)
