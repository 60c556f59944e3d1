-- What an engine of a store keeps of commands, from one of its moments to a later one.
use Rattle.std.specs.Prelude.{◌≡◌, ℕ, ◌≤◌, List, length, Option, None, Ok}
use Rattle.pfx_disk.specs.Disk.{View, IsHonest}
use Rattle.pfx_fault.specs.declared.fields.Cause.{Cause}
use Rattle.pfx_store_format.specs.Format.{format}
use Rattle.pfx_machine.specs.Plain.{Plain}
use Rattle.pfx_machine.specs.Outcome.{outcome}
use Rattle.pfx_machine.specs.Runs.{answer}
use Rattle.pfx_machine.specs.Sessions.{IsAcceptable}
use Rattle.pfx_machine.specs.declared.command.Command.{Command}
use Rattle.pfx_machine.specs.declared.command.Reply.{Reply}
use Rattle.pfx_store_image.specs.Recovery.{recovered}
use Rattle.pfx_store_engine.specs.Surviving.{Survives}
use Rattle.pfx_jobs.specs.Kind.{Kind}

-- each image since this moment is recovered to the state
abbrev pub Anchors : {J : Type 0} → Kind J → View → Plain J → Type 0
Anchors K disk s = (image : List ℕ) → disk.since disk.clock image → recovered (format K) image ≡ Ok s

-- Each image that a stop now may leave is recovered to the outcome of a beginning of these commands, with n of them at least;
-- if that is all of them, to the state, and each image since this moment is.
pub record Kept {J : Type 0} (K : Kind J) (s : Plain J) (H : List (Command J)) (n : ℕ) (new : View) (t : Plain J) : Type 0 where
  pub honest : IsHonest new
  pub anchored : length H ≤ n → Anchors K new t
  pub survive : (image : List ℕ) → new.now image → Survives K s H n image

-- Between a moment of a store and a later one these commands were accepted from the state on, and n of them are kept, if
-- nothing had failed and the store held its state on an honest disk.
pub record KeepsFrom {J : Type 0} (K : Kind J) (old : View) (was : Option Cause) (s : Plain J) (H : List (Command J)) (n : ℕ) (new : View) (t : Plain J) : Type 0 where
  pub accepted : IsAcceptable K s H
  pub state : length H ≤ n → t ≡ outcome K s H
  pub kept : was ≡ None → IsHonest old → Anchors K old s → Kept K s H n new t

-- the machine accepts the command
abbrev pub IsAccepted : {J : Type 0} → Kind J → Plain J → Command J → Type 0
IsAccepted K s c = (reply : Reply) × (answer K s c ≡ Ok reply)
