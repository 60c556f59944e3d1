-- Sessions on one store, each of which began with what a stop had left of the one before it.
use Rattle.std.specs.Prelude.{◌≡◌, ◌≤◌, ℕ, List, [], ◌∷◌, ◌++◌, length, take, Ok}
use Rattle.pfx_store_format.specs.Format.{format}
use Rattle.pfx_machine.specs.Plain.{Plain}
use Rattle.pfx_machine.specs.Sessions.{IsAcceptable}
use Rattle.pfx_machine.specs.declared.command.Command.{Command}
use Rattle.pfx_store_image.specs.Recovery.{recovered}
use Rattle.pfx_store_engine.specs.Surviving.{Survives}
use Rattle.pfx_jobs.specs.Kind.{Kind}

-- what is known of a session once it was stopped: the commands that were accepted in it, how many of them had been answered, and the bytes
-- that the stop left
pub record Session (J : Type 0) : Type 0 where
  pub commands : List (Command J)
  pub answered : ℕ
  pub image : List ℕ

-- A session's commands were accepted one after the other from the state at which it began, and what it left is recovered to the outcome of a
-- beginning of them, the answered ones in it. The next session began at the state that is recovered, and the last one left this one.
abbrev pub AreSessions : {J : Type 0} → Kind J → Plain J → List (Session J) → Plain J → Type 0
AreSessions K start [] last = last ≡ start
AreSessions {J = J} K start (x ∷ xs) last =
    IsAcceptable K start x.commands × Survives K start x.commands x.answered x.image
    × (next : Plain J) × (recovered (format K) x.image ≡ Ok next) × AreSessions K next xs last

-- of each session a beginning of its commands, the answered ones in it, one behind the other
abbrev pub AreHeld : {J : Type 0} → List (Session J) → List (Command J) → Type 0
AreHeld [] H = H ≡ []
AreHeld {J = J} (x ∷ xs) H =
    (n : ℕ) × (x.answered ≤ n) × (n ≤ length x.commands) × (rest : List (Command J)) × (H ≡ take n x.commands ++ rest) × AreHeld xs rest
