-- The state that a store begins with.
use Rattle.std.specs.Prelude.{◌≡◌, ℕ, List, replicate, Option, None}
use Rattle.pfx_machine.specs.Plain.{Plain}
use Rattle.pfx_weights.specs.Sets.{FilledSet}
use Rattle.pfx_program.specs.Ledger.{Begins}

-- the state of a set before its first command: at slot 0, or with the ledger that a text gives, in segments of so many bytes
pub record IsFirstState {J : Type 0} (set : FilledSet) (segment : ℕ) (at : Option (List ℕ)) (s : Plain J) : Type 0 where
  pub number : s.number ≡ 0
  pub from : s.from ≡ 0
  pub ledger : Begins set at s.ledger
  pub of : s.ledger.set ≡ set
  pub jobs : s.jobs ≡ replicate set.real None
  pub long : s.segment ≡ segment
