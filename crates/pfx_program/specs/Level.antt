-- When new weights can come into force.
use Rattle.std.specs.Prelude.{◌≡◌, ◌≤◌, ◌<◌, ◌+◌, ◌*◌, ℕ}
use Rattle.pfx_machine.specs.Plain.{Plain, whole}

-- The first slot, from the one to come on, that lies a whole number of hyperperiods behind the slot at which the weights came into force: by
-- `level_at_each_period` of pfx_machine_feasible every lag is zero there.
pub record IsNextLevel {J : Type 0} (s : Plain J) (slot : ℕ) : Type 0 where
  pub periods : ℕ
  pub level : slot ≡ s.from + periods * s.ledger.set.hyper
  pub behind : whole s ≤ slot
  pub first : slot < whole s + s.ledger.set.hyper
