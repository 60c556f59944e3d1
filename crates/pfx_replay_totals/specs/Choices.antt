-- Which slots are asked for.
use Rattle.std.specs.Prelude.{ℕ, ◌&&◌, nat_lt, nat_le, Bool, true, Option, Some, None}
use Rattle.pfx_replay_totals.specs.declared.choice.Choice.{Choice}

-- a number is below a limit, if there is one
abbrev pub is_below : ℕ → Option ℕ → Bool
is_below n None = true
is_below n (Some limit) = nat_lt n limit

-- the slot of this number is asked for
abbrev pub is_asked : Choice → ℕ → Bool
is_asked c at = nat_le c.from at && is_below at c.to
