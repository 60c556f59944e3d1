-- How many records of a script have come to their ends.
use Rattle.std.specs.Prelude.{ℕ, ◌+◌, ◌-◌, ◌^◌, ◌&&◌, nat_lt, Bool, true, false, if◌then◌else◌}
use Rattle.pfx_program_script.specs.Whole.{after}
use Rattle.pfx_program_script.specs.declared.ends.Gone.{Gone}
use Rattle.pfx_program_script.specs.declared.whole.Mode.{Mode}
use Rattle.pfx_program_script.specs.declared.whole.Mode.TheVariants as mode

-- before the first byte
abbrev pub at_front : Gone
at_front = record { spot = record { mode = mode.Begin; len = 0 }; ends = 0 }

-- in a record, outside of quotes
abbrev pub is_within : Mode → Bool
is_within mode.Field = true
is_within mode.Plain = true
is_within mode.Closing = true
is_within other = false

-- the byte between these two places ends a record
abbrev pub ends_record : Mode → Mode → Bool
ends_record before mode.Start = is_within before
ends_record before other = false

-- one byte further
abbrev pub further : Gone → ℕ → Gone
further g b = record {
  spot = after g.spot b;
  ends = if ends_record g.spot.mode (after g.spot b).mode && nat_lt g.ends (2 ^ 64 - 1) then g.ends + 1 else g.ends;
}
