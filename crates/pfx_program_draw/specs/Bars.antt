-- Bars along a lane: the runs of slots that have a mark.
use Rattle.std.specs.Prelude.{ℕ, ◌+◌, ◌-◌, ◌==◌, nat_lt, nat_le, Bool, false, not, ◌&&◌, ◌||◌, if◌then◌else◌, List, [], ◌++◌, length, slice_index_or}
use Rattle.pfx_program_draw.specs.Each.{each}
use Rattle.pfx_program_draw.specs.Sizes.{x_at}
use Rattle.pfx_program_draw.specs.Text.{move_to, across_to}
use Rattle.pfx_program_draw.specs.declared.bars.Track.{Track}
use Rattle.pfx_program_draw.specs.declared.sizes.PictureSizes.{PictureSizes}

-- a slot has the mark; none after the last has it
abbrev pub has : List ℕ → ℕ → ℕ → Bool
has marks mark i = nat_lt i (length marks) && (slice_index_or marks i 0 == mark)

-- the slot before it has it
abbrev pub had : List ℕ → ℕ → ℕ → Bool
had marks mark i = nat_lt 0 i && has marks mark (i - 1)

-- A run begins with a slot after one without the mark, and ends with one before such a slot. On a track whose bars are apart
-- each slot with the mark is a run of its own.
abbrev pub begins : Track → List ℕ → ℕ → ℕ → Bool
begins track marks mark i = has marks mark i && (track.apart || not (had marks mark i))

abbrev pub ends : Track → List ℕ → ℕ → ℕ → Bool
ends track marks mark i = has marks mark i && (track.apart || not (has marks mark (i + 1)))

-- what a slot adds to the path
abbrev pub bar_begin : PictureSizes → Track → List ℕ → ℕ → ℕ → List ℕ
bar_begin s track marks mark i = if begins track marks mark i then move_to (x_at s i + track.gap) track.y else []

abbrev pub bar_end : PictureSizes → Track → List ℕ → ℕ → ℕ → List ℕ
bar_end s track marks mark i = if ends track marks mark i then across_to (x_at s (i + 1) - track.gap) else []

abbrev pub bar_piece : PictureSizes → Track → List ℕ → ℕ → ℕ → List ℕ
bar_piece s track marks mark i = bar_begin s track marks mark i ++ bar_end s track marks mark i

-- the path of the bars of all slots with the mark
abbrev pub bars_path : PictureSizes → Track → List ℕ → ℕ → List ℕ
bars_path s track marks mark = each (bar_piece s track marks mark) (length marks)

-- the track of the slots in which a task runs: bars of 9 pixels and more are apart, those of 4 and more leave a gap
abbrev pub run_track : PictureSizes → ℕ → Track
run_track s y = record { y = y; gap = if nat_le 4 s.widths.slot then 1 else 0; apart = nat_le 9 s.widths.slot }

-- the track of cells behind them, without gaps
abbrev pub cell_track : ℕ → Track
cell_track y = record { y = y; gap = 0; apart = false }
