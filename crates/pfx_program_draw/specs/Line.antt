-- The line of a task's lag: straight from slot to slot, which is exact, since what is due and what is got both grow evenly.
use Rattle.std.specs.Prelude.{ℕ, ◌+◌, ◌-◌, ◌*◌, ◌/◌, List, ◌++◌, length}
use Rattle.pfx_program_draw.specs.Each.{each}
use Rattle.pfx_program_draw.specs.Lags.{behind_by, ahead_by, runs_in}
use Rattle.pfx_program_draw.specs.Sizes.{x_at}
use Rattle.pfx_program_draw.specs.Text.{move_to, line_to}
use Rattle.pfx_program_draw.specs.declared.lags.Course.{Course}
use Rattle.pfx_program_draw.specs.declared.sizes.PictureSizes.{PictureSizes}

-- how high the line is: above the line of no lag if the task is behind, below it if it is ahead, rounded towards it
abbrev pub lag_y : PictureSizes → Course → ℕ → ℕ → ℕ → ℕ
lag_y s c base i k = base + ahead_by c i k * s.heights.lag / c.p - behind_by c i k * s.heights.lag / c.p

-- its point after i slots, of which the task got k
abbrev pub line_point : PictureSizes → Course → ℕ → ℕ → ℕ → List ℕ
line_point s c base i k = line_to (x_at s i) (lag_y s c base i k)

-- the point after the i-th slot
abbrev pub line_piece : PictureSizes → Course → ℕ → List ℕ → ℕ → List ℕ
line_piece s c base marks i = line_point s c base (i + 1) (runs_in marks (i + 1))

-- from the lag before the first slot on
abbrev pub lag_path : PictureSizes → Course → ℕ → List ℕ → List ℕ
lag_path s c base marks = move_to (x_at s 0) (lag_y s c base 0 0) ++ each (line_piece s c base marks) (length marks)
