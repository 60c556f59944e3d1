-- Lags along the slots that are drawn: what a task is due less what it got, exactly, over its period.
use Rattle.std.specs.Prelude.{codes, ℕ, ◌+◌, ◌-◌, ◌*◌, ◌/◌, ◌%◌, ◌≤◌, ◌^◌, nat_lt, if◌then◌else◌, List, [], ◌∷◌, ◌++◌, length}
use Rattle.std.specs.Fmt.{decimal}
use Rattle.pfx_weights.specs.Rows.{count}
use Rattle.pfx_program_draw.specs.Bars.{has}
use Rattle.pfx_program_draw.specs.Each.{each, most}
use Rattle.pfx_program_draw.specs.Text.{with_number}
use Rattle.pfx_program_draw.specs.declared.lags.Course.{Course}
use Rattle.pfx_program_draw.specs.declared.lags.Summary.{Summary}

-- a task of weight e/p that got `alloc` of the slots before the first: after i more slots, of which it got k, it is due more
-- than it got by so many p-ths of a slot, or got more
abbrev pub behind_by : Course → ℕ → ℕ → ℕ
behind_by c i k = c.e * (c.slot + i) - c.p * (c.alloc + k)

abbrev pub ahead_by : Course → ℕ → ℕ → ℕ
ahead_by c i k = c.p * (c.alloc + k) - c.e * (c.slot + i)

-- a lag over its period, as `-1/3`
abbrev pub signed : ℕ → ℕ → List ℕ
signed behind ahead = if nat_lt 0 ahead then with_number (codes "-") ahead else decimal behind

abbrev pub lag_text : Course → ℕ → ℕ → List ℕ
lag_text c i k = signed (behind_by c i k) (ahead_by c i k) ++ with_number (codes "/") c.p

-- so many p-ths as a decimal number, with two digits behind the point, rounded down: `0.66`
abbrev pub hundredths : ℕ → ℕ → ℕ
hundredths n p = n % p * 100 / p

abbrev pub point_text : ℕ → ℕ → List ℕ
point_text n p = decimal (n / p) ++ with_number (codes ".") (hundredths n p / 10) ++ decimal (hundredths n p % 10)

-- a lag so, as `-0.33`
abbrev pub point_lag : Course → ℕ → ℕ → List ℕ
point_lag c i k =
    if nat_lt 0 (ahead_by c i k) then codes "-" ++ point_text (ahead_by c i k) c.p else point_text (behind_by c i k) c.p

-- quarters of a slot, rounded down: 1, 2 and 3 behind, 4, 5 and 6 for as many ahead
abbrev pub level_by : ℕ → ℕ → ℕ
level_by behind ahead = if nat_lt 0 behind then behind else (if nat_lt 0 ahead then 3 + ahead else 0)

abbrev pub level : Course → ℕ → ℕ → ℕ
level c i k = level_by (4 * behind_by c i k / c.p) (4 * ahead_by c i k / c.p)

-- how many of the first i slots a task got, by its marks: 1 if it runs
abbrev pub runs_in : List ℕ → ℕ → ℕ
runs_in marks i = count i (has marks 1)

-- the levels before each slot
abbrev pub level_piece : Course → List ℕ → ℕ → List ℕ
level_piece c marks i = level c i (runs_in marks i) ∷ []

abbrev pub levels : Course → List ℕ → List ℕ
levels c marks = each (level_piece c marks) (length marks)

-- after the i-th slot
abbrev pub behind_at : Course → List ℕ → ℕ → ℕ
behind_at c marks i = behind_by c (i + 1) (runs_in marks (i + 1))

abbrev pub ahead_at : Course → List ℕ → ℕ → ℕ
ahead_at c marks i = ahead_by c (i + 1) (runs_in marks (i + 1))

-- of all slots: in how many the task runs, and the greatest lags behind one, both ways
abbrev pub summed : Course → List ℕ → Summary
summed c marks = record {
  runs = runs_in marks (length marks);
  behind = most (behind_at c marks) (length marks);
  ahead = most (ahead_at c marks) (length marks);
}

-- a course whose numbers are those of a task of a ledger
pub record IsCourse (c : Course) : Type 0 where
  pub e : c.e ≤ 2 ^ 20
  pub p : c.p ≤ 2 ^ 20
  pub some : 1 ≤ c.p
  pub slot : c.slot ≤ 2 ^ 40
  pub alloc : c.alloc ≤ 2 ^ 40
