-- A task's lane: a group with a title, bars where it runs, and its lag.
use Rattle.std.specs.Prelude.{ℕ, ◌+◌, ◌-◌, ◌/◌, ◌%◌, ◌==◌, nat_lt, nat_le, if◌then◌else◌, List, [], ◌++◌, length}
use Rattle.std.specs.Fmt.{decimal}
use Rattle.pfx_program_draw.specs.Bars.{bars_path, run_track, cell_track}
use Rattle.pfx_program_draw.specs.Lags.{lag_text, point_lag, levels, runs_in, summed}
use Rattle.pfx_program_draw.specs.Line.{lag_path}
use Rattle.pfx_program_draw.specs.Phrases.{say, say_number}
use Rattle.pfx_program_draw.specs.Sizes.{y_at, slots_end, width}
use Rattle.pfx_program_draw.specs.Text.{move_to, across_to, down_to}
use Rattle.pfx_program_draw.specs.declared.lags.Course.{Course}
use Rattle.pfx_program_draw.specs.declared.lags.Summary.{Summary}
use Rattle.pfx_program_draw.specs.declared.phrases.Phrase.{Phrase}
use Rattle.pfx_program_draw.specs.declared.phrases.Phrase.TheVariants as phrase
use Rattle.pfx_program_draw.specs.declared.sizes.PictureSizes.{PictureSizes}

-- eight colours that colour-blind readers can tell; idle tasks are grey
abbrev pub hue : ℕ → Phrase
hue k =
    if k == 0 then phrase.Blue else (if k == 1 then phrase.Orange else (if k == 2 then phrase.Green else (if k == 3 then phrase.Pink else
    (if k == 4 then phrase.Sky else (if k == 5 then phrase.Vermilion else (if k == 6 then phrase.Black else phrase.Olive))))))

abbrev pub colour : ℕ → ℕ → Phrase
colour real x = if nat_lt x real then hue (x % 8) else phrase.Grey

-- `backup, 59 of 60: 59 of 60 slots; lag `
unfoldable pub task_words : PictureSizes → List ℕ → Course → Summary → List ℕ
task_words s name c m =
    say phrase.LaneTitle ++ name ++ say_number phrase.Comma c.e ++ say_number phrase.Of c.p
    ++ say_number phrase.Colon m.runs ++ say_number phrase.Of s.slots ++ say phrase.SlotsLag

-- `0/60 at the end, most behind 0/60, most ahead 59/60`
unfoldable pub lag_words : PictureSizes → Course → Summary → List ℕ
lag_words s c m =
    lag_text c s.slots m.runs ++ say_number phrase.MostBehind m.behind ++ say_number phrase.Over c.p
    ++ say_number phrase.MostAhead m.ahead ++ say_number phrase.Over c.p ++ say phrase.TitleEnd

-- the ground of every second lane
abbrev pub shade : PictureSizes → ℕ → List ℕ
shade s x =
    if x % 2 == 0
    then say_number phrase.ShadeY (y_at s x) ++ say_number phrase.Width (width s) ++ say_number phrase.Height s.heights.lane ++ say phrase.ShadeEnd
    else []

-- a path of a colour and a width
abbrev pub stroke : Phrase → ℕ → List ℕ
stroke ink wide = say phrase.Stroke ++ say ink ++ say_number phrase.StrokeWidth wide ++ say phrase.PathEnd

-- the slots in which the task runs
abbrev pub bars : PictureSizes → Phrase → ℕ → List ℕ → List ℕ
bars s ink y marks = say phrase.PathBegin ++ bars_path s (run_track s (y + s.heights.middle)) marks 1 ++ stroke ink s.heights.bar

-- a line across all slots
abbrev pub across : PictureSizes → ℕ → List ℕ
across s y = move_to s.left y ++ across_to (slots_end s)

-- one slot behind and one ahead, and no lag
abbrev pub bounds : PictureSizes → ℕ → List ℕ
bounds s base =
    say phrase.PathBegin ++ across s (base - s.heights.lag) ++ across s (base + s.heights.lag) ++ say phrase.BoundsEnd

abbrev pub base_line : PictureSizes → ℕ → List ℕ
base_line s base = say phrase.PathBegin ++ across s base ++ say phrase.BaseEnd

-- the line of the lag, and what lies between it and no lag
abbrev pub area : PictureSizes → Phrase → ℕ → List ℕ → List ℕ
area s ink base path = say phrase.PathBegin ++ path ++ down_to base ++ across_to s.left ++ say phrase.AreaFill ++ say ink ++ say phrase.AreaEnd

abbrev pub lag_line : PictureSizes → List ℕ → List ℕ
lag_line s path = say phrase.PathBegin ++ path ++ (if nat_lt 4 s.widths.slot then say phrase.ThickEnd else say phrase.ThinEnd)

-- a name left of the slots, in one of two sizes
abbrev pub named : ℕ → Phrase → List ℕ → List ℕ
named y size name = say_number phrase.NameY y ++ say size ++ name ++ say phrase.TextEnd

-- left of the slots the name and the weight, right of them the lag at the end, as a fraction and as a decimal number
abbrev pub name_label : ℕ → List ℕ → List ℕ
name_label y name = named y phrase.NameEnd name

abbrev pub weight_label : PictureSizes → ℕ → Course → List ℕ
weight_label s y c =
    say_number phrase.TextX (s.left - 10) ++ say_number phrase.TextY y ++ say phrase.WeightEnd ++ decimal c.e
    ++ say_number phrase.Over c.p ++ say phrase.TextEnd

abbrev pub lag_label : PictureSizes → ℕ → Course → ℕ → List ℕ
lag_label s y c runs =
    say_number phrase.TextX (slots_end s + 8) ++ say_number phrase.TextY y ++ say phrase.LagEnd ++ lag_text c s.slots runs ++ say phrase.Space
    ++ point_lag c s.slots runs ++ say phrase.TextEnd

-- a lane with a line of lag: what is drawn, and what is written
abbrev pub tall_drawn : PictureSizes → Phrase → ℕ → Course → List ℕ → List ℕ
tall_drawn s ink x c marks =
    let base = y_at s x + s.heights.zero in
    let path = lag_path s c base marks in
    shade s x ++ bars s ink (y_at s x) marks ++ bounds s base ++ base_line s base ++ area s ink base path ++ lag_line s path

-- where the words of a lane stand
abbrev pub words_y : PictureSizes → ℕ → ℕ
words_y s x = y_at s x + (4 + s.heights.lane / 2)

abbrev pub tall_written : PictureSizes → ℕ → List ℕ → Course → ℕ → List ℕ
tall_written s x name c runs = name_label (words_y s x) name ++ weight_label s (words_y s x) c ++ lag_label s (words_y s x) c runs

-- the colour of a level
abbrev pub level_ink : ℕ → Phrase
level_ink k =
    if k == 1 then phrase.BehindQuarter else (if k == 2 then phrase.BehindHalf else (if k == 3 then phrase.BehindMost else
    (if k == 4 then phrase.AheadQuarter else (if k == 5 then phrase.AheadHalf else phrase.AheadMost))))

-- the cells of a level, as one path
abbrev pub cells : PictureSizes → ℕ → List ℕ → ℕ → List ℕ
cells s y marks k = say phrase.PathBegin ++ bars_path s (cell_track (y + s.heights.middle)) marks k ++ stroke (level_ink k) s.heights.lane

abbrev pub all_cells : PictureSizes → ℕ → List ℕ → List ℕ
all_cells s y marks = cells s y marks 1 ++ cells s y marks 2 ++ cells s y marks 3 ++ cells s y marks 4 ++ cells s y marks 5 ++ cells s y marks 6

abbrev pub small_name : ℕ → List ℕ → List ℕ
small_name y name = named y phrase.SmallEnd name

-- a low lane: cells coloured by the lag before the slot, and the bars on them
abbrev pub low_lane : PictureSizes → ℕ → List ℕ → Course → List ℕ → List ℕ
low_lane s x name c marks =
    all_cells s (y_at s x) (levels c marks) ++ bars s phrase.Dark (y_at s x) marks ++ small_name (y_at s x + 8) name

unfoldable pub lane_body : PictureSizes → ℕ → ℕ → List ℕ → Course → List ℕ → List ℕ
lane_body s real x name c marks =
    if nat_le s.lanes 48 then tall_drawn s (colour real x) x c marks ++ tall_written s x name c (runs_in marks (length marks)) else low_lane s x name c marks

abbrev pub lane_by : PictureSizes → ℕ → ℕ → List ℕ → Course → List ℕ → Summary → List ℕ
lane_by s real x name c marks m = task_words s name c m ++ lag_words s c m ++ lane_body s real x name c marks ++ say phrase.LaneEnd

-- the lane of a task with this name, course and marks: 1 for each slot in which it runs
unfoldable pub lane : PictureSizes → ℕ → ℕ → List ℕ → Course → List ℕ → List ℕ
lane s real x name c marks = lane_by s real x name c marks (summed c marks)
