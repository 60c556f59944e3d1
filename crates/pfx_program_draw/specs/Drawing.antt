-- The picture of a plan: of a set with names, from a ledger on, by the rows of its slots.
use Rattle.std.specs.Prelude.{◌≡◌, ◌<◌, ◌*◌, ◌^◌, ◌⊎◌, ⊤, ℕ, List, ◌++◌, length, map, min}
use Rattle.std.specs.Fmt.{decimal}
use Rattle.pfx_weights.specs.Rows.{is_in, one, Schedule}
use Rattle.pfx_columns.specs.Ledgers.{Ledger, total, task}
use Rattle.pfx_choice.specs.Plans.{IsPlan}
use Rattle.pfx_choice.specs.Dooms.{IsDoomed}
use Rattle.pfx_program_set.specs.SetFile.{FileTask}
use Rattle.pfx_program.specs.Lines.{name_of}
use Rattle.pfx_program_draw.specs.Each.{each, most}
use Rattle.pfx_program_draw.specs.Frame.{title, head, grid, dashes, foot}
use Rattle.pfx_program_draw.specs.Lane.{lane}
use Rattle.pfx_program_draw.specs.Sizes.{sizes_for}
use Rattle.pfx_program_draw.specs.declared.drawing.DrawFault.{DrawFault}
use Rattle.pfx_program_draw.specs.declared.drawing.DrawFault.TheVariants as drawfault
use Rattle.pfx_program_draw.specs.declared.lags.Course.{Course}
use Rattle.pfx_program_draw.specs.declared.sizes.PictureSizes.{PictureSizes}

-- a task's course from the ledger on
abbrev pub course_of : Ledger → ℕ → Course
course_of g x = record { e = (task g x).e; p = (task g x).p; slot = g.slot; alloc = (task g x).alloc }

-- its marks: 1 for each row that holds it
abbrev pub marks_of : Schedule → ℕ → List ℕ
marks_of rows x = map (λ row. one (is_in row x)) rows

-- the letters of its name, and the digits of its period
abbrev pub letters : List FileTask → ℕ → ℕ
letters tasks x = length (name_of tasks x)

abbrev pub digits : Ledger → ℕ → ℕ
digits g x = length (decimal (task g x).p)

-- the sizes of a picture of so many slots; a name of more than 64 letters goes beyond its room
abbrev pub sizes_of : List FileTask → Ledger → ℕ → PictureSizes
sizes_of tasks g slots = sizes_for g.slot slots (total g) (min 64 (most (letters tasks) (total g))) (min 64 (most (digits g) (total g)))

abbrev pub lane_of : PictureSizes → List FileTask → Ledger → Schedule → ℕ → List ℕ
lane_of s tasks g rows x = lane s g.set.real x (name_of tasks x) (course_of g x) (marks_of rows x)

abbrev pub lanes_of : PictureSizes → List FileTask → Ledger → Schedule → List ℕ
lanes_of s tasks g rows = each (lane_of s tasks g rows) (total g)

-- head, slots and hyperperiods, a lane for each task, and foot
abbrev pub framed : PictureSizes → List ℕ → List FileTask → Ledger → Schedule → List ℕ
framed s name tasks g rows =
    head s (title s name g.set.real g.set.workers) ++ grid s ++ dashes s g.set.hyper ++ lanes_of s tasks g rows ++ foot s g.set.hyper

abbrev pub draw_text : List ℕ → List FileTask → Ledger → Schedule → List ℕ
draw_text name tasks g rows = framed (sizes_of tasks g (length rows)) name tasks g rows

-- the text is the picture of the plan of so many slots: of PF's rows from the ledger on
pub record IsDrawing (name : List ℕ) (tasks : List FileTask) (g : Ledger) (slots : ℕ) (text : List ℕ) : Type 0 where
  pub rows : Schedule
  pub plan : IsPlan g rows
  pub number : length rows ≡ slots
  pub is : text ≡ draw_text name tasks g rows

-- more than 1,440 slots, none at all, or more than 2^18 of them over all lanes
abbrev pub IsTooLarge : ℕ → ℕ → Type 0
IsTooLarge lanes slots = (slots ≡ 0) ⊎ ((1440 < slots) ⊎ (2 ^ 18 < lanes * slots))

-- why there is no picture
abbrev pub DrawFails : Ledger → ℕ → DrawFault → Type 0
DrawFails g slots drawfault.TooLarge = IsTooLarge (total g) slots
DrawFails g slots (drawfault.NoRow slot cause) = (rows : Schedule) × IsDoomed g slots slot cause rows
DrawFails g slots drawfault.NoMemory = ⊤
