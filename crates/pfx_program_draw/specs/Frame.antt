-- What stands round the lanes: the title, what the marks mean, the slots' numbers and the hyperperiods.
use Rattle.std.specs.Prelude.{ℕ, Bool, ◌+◌, ◌-◌, ◌*◌, ◌/◌, ◌==◌, ◌&&◌, nat_lt, nat_le, if◌then◌else◌, List, [], ◌++◌}
use Rattle.std.specs.Fmt.{decimal}
use Rattle.pfx_program_set.specs.SetFile.{is_name}
use Rattle.pfx_program_draw.specs.Each.{each}
use Rattle.pfx_program_draw.specs.Phrases.{say, say_number}
use Rattle.pfx_program_draw.specs.Sizes.{x_at, slots_end, lanes_end, width, height}
use Rattle.pfx_program_draw.specs.Text.{move_to, down_to}
use Rattle.pfx_program_draw.specs.declared.phrases.Phrase.{Phrase}
use Rattle.pfx_program_draw.specs.declared.phrases.Phrase.TheVariants as phrase
use Rattle.pfx_program_draw.specs.declared.sizes.PictureSizes.{PictureSizes}

-- a set's name before a colon, if it is a name as tasks have them; nothing of any other text
abbrev pub named : List ℕ → List ℕ
named name = if is_name name then name ++ say phrase.Colon else []

-- `1 task`, `8 tasks`
abbrev pub counted : ℕ → Phrase → List ℕ
counted n word = decimal n ++ (say word ++ (if n == 1 then [] else say phrase.Plural))

-- `nightly: 8 tasks on 4 workers, slots 0 to 59`
unfoldable pub title : PictureSizes → List ℕ → ℕ → ℕ → List ℕ
title s name real workers =
    named name ++ counted real phrase.Task ++ say phrase.On ++ counted workers phrase.Worker
    ++ say_number phrase.Slots s.first ++ say_number phrase.To (s.first + s.slots - 1)

-- the element that holds all others
abbrev pub opening : PictureSizes → List ℕ
opening s =
    say_number phrase.SvgWidth (width s) ++ say_number phrase.Height (height s)
    ++ say_number phrase.ViewBox (width s) ++ say_number phrase.Space (height s) ++ say phrase.SvgEnd

-- the title and what the picture shows, for those who can't see it
abbrev pub spoken : List ℕ → List ℕ
spoken words = say phrase.Title ++ words ++ say phrase.Desc ++ say phrase.DescEnd

-- other colours where the reader asks for a dark page
abbrev pub dark : List ℕ
dark = say phrase.DarkBegin ++ say phrase.DarkGround ++ say phrase.DarkLines ++ say phrase.DarkBehind ++ say phrase.DarkAhead

-- a white ground, and the title again
abbrev pub heading : PictureSizes → List ℕ → List ℕ
heading s words = say_number phrase.GroundWidth (width s) ++ say_number phrase.Height (height s) ++ say phrase.GroundEnd ++ words ++ say phrase.TextEnd

-- what the marks mean: of lanes with a line of lag, and of others
abbrev pub level_key : List ℕ
level_key = say phrase.LevelKey ++ say phrase.KeyBehind ++ say phrase.KeyMiddle ++ say phrase.KeyAhead ++ say phrase.KeyEnd

abbrev pub key : ℕ → List ℕ
key lanes = say phrase.KeyBegin ++ (if nat_le lanes 48 then say phrase.LineKey else level_key)

unfoldable pub head : PictureSizes → List ℕ → List ℕ
head s words = opening s ++ spoken words ++ dark ++ heading s words ++ key s.lanes

-- a line from the lanes' top to their end
abbrev pub upright : PictureSizes → ℕ → List ℕ
upright s i = move_to (x_at s i) 64 ++ down_to (lanes_end s)

-- the i-th number above the slots, and the line below it
abbrev pub grid_piece : PictureSizes → ℕ → List ℕ
grid_piece s i = upright s (i * s.widths.tick)

abbrev pub number_piece : PictureSizes → ℕ → List ℕ
number_piece s i =
    say_number phrase.TextX (x_at s (i * s.widths.tick)) ++ say_number phrase.NumberEnd (s.first + i * s.widths.tick) ++ say phrase.TextEnd

-- how many numbers there are: one at each so many slots, from the first one to the end
abbrev pub ticks : PictureSizes → ℕ
ticks s = s.slots / s.widths.tick + 1

abbrev pub grid_lines : PictureSizes → List ℕ
grid_lines s = each (grid_piece s) (ticks s)

abbrev pub numbers : PictureSizes → List ℕ
numbers s = each (number_piece s) (ticks s)

-- what stands in the columns beside lanes with a line of lag
abbrev pub columns : PictureSizes → List ℕ
columns s =
    if nat_le s.lanes 48
    then say_number phrase.TextX (s.left - 10) ++ say phrase.WeightHead ++ say_number phrase.TextX (slots_end s + s.right - 6) ++ say phrase.LagHead
    else []

unfoldable pub grid : PictureSizes → List ℕ
grid s = say phrase.PathBegin ++ grid_lines s ++ say phrase.GridEnd ++ numbers s ++ columns s

-- how far after the first slot the k-th one lies that begins a hyperperiod of l slots
abbrev pub hyper_slot : PictureSizes → ℕ → ℕ → ℕ
hyper_slot s l k = (s.first / l + 1 + k) * l - s.first

abbrev pub hyper_piece : PictureSizes → ℕ → ℕ → List ℕ
hyper_piece s l k = upright s (hyper_slot s l k)

abbrev pub hyper_count : PictureSizes → ℕ → ℕ
hyper_count s l = (s.first + s.slots) / l - s.first / l

abbrev pub hyper_lines : PictureSizes → ℕ → List ℕ
hyper_lines s l = each (hyper_piece s l) (hyper_count s l)

-- whether they are drawn: if there is one, and 40 at the most
abbrev pub is_dashed : PictureSizes → ℕ → Bool
is_dashed s l = nat_lt 0 (hyper_count s l) && nat_le (hyper_count s l) 40

-- a dashed line at each
unfoldable pub dashes : PictureSizes → ℕ → List ℕ
dashes s l =
    if is_dashed s l
    then say phrase.PathBegin ++ hyper_lines s l ++ say phrase.DashEnd else []

-- what the dashed lines mean, if there are some
abbrev pub hyper_key : PictureSizes → ℕ → List ℕ
hyper_key s l =
    if is_dashed s l
    then say_number phrase.NameY (lanes_end s + 22) ++ say_number phrase.FootHyper l ++ say phrase.FootEnd else []

unfoldable pub foot : PictureSizes → ℕ → List ℕ
foot s l = hyper_key s l ++ say phrase.SvgClose
