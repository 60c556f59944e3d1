-- The text of figures.
use Rattle.std.specs.Prelude.{codes, ℕ, ◌+◌, ◌*◌, ◌/◌, ◌%◌, List, [], ◌++◌, if◌then◌else◌, int_lt, unsigned_abs, ℤ, pos}
use Rattle.std.specs.Fmt.{decimal, signed_decimal}
use Rattle.serde_json.specs.Data.{Data, unsigned, number, object, Members, no_members, member}
use Rattle.serde_json.specs.Find.{of_integer}
use Rattle.pfx_replay_totals.specs.Figures.{Figures, due_of}

-- a number of parts of a period, as `-1/3`
unfoldable pub ratio_text : ℤ → ℕ → List ℕ
ratio_text z p = signed_decimal z ++ codes "/" ++ decimal p

abbrev pub sign_text : ℤ → List ℕ
sign_text z = if int_lt z (pos 0) then codes "-" else codes ""

-- six digits, of a number below a million
unfoldable pub six_digits : ℕ → List ℕ
six_digits n = decimal (n / 100000) ++ decimal (n / 10000 % 10) ++ decimal (n / 1000 % 10)
    ++ decimal (n / 100 % 10) ++ decimal (n / 10 % 10) ++ decimal (n % 10)

-- the same number with six decimals, cut towards zero, as `-0.333333`
unfoldable pub decimal_text : ℤ → ℕ → List ℕ
decimal_text z p = sign_text z ++ decimal (unsigned_abs z / p) ++ codes "." ++ six_digits ((unsigned_abs z % p) * 1000000 / p)

-- the window and the task, the counts, and the lags
unfoldable pub head_text : Figures → List ℕ
head_text f = decimal f.from ++ codes ".." ++ decimal f.to ++ codes " task " ++ decimal f.task

unfoldable pub counts_text : Figures → List ℕ
counts_text f = codes "got " ++ decimal f.got ++ codes " used " ++ decimal f.used ++ codes " wasted " ++ decimal f.wasted

unfoldable pub lags_text : Figures → List ℕ
lags_text f = codes "lag " ++ ratio_text f.least f.p ++ codes " to " ++ ratio_text f.greatest f.p

unfoldable pub end_text : Figures → List ℕ
end_text f = codes "at the end " ++ ratio_text f.last f.p

unfoldable pub due_text : Figures → List ℕ
due_text f = ratio_text (pos (due_of f)) f.p

-- `0..720 task 0 due 720/3 got 240 used 200 wasted 40 lag -1/3 to 2/3, at the end 0/3`
unfoldable pub figures_text : Figures → List ℕ
figures_text f = head_text f ++ codes " due " ++ due_text f ++ codes " " ++ counts_text f
    ++ codes " " ++ lags_text f ++ codes ", " ++ end_text f

abbrev pub figures_line : Figures → List ℕ
figures_line f = figures_text f ++ codes "\n"

-- the names of the columns
abbrev pub csv_head : List ℕ
csv_head = codes "from,to,place,owner,due,got,used,extra,lent,wasted,lag_least,lag_greatest,lag_end,"
    ++ codes "due_decimal,lag_least_decimal,lag_greatest_decimal,lag_end_decimal\n"

-- the window and the task, with an empty owner; the counts, with two empty columns for what was lent; the lags; and the decimals
unfoldable pub head_cells : Figures → List ℕ
head_cells f = decimal f.from ++ codes "," ++ decimal f.to ++ codes "," ++ decimal f.task ++ codes ","

unfoldable pub count_cells : Figures → List ℕ
count_cells f = decimal f.got ++ codes "," ++ decimal f.used ++ codes ",,," ++ decimal f.wasted

unfoldable pub lag_cells : Figures → List ℕ
lag_cells f = ratio_text f.least f.p ++ codes "," ++ ratio_text f.greatest f.p ++ codes "," ++ ratio_text f.last f.p

unfoldable pub decimal_cells : Figures → List ℕ
decimal_cells f = decimal_text (pos (due_of f)) f.p ++ codes "," ++ decimal_text f.least f.p
    ++ codes "," ++ decimal_text f.greatest f.p ++ codes "," ++ decimal_text f.last f.p

unfoldable pub exact_cells : Figures → List ℕ
exact_cells f = head_cells f ++ codes "," ++ due_text f ++ codes "," ++ count_cells f ++ codes "," ++ lag_cells f

abbrev pub csv_line : Figures → List ℕ
csv_line f = exact_cells f ++ codes "," ++ decimal_cells f ++ codes "\n"

-- an object, whose due and lags are numbers of parts of the period
abbrev pub count_at : List ℕ → ℕ → Members → Members
count_at key n rest = member key (number (unsigned n)) rest

abbrev pub lag_at : List ℕ → ℤ → Members → Members
lag_at key z rest = member key (number (of_integer z)) rest

abbrev pub window_object : Figures → Data
window_object f = object (count_at (codes "from") f.from (count_at (codes "to") f.to no_members))

abbrev pub slots_object : Figures → Data
slots_object f = object (count_at (codes "due") (due_of f) (count_at (codes "got") f.got
    (count_at (codes "used") f.used (count_at (codes "wasted") f.wasted no_members))))

abbrev pub lags_object : Figures → Data
lags_object f = object (lag_at (codes "end") f.last (lag_at (codes "greatest") f.greatest (lag_at (codes "least") f.least no_members)))

-- `{"lag":{"end":0,"greatest":2,"least":-1},"period":3,"slots":{"due":720,"got":240,"used":200,"wasted":40},"task":0,
-- "window":{"from":0,"to":720}}`
abbrev pub figures_object : Figures → Data
figures_object f = object (member (codes "lag") (lags_object f) (count_at (codes "period") f.p (member (codes "slots") (slots_object f)
    (count_at (codes "task") f.task (member (codes "window") (window_object f) no_members)))))
