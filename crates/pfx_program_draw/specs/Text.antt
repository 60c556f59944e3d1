-- The steps of a path.
use Rattle.std.specs.Prelude.{codes, ℕ, List, ◌++◌}
use Rattle.std.specs.Fmt.{decimal}

-- words and a number after them
abbrev pub with_number : List ℕ → ℕ → List ℕ
with_number words n = words ++ decimal n

-- go to a point, draw to a point, across and down
abbrev pub move_to : ℕ → ℕ → List ℕ
move_to x y = with_number (codes "M") x ++ with_number (codes " ") y

abbrev pub line_to : ℕ → ℕ → List ℕ
line_to x y = with_number (codes "L") x ++ with_number (codes " ") y

abbrev pub across_to : ℕ → List ℕ
across_to x = with_number (codes "H") x

abbrev pub down_to : ℕ → List ℕ
down_to y = with_number (codes "V") y
