-- Numbers as users write them.
use Rattle.std.specs.Prelude.{ℕ, Bool, ◌&&◌, nat_lt, nat_le, if◌then◌else◌, List, length, Option, Some, None}
use Rattle.std.specs.List.{list_all}
use Rattle.std.specs.Char.{is_ascii_digit}
use Rattle.std.specs.Str.Parse.{digits_value}

-- 1 to `most` decimal digits
abbrev pub is_numeral : ℕ → List ℕ → Bool
is_numeral most text = nat_lt 0 (length text) && (nat_le (length text) most && list_all is_ascii_digit text)

-- the number that they write
unfoldable pub number_in : ℕ → List ℕ → Option ℕ
number_in most text = if is_numeral most text then Some (digits_value 10 text) else None
