-- What is whole of a script's bytes.
use Rattle.std.specs.Prelude.{ℕ, ◌+◌, ◌==◌, ◌||◌, nat_lt, Bool, true, false, if◌then◌else◌, List, [], ◌∷◌, Option, option_map}
use Rattle.pfx_program_script.specs.Heard.{heard_left}
use Rattle.pfx_program_script.specs.declared.whole.Mode.{Mode}
use Rattle.pfx_program_script.specs.declared.whole.Mode.TheVariants as mode
use Rattle.pfx_program_script.specs.declared.whole.Spot.{Spot}
use Rattle.pfx_program_script.specs.declared.whole.Whole.{Whole}

abbrev pub is_over : Mode → Bool
is_over mode.Over = true
is_over other = false

abbrev pub is_quoted : Mode → Bool
is_quoted mode.Quoted = true
is_quoted other = false

-- a comma ends a field, and a line's end the record too
abbrev pub in_field : ℕ → Mode
in_field b = if b == 44 then mode.Field else (if (b == 10) || (b == 13) then mode.Start else mode.Plain)

-- a quote at a field's front opens it
abbrev pub at_field : ℕ → Mode
at_field b = if b == 34 then mode.Quoted else in_field b

-- behind a quote in an open field comes a second one, which stands for it, or the field's end
abbrev pub behind_quote : ℕ → Mode
behind_quote b = if b == 34 then mode.Quoted else (if (b == 44) || ((b == 10) || (b == 13)) then in_field b else mode.Over)

-- where the byte behind this one stands
abbrev pub mode_after : Mode → ℕ → Mode
mode_after mode.Begin b = if b == 239 then mode.Mark else at_field b
mode_after mode.Mark b = if b == 187 then mode.MarkEnd else in_field b
mode_after mode.MarkEnd b = if b == 191 then mode.Start else in_field b
mode_after mode.Start b = at_field b
mode_after mode.Field b = at_field b
mode_after mode.Plain b = in_field b
mode_after mode.Quoted b = if b == 34 then mode.Closing else mode.Quoted
mode_after mode.Closing b = behind_quote b
mode_after mode.Over b = mode.Over

-- a record has at most 1,048,576 bytes
abbrev pub spot_with : Mode → ℕ → Spot
spot_with mode.Start n = record { mode = mode.Start; len = 0 }
spot_with mode.Over n = record { mode = mode.Over; len = 0 }
spot_with m n = if nat_lt n 1048576 then record { mode = m; len = n + 1 } else record { mode = mode.Over; len = 0 }

unfoldable pub after : Spot → ℕ → Spot
after s b = spot_with (mode_after s.mode b) s.len

-- what is whole of the bytes from here on: where it ends before they do, a byte ends it that no text has
unfoldable pub whole : Spot → List ℕ → List ℕ
whole s [] = if is_quoted s.mode then 255 ∷ [] else []
whole s (x ∷ xs) = if is_over s.mode then [] else (if is_over (after s x).mode then 255 ∷ [] else x ∷ whole (after s x) xs)

-- the same of a script's bytes
abbrev pub whole_of : List ℕ → List ℕ
whole_of bytes = whole (record { mode = mode.Begin; len = 0 }) bytes

-- what is left behind bytes of which some aren't whole, or all are
abbrev pub behind : Bool → Spot → List ℕ → List ℕ
behind true s rest = 255 ∷ []
behind false s rest = whole s rest

-- what such a reader has left
abbrev pub whole_left : {R : Type 0} → (R → Option (List ℕ)) → Whole R → Option (List ℕ)
whole_left rem w = option_map (whole w.spot) (heard_left rem w.input)
