-- The text of a note, which stands below the line of a fault.
use Rattle.std.specs.Prelude.{codes, ℕ, nat_lt, nat_eq, ◌||◌, if◌then◌else◌, List, [], ◌++◌, map, Option, Some, None}

-- a byte as a line shows it: one that isn't seen, a line feed too, is a question mark
abbrev pub shown_byte : ℕ → ℕ
shown_byte b = if nat_lt b 32 || nat_eq b 127 then 63 else b

-- a line: two spaces, the text, a line feed
abbrev pub note_line : List ℕ → List ℕ
note_line text = codes "  " ++ map shown_byte text ++ codes "\n"

-- a line that may be left out
abbrev pub further_line : Option (List ℕ) → List ℕ
further_line None = []
further_line (Some text) = note_line text

-- what is wrong, what to change, and one line more
abbrev pub note_text : List ℕ → Option (List ℕ) → Option (List ℕ) → List ℕ
note_text what change more = note_line what ++ further_line change ++ further_line more
