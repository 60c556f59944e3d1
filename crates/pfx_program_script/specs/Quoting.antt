-- A script's text in the words of those who write one: lines of fields with commas between.
use Rattle.std.specs.Prelude.{◌≡◌, ◌≤◌, ◌==◌, ◌||◌, ⊤, ℕ, Bool, false, if◌then◌else◌, List, [], ◌∷◌, ◌++◌, length}

-- a field: a text as it is, or one between quotes
pub data Field : Type 0 where
  plain : List ℕ → Field
  quoted : List ℕ → Field

-- a text in which each quote stands twice
abbrev pub doubled : List ℕ → List ℕ
doubled [] = []
doubled (x ∷ xs) = if x == 34 then 34 ∷ 34 ∷ doubled xs else x ∷ doubled xs

abbrev pub field_text : Field → List ℕ
field_text (plain text) = text
field_text (quoted text) = 34 ∷ (doubled text ++ 34 ∷ [])

-- a comma, a line feed or a carriage return
abbrev pub is_end : ℕ → Bool
is_end b = (b == 44) || ((b == 10) || (b == 13))

abbrev pub HasNoEnd : List ℕ → Type 0
HasNoEnd [] = ⊤
HasNoEnd (x ∷ xs) = (is_end x ≡ false) × HasNoEnd xs

-- what stands without quotes doesn't begin with one, and has neither a comma nor a line's end
abbrev pub IsField : Field → Type 0
IsField (plain []) = ⊤
IsField (plain (x ∷ xs)) = ((x == 34) ≡ false) × HasNoEnd (x ∷ xs)
IsField (quoted text) = ⊤

abbrev pub AreFields : List Field → Type 0
AreFields [] = ⊤
AreFields (f ∷ fs) = IsField f × AreFields fs

-- fields with a comma in front of each but the first
abbrev pub further_text : List Field → List ℕ
further_text [] = []
further_text (f ∷ fs) = 44 ∷ (field_text f ++ further_text fs)

abbrev pub record_text : List Field → List ℕ
record_text [] = []
record_text (f ∷ fs) = field_text f ++ further_text fs

-- a record whose quotes close, of 1,048,576 bytes at the most
abbrev pub IsShort : List Field → Type 0
IsShort fields = AreFields fields × (length (record_text fields) ≤ 1048576)

abbrev pub AreShort : List (List Field) → Type 0
AreShort [] = ⊤
AreShort (r ∷ rs) = IsShort r × AreShort rs

-- records, each at its line's end: a line feed, or a carriage return and a line feed; and the last one, which needn't have one
abbrev pub line_end : Bool → List ℕ
line_end cr = if cr then 13 ∷ 10 ∷ [] else 10 ∷ []

abbrev pub script_text : Bool → List (List Field) → List Field → List ℕ
script_text cr [] last = record_text last
script_text cr (r ∷ rs) last = record_text r ++ (line_end cr ++ script_text cr rs last)

-- a byte order mark
abbrev pub mark : List ℕ
mark = 239 ∷ 187 ∷ 191 ∷ []

-- the text doesn't begin as such a mark does
abbrev pub IsUnmarked : List ℕ → Type 0
IsUnmarked [] = ⊤
IsUnmarked (x ∷ xs) = (x == 239) ≡ false
