-- Which fault a word names, and what is printed of one.
use Rattle.std.specs.Prelude.{◌≡◌, codes, ℕ, Bool, false, map, nat_eq, ◌||◌, List, ◌++◌, Option, Some, None}
use Rattle.std.specs.Fmt.{decimal}
use Rattle.std.specs.List.{AllByRecursion}
use Rattle.std.specs.Str.{bytes_eq}
use Rattle.pfx_fault.specs.Refusals.{name_of, number_of, status_of}
use Rattle.pfx_fault.specs.declared.refusals.Fault.{Fault}
use Rattle.pfx_program_explain.specs.declared.entries.Entry.{Entry}
use Rattle.pfx_kinds_decimal.specs.Numerals.{number_in}

-- there is this number
abbrev pub is_number : Option ℕ → ℕ → Bool
is_number None n = false
is_number (Some m) n = nat_eq m n

-- the word is the fault's number, in one or two digits, or its name
abbrev pub names : List ℕ → Fault → Bool
names word f = is_number (number_in 2 word) (number_of f) || bytes_eq word (name_of f)

-- the faults of entries
abbrev pub faults_of : List Entry → List Fault
faults_of es = map (λ e. e.fault) es

-- the word names none of them
abbrev pub AreSpared : List ℕ → List Fault → Type 0
AreSpared word fs = AllByRecursion (λ f. names word f ≡ false) fs

-- the number, the name and the exit status, and what is said of the fault
abbrev pub entry_text : Fault → List ℕ → List ℕ
entry_text f text = decimal (number_of f) ++ codes " " ++ name_of f ++ codes ", status " ++ decimal (status_of f) ++ codes "\n\n" ++ text ++ codes "\n"
