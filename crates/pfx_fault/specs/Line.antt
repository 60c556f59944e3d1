-- The text of a refusal, and the line that the program prints for it.
use Rattle.std.specs.Prelude.{codes, ℕ, List, [], ◌∷◌, ◌++◌}
use Rattle.std.specs.Fmt.{decimal}
use Rattle.pfx_fault.specs.Refusals.{Field, Refusal, refusal}
use Rattle.pfx_fault.specs.declared.refusals.Fault.{Fault}

-- ` name=value` for each field
abbrev pub fields_text : List Field → List ℕ
fields_text [] = []
fields_text (f ∷ rest) = codes " " ++ f.name ++ codes "=" ++ f.value ++ fields_text rest

-- the number, the name and the fields
abbrev pub refusal_text : Refusal → List ℕ
refusal_text r = decimal r.number ++ codes " " ++ r.name ++ fields_text r.fields

-- as `14 BadWeight task=2`
abbrev pub fault_text : Fault → List ℕ
fault_text f = refusal_text (refusal f)

-- as `pfx: error 14 BadWeight task=2`, and a line feed
abbrev pub fault_line : Fault → List ℕ
fault_line f = codes "pfx: error " ++ fault_text f ++ codes "\n"

-- as `refused 32 TaskBusy task=0`
abbrev pub refused_text : Fault → List ℕ
refused_text f = codes "refused " ++ fault_text f
