-- The ledger that a plan leaves, as a line behind those of its slots, in the form in which a plan takes one to begin with.
use Rattle.std.specs.Prelude.{codes, ◌++◌, ℕ, zero, suc, Bool, if◌then◌else◌, List, [], ◌∷◌, Option, Some, None, Result, Ok, Err}
use Rattle.std.specs.Fmt.{decimal}
use Rattle.serde_json.specs.Data.{Data, object, no_members}
use Rattle.pfx_weights.specs.Rows.{is_in}
use Rattle.pfx_columns.specs.Ledgers.{Ledger, after}
use Rattle.pfx_choice.specs.PfRows.{chosen}
use Rattle.pfx_choice.specs.declared.faults.ChoiceFault.{ChoiceFault}
use Rattle.pfx_program.specs.declared.form.OutputForm.{OutputForm}
use Rattle.pfx_program.specs.declared.form.OutputForm.TheVariants.{Text, Json}
use Rattle.pfx_program.specs.Objects.{object_line, text_at}

-- numbers, a sign before the first and a comma before each further one
unfoldable pub numbers_after : List ℕ → List ℕ → List ℕ
numbers_after sign [] = []
numbers_after sign (n ∷ ns) = sign ++ (decimal n ++ numbers_after (codes ",") ns)

-- the text `T:A,A,..` of a ledger
abbrev pub ledger_text : Ledger → List ℕ
ledger_text g = decimal g.slot ++ numbers_after (codes ":") g.allocs

-- the same as an object, `{"ledger":"2:2,1,1"}`
abbrev pub ledger_object : List ℕ → Data
ledger_object text = object (text_at (codes "ledger") text no_members)

abbrev pub ledger_line : OutputForm → Ledger → List ℕ
ledger_line Text g = ledger_text g ++ codes "\n"
ledger_line Json g = object_line (ledger_object (ledger_text g))

-- a ledger behind a row, if there is one
abbrev pub left_by : (List ℕ → Option Ledger) → Result (List ℕ) ChoiceFault → Option Ledger
left_by next (Ok row) = next row
left_by next (Err why) = None

-- the ledger that the rows of so many slots leave, if each has one
unfoldable pub left : Ledger → ℕ → Option Ledger
left g zero = Some g
left g (suc n) = left_by (λ row. left (after g (is_in row)) n) (chosen g)

-- what stands behind a plan's lines: the line of the ledger that they leave, if it is asked for and no slot lacks a row
abbrev pub closing : OutputForm → Bool → Option Ledger → List ℕ
closing form leaving None = []
closing form leaving (Some g) = if leaving then ledger_line form g else []
