-- The set of the ledger that a store begins with.
use Rattle.std.proofs.Common.{◌≡◌, ℕ, ◌==◌, List, length, Bool, true, false, Option, Some, None, refl, sym, ◌∙◌, ap}
use Rattle.std.specs.Prelude.{if◌then◌else◌, option_and_then}
use Rattle.pfx_columns.specs.Ledgers.{Ledger, ledger_at}
use Rattle.pfx_weights.specs.Sets.{FilledSet}
use Rattle.pfx_program.specs.Ledger.{Begins, ledger_of, of_set}

-- the set of a ledger, or this one where there is none
abbrev set_in : FilledSet → Option Ledger → FilledSet
set_in set None = set
set_in set (Some g) = g.set

set_given : (set : FilledSet) (o : Option (ℕ × List ℕ)) → set_in set (option_and_then (of_set set) o) ≡ set
set_given set None = refl
set_given set (Some (slot, allocs)) = by (length allocs == length set.weights)
  where
    by : (b : Bool) → set_in set (if b then Some (ledger_at set slot allocs) else None) ≡ set
    by true = refl
    by false = refl

-- a ledger that a plan of a set begins with is of the set
pub begins_of : (set : FilledSet) (at : Option (List ℕ)) (g : Ledger) → Begins set at g → g.set ≡ set
begins_of set None g is = ap (λ (l : Ledger). l.set) is
begins_of set (Some text) g begins = sym (ap (set_in set) begins.0) ∙ set_given set (ledger_of text)
