use Rattle.std.proofs.Common.{ℤ, List, arith, subst, sym}
use Rattle.pfx_columns.specs.Columns.{IsColumn, e_in, p_in}
use Rattle.pfx_columns.specs.Ledgers.{total}
use Rattle.pfx_choice.proofs.OneString.{kinds_of}
use Rattle.pfx_choice.proofs.fractions.Fractions.find.Goals as goal

pub invariant_of-self-in-Ok-true : goal.invariant_of-self-in-Ok-true
invariant_of-self-in-Ok-true c =
    let g = c.args.ledger.now in
    let P : List ℤ → Type 0 = λ l. IsColumn (total g) (e_in g) l in
    let Q : List ℤ → Type 0 = λ l. IsColumn (total g) (p_in g) l in
    let es = subst P (sym c.in_ok-copy.ensures) c.es.ensures in
    let ps = subst Q (sym c.in_ok-copy-2.ensures) c.ps.ensures in
    record { kinds = kinds_of g _ _ _ _ es ps (c.in-Ok-true.ensures.kinds c.in-Ok-true.field-0-test) }

pub returns-in-Ok-true : goal.returns-in-Ok-true
returns-in-Ok-true c = omega (arith, c.in-Ok-true.ensures.few, c.total-total.ensures.ledger.set.number)
