use Rattle.std.proofs.Common.{◌≡◌, sym, subst, Result, Ok, Err, IfOk}
use Rattle.pfx_columns.specs.Ledgers.{Ledger, start}
use Rattle.pfx_machine_feasible.specs.Endless.{IsEndless}
use Rattle.pfx_machine_feasible.proofs.Endless.{start_endless}
use Rattle.pfx_machine_feasible.proofs.slots.begin.Goals as goal

endless_if : {E : Type 0} (r : Result Ledger E) (k : Ledger) → IsEndless k → IfOk r (λ g. g ≡ k) → IfOk r (λ g. (g ≡ k) × IsEndless g)
endless_if (Ok g) k endless is = (is, subst IsEndless (sym is) endless)
endless_if (Err f) k endless h = h

pub returns : goal.returns
returns c = endless_if c.zero.result (start c.args.set.now) (start_endless c.args.set.now c.total-total.ensures.filled) c.zero.ensures
