use Rattle.pfx_columns.proofs.Steps.{fair_low, fair_high, fair_from}
use Rattle.pfx_weights.specs.Rows.{count}
use Rattle.pfx_machine_feasible.proofs.Moves.{fair_moved}
use Rattle.pfx_machine_feasible.proofs.laws.moves_stay_fair.Goals as goal

pub returns : goal.returns
returns c = λ e p col s v move i fair.
    (let next = fair_moved e p col s v move i (fair_low e p (count i col) i fair) (fair_high e p (count i col) i fair) in
    fair_from e p _ i next.0 next.1)
