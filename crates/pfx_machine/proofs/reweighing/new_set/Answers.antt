use Rattle.std.proofs.Common.{sym, ◌∙◌}
use Rattle.pfx_machine.proofs.Reweighs.{wrong_count, not_level, set_refused}
use Rattle.pfx_machine.proofs.reweighing.new_set.Goals as goal

pub returns-then-weights-real-clause-err : goal.returns-then-weights-real-clause-err
returns-then-weights-real-clause-err c = λ other.
    wrong_count c.args.ledger.now c.args.segment c.args.workers c.args.weights.now (λ is. c.if-weights-real.true (is ∙ sym c.real.ensures))

pub returns-in-Some-clause-err : goal.returns-in-Some-clause-err
returns-in-Some-clause-err c = λ other.
    not_level c.args.ledger.now c.args.segment c.args.workers c.args.weights.now c.in-Some.task (c.if-weights-real.false ∙ c.real.ensures) (sym c.in-Some.ensures)

pub returns-in-Err-clause-err : goal.returns-in-Err-clause-err
returns-in-Err-clause-err c = λ other.
    rw c.fault_of.ensures (set_refused c.args.ledger.now c.args.segment c.args.workers c.args.weights.now c.in-Err.fault (c.if-weights-real.false ∙ c.real.ensures) (sym c.in_default.ensures) c.in-Err.ensures
    (λ is. other (c.fault_of.ensures ∙ is)))
