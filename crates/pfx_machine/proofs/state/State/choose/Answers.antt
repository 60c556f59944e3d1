use Rattle.std.proofs.Common.{sym, subst, arith}
use Rattle.pfx_choice.specs.PfRows.{AnswersFunction, chosen}
use Rattle.pfx_machine.specs.Plain.{Plain}
use Rattle.pfx_machine.proofs.Rowing.{row_same}
use Rattle.pfx_machine.proofs.state.State.choose.Goals as goal

pub returns-clause-row : goal.returns-clause-row
returns-clause-row g c =
    subst (λ f. AnswersFunction f c.choose.result) (sym (row_same c.args.self.now (omega (arith, c.if-slot.false, c.slot.ensures.slot))))
    (subst (λ (s : Plain g.row.J.Denot). AnswersFunction (chosen s.ledger) c.choose.result) c.self.view_is c.choose.ensures.function)
