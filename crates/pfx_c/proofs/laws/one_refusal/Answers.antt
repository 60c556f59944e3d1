use Rattle.pfx_c.proofs.Answering.{one_set_fault, one_check, one_next, one_plan}
use Rattle.pfx_c.proofs.laws.one_refusal.Goals as goal

pub returns-clause-set : goal.returns-clause-set
returns-clause-set c = one_set_fault

pub returns-clause-check : goal.returns-clause-check
returns-clause-check c = one_check

pub returns-clause-next : goal.returns-clause-next
returns-clause-next c = one_next

pub returns-clause-plan : goal.returns-clause-plan
returns-clause-plan c = one_plan
