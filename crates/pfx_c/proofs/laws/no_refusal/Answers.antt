use Rattle.pfx_c.proofs.Answering.{no_set_fault, no_check, no_next, no_plan}
use Rattle.pfx_c.proofs.laws.no_refusal.Goals as goal

pub returns-clause-set : goal.returns-clause-set
returns-clause-set c = λ m total weights h. no_set_fault m weights h.set h.accepted

pub returns-clause-check : goal.returns-clause-check
returns-clause-check c = λ m slot weights allocs h. no_check m slot weights allocs h.0 h.1

pub returns-clause-next : goal.returns-clause-next
returns-clause-next c = no_next

pub returns-clause-plan : goal.returns-clause-plan
returns-clause-plan c = no_plan
