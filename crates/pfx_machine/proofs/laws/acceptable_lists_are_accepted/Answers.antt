use Rattle.pfx_machine.proofs.RunLemmas.{acceptable_whole, acceptable_answers}
use Rattle.pfx_machine.proofs.laws.acceptable_lists_are_accepted.Goals as goal

pub returns-clause-accepted : goal.returns-clause-accepted
returns-clause-accepted g c = acceptable_whole g.J.Job.kind

pub returns-clause-answers : goal.returns-clause-answers
returns-clause-answers g c = acceptable_answers g.J.Job.kind
