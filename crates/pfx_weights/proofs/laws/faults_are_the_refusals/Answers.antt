use Rattle.pfx_weights.proofs.Faulting.{fault_of, fault_from, no_memory, none_accepts, accepts_none}
use Rattle.pfx_weights.proofs.laws.faults_are_the_refusals.Goals as goal

pub returns-clause-refused : goal.returns-clause-refused
returns-clause-refused c = λ m tasks f other. ((λ is. (fault_of m tasks f is).1), fault_from m tasks f other)

pub returns-clause-memory : goal.returns-clause-memory
returns-clause-memory c = no_memory

pub returns-clause-accepted : goal.returns-clause-accepted
returns-clause-accepted c = λ m tasks. (none_accepts m tasks, accepts_none m tasks)
