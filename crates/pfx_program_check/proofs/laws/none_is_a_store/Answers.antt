use Rattle.pfx_program_check.proofs.Going.{fits, faultless_is_taken}
use Rattle.pfx_program_check.proofs.Ones.{none_of_store}
use Rattle.pfx_program_check.proofs.laws.none_is_a_store.Goals as goal

pub returns-clause-none : goal.returns-clause-none
returns-clause-none c = λ m tasks segment h. (faultless_is_taken m tasks segment h, (fits m tasks segment h).1)

pub returns-clause-only : goal.returns-clause-only
returns-clause-only c = none_of_store
