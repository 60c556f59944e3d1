use Rattle.pfx_program_check.proofs.Ones.{first_is}
use Rattle.pfx_program_check.proofs.laws.first_is_the_sets.Goals as goal

pub returns : goal.returns
returns c = first_is
