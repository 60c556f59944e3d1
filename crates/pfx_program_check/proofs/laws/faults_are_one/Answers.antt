use Rattle.pfx_program_check.proofs.Ones.{all_are_one}
use Rattle.pfx_program_check.proofs.laws.faults_are_one.Goals as goal

pub returns : goal.returns
returns c = all_are_one
