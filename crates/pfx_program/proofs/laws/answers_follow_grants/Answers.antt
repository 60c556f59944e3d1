use Rattle.pfx_program.proofs.Granting.{course_follows}
use Rattle.pfx_program.specs.Script.{at_start}
use Rattle.pfx_program.proofs.laws.answers_follow_grants.Goals as goal

pub returns : goal.returns
returns c = λ form s at records granted. course_follows at (at_start form s) records granted
