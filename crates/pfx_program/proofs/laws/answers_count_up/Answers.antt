use Rattle.pfx_program.proofs.Granting.{course_counts}
use Rattle.pfx_program.specs.Script.{at_start}
use Rattle.pfx_program.proofs.laws.answers_count_up.Goals as goal

pub returns : goal.returns
returns c = λ form s at records x last is keeps. course_counts at (at_start form s) records x last is keeps
