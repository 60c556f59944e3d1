use Rattle.std.proofs.Common.{rules}
use Rattle.pfx_program_set.specs.SetFile.{task_in}
use Rattle.pfx_program_set.proofs.reading.task.Goals as goal

pub returns-in_default-number_under-clause-bad : goal.returns-in_default-number_under-clause-bad
unfolding task_in
returns-in_default-number_under-clause-bad c = search rules

pub returns-in_default-number_under-2-clause-bad :
    goal.returns-in_default-number_under-2-clause-bad
unfolding task_in
returns-in_default-number_under-2-clause-bad c = search rules

pub returns-in_err-name-clause-bad : goal.returns-in_err-name-clause-bad
unfolding task_in
returns-in_err-name-clause-bad c = search rules

pub returns-clause-ok : goal.returns-clause-ok
unfolding task_in
returns-clause-ok c = search rules
