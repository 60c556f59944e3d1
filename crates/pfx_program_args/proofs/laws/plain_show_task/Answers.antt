use Rattle.pfx_program_args.proofs.PlainShow.{plain_show_task_taken, plain_show_task_asked}
use Rattle.pfx_program_args.proofs.laws.plain_show_task.Goals as goal

pub returns-clause-taken : goal.returns-clause-taken
returns-clause-taken c = plain_show_task_taken c.args.program.now c.args.file.now c.args.task.now c.requires.file c.requires.task

pub returns-clause-asked : goal.returns-clause-asked
returns-clause-asked c = plain_show_task_asked c.args.program.now c.args.file.now c.args.task.now c.requires.file c.requires.task
