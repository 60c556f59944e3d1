use Rattle.pfx_program_args.proofs.PlainMigrate.{plain_migrate_taken, plain_migrate_asked}
use Rattle.pfx_program_args.proofs.laws.plain_migrate.Goals as goal

pub returns-clause-taken : goal.returns-clause-taken
returns-clause-taken c = plain_migrate_taken c.args.program.now c.args.old.now c.args.new.now c.requires.old c.requires.new

pub returns-clause-asked : goal.returns-clause-asked
returns-clause-asked c = plain_migrate_asked c.args.program.now c.args.old.now c.args.new.now c.requires.old c.requires.new
