use Rattle.pfx_program_args.proofs.PlainMigrate.{json_migrate_taken, json_migrate_asked}
use Rattle.pfx_program_args.proofs.laws.plain_json_migrate.Goals as goal

pub returns-clause-taken : goal.returns-clause-taken
returns-clause-taken c = json_migrate_taken c.args.program.now c.args.old.now c.args.new.now c.requires.old c.requires.new

pub returns-clause-asked : goal.returns-clause-asked
returns-clause-asked c = json_migrate_asked c.args.program.now c.args.old.now c.args.new.now c.requires.old c.requires.new
