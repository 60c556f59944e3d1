use Rattle.pfx_program_args.proofs.PlainAudit.{plain_audit_taken, plain_audit_asked}
use Rattle.pfx_program_args.proofs.laws.plain_audit.Goals as goal

pub returns-clause-taken : goal.returns-clause-taken
returns-clause-taken c = plain_audit_taken c.args.program.now c.args.log.now c.args.file.now c.requires.log c.requires.file

pub returns-clause-asked : goal.returns-clause-asked
returns-clause-asked c = plain_audit_asked c.args.program.now c.args.log.now c.args.file.now c.requires.log c.requires.file
