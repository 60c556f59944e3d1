use Rattle.pfx_record.proofs.read_record.read_record.Goals as goal

pub returns-in-1-clause-found : goal.returns-in-1-clause-found
returns-in-1-clause-found g c = c.read_submit.ensures.found c.args.form

pub returns-in-1-clause-none : goal.returns-in-1-clause-none
returns-in-1-clause-none g c = c.read_submit.ensures.none c.args.form

pub returns-in-3-clause-found : goal.returns-in-3-clause-found
returns-in-3-clause-found g c = c.read_withdraw.ensures.found c.args.form

pub returns-in-3-clause-none : goal.returns-in-3-clause-none
returns-in-3-clause-none g c = c.read_withdraw.ensures.none c.args.form
