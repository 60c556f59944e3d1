use Rattle.pfx_store_header.proofs.Stages.{sized_none, sized_some, sized_out}
use Rattle.pfx_store_header.proofs.reading.sized.Goals as goal

pub returns-in_default : goal.returns-in_default
returns-in_default c = sized_none c.args.segment c.args.set c.in_default.is

pub returns-in-Ok : goal.returns-in-Ok
returns-in-Ok c = sized_some c.args.segment c.args.set c.in-Some.set c.in-Some.is c.in-Ok.ensures

pub returns-in-Err : goal.returns-in-Err
returns-in-Err c = sized_out c.args.segment c.args.set c.in-Some.set c.in-Err.field-0 c.in-Some.is c.in-Err.ensures
