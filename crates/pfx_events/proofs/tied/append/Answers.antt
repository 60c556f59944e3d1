use Rattle.pfx_record.specs.Batches.{batch_of}
use Rattle.pfx_events.proofs.Appending.{acknowledged, breaks_off, keeps, onward, stopped_within, takes}
use Rattle.pfx_events.proofs.tied.append.Goals as goal

pub returns-clause-takes : goal.returns-clause-takes
returns-clause-takes g c B w n may is same carries honest =
    takes g.J.Job.kind g.met.J.Job.laws g.D.Disk.view c.args.store.now c.append.new.self (batch_of c.args.batch.now.first c.args.batch.now.records.items) c.append.result c.append.ensures.acts B w n may is same carries honest

pub returns-clause-breaks_off : goal.returns-clause-breaks_off
returns-clause-breaks_off g c B w n may is same carries honest failed =
    breaks_off g.J.Job.kind g.met.J.Job.laws g.D.Disk.view c.args.store.now c.append.new.self (batch_of c.args.batch.now.first c.args.batch.now.records.items) c.append.result c.append.ensures.acts B w n may is same carries honest failed

pub returns-clause-onward : goal.returns-clause-onward
returns-clause-onward g c B w n may tied carries =
    onward g.J.Job.kind g.met.J.Job.laws g.D.Disk.view c.args.store.now c.append.new.self (batch_of c.args.batch.now.first c.args.batch.now.records.items) c.append.result c.append.ensures.acts B w n may tied carries
    c.append.ensures.state.moved c.append.ensures.call.honest.0

pub returns-clause-within : goal.returns-clause-within
returns-clause-within g c B w n may tied carries d image past left =
    stopped_within g.J.Job.kind g.met.J.Job.laws g.D.Disk.view c.args.store.now c.append.new.self (batch_of c.args.batch.now.first c.args.batch.now.records.items) c.append.result c.append.ensures.acts B w n may tied carries d image past left

pub returns-clause-keeps : goal.returns-clause-keeps
returns-clause-keeps g c s batches H state all small at carries honest d n past before image left =
    keeps g.J.Job.kind g.met.J.Job.laws g.D.Disk.view c.args.store.now c.append.new.self (batch_of c.args.batch.now.first c.args.batch.now.records.items) c.append.result c.append.ensures.commits s batches H state all small at carries honest d n past before image left

pub returns-clause-acknowledged : goal.returns-clause-acknowledged
returns-clause-acknowledged g c s batches H state all small at carries honest =
    acknowledged g.J.Job.kind g.met.J.Job.laws g.D.Disk.view c.args.store.now c.append.new.self (batch_of c.args.batch.now.first c.args.batch.now.records.items) c.append.result c.append.ensures.commits s batches H state all small at carries honest
