use Rattle.std.proofs.Common.{◌∙◌, ap, map, subst}
use Rattle.pfx_record.specs.Batches.{batch_of}
use Rattle.pfx_record.specs.Reading.{NoBatch, OnDamage}
use Rattle.pfx_record.specs.Records.{plain}
use Rattle.pfx_record.specs.declared.faults.BatchFault.{BatchFault}
use Rattle.pfx_replay.proofs.FrameRuns.{no_batch, too_long, whole}
use Rattle.pfx_replay.proofs.records.records_of.Goals as goal

pub returns-in-Err-Damaged : goal.returns-in-Err-Damaged
returns-in-Err-Damaged g c =
    let none = subst (λ (fault : BatchFault). OnDamage fault (λ at what. NoBatch g.J.Job.kind c.args.workers c.args.real c.args.frame.now)) c.in-Err-Damaged.field-0-is c.in-Err-Damaged.ensures.none in
    ap (map plain) c.new.ensures.items ∙ no_batch g.J.Job.kind g.met.J.Job.laws c.args.workers c.args.real c.args.frame.now none

pub returns-then-taken-frame : goal.returns-then-taken-frame
returns-then-taken-frame g c =
    ap (map plain) c.new-then-taken-frame.ensures.items ∙ too_long g.J.Job.kind g.met.J.Job.laws c.args.workers c.args.real c.args.frame.now _ c.in-Ok.taken c.in-Ok.ensures.found c.if-taken-frame.true

pub returns-else-taken-frame : goal.returns-else-taken-frame
returns-else-taken-frame g c =
    whole g.J.Job.kind g.met.J.Job.laws c.args.workers c.args.real c.args.frame.now (batch_of c.in-Ok.batch.first c.in-Ok.batch.records.items) c.in-Ok.taken c.in-Ok.ensures.found c.if-taken-frame.false
