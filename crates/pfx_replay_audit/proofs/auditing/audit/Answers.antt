use Rattle.std.proofs.Common.{subst, Ok}
use Rattle.std.specs.Option.{option_copied}
use Rattle.pfx_replay_audit.specs.Audits.{LogsAnswer, ReadsEach}
use Rattle.pfx_replay_audit.specs.declared.ends.LogEnd.TheVariants.{Agrees}
use Rattle.pfx_replay_audit.specs.Watches.{Told}
use Rattle.pfx_replay_audit.proofs.Whole.{ended}
use Rattle.pfx_replay_audit.proofs.auditing.audit.Goals as goal

pub returns-in-Agrees : goal.returns-in-Agrees
returns-in-Agrees g c =
    let K = g.J.Job.kind in
    let view = g.L.Disk.view in
    let old = c.args.logs.now in
    let new = c.fold_logs.new.logs in
    let t = c.in-Agrees.state in
    let end = c.in-Agrees.place in
    let told = Told K g.W.Watch.sees c.args.watch.now c.fold_logs.new.watch in
    let reads = rw c.in-Agrees.is at c.in_ok-number.ensures in
    ended view old new K g.met.J.Job.laws g.J.Units.unit (option_copied c.args.file) g.W.Watch.sees c.args.watch.now c.fold_logs.new.watch c.end_from.new.watch t end
    (subst (λ marks. ReadsEach view old new (Ok (Agrees t end)) (λ images. LogsAnswer K g.J.Units.unit marks images told (Ok (Agrees t end)))) c.marks_in.ensures reads) c.end_from.result c.end_from.ensures
