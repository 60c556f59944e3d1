use Rattle.std.proofs.Common.{◌∙◌, inl, ap, sym, map}
use Rattle.pfx_replay.specs.Stated.{plain_of}
use Rattle.pfx_replay_audit.specs.Starts.{read_start}
use Rattle.pfx_replay_audit.specs.Watches.{Told, untold}
use Rattle.pfx_replay_audit.proofs.Logging.{first_handed, first_then, front_first, header_of}
use Rattle.pfx_replay_audit.proofs.log.fold_first.Goals as goal

pub returns-in_err-header : goal.returns-in_err-header
returns-in_err-header g c =
    let view = g.L.Disk.view in
    front_first g.J.Job.kind g.J.Units.unit (map plain_of c.args.marks.now) (Told g.J.Job.kind g.W.Watch.sees c.args.watch.now c.args.watch.now) (view c.args.disk.now) (view c.read_front.new.disk) c.in_err-header.field-0.0
    c.in_err-header.ensures.read c.from_residual.result c.from_residual.ensures.1

pub returns-in_err-start : goal.returns-in_err-start
returns-in_err-start g c =
    let view = g.L.Disk.view in
    first_handed (view c.args.disk.now) (view c.read_front.new.disk) _ c.in_ok-header.ensures.read.looks (λ is. cc) (λ bytes kept. inl tt)
    g.J.Job.kind g.J.Units.unit (map plain_of c.args.marks.now) (Told g.J.Job.kind g.W.Watch.sees c.args.watch.now c.args.watch.now) c.from_residual-in_err-start.result c.from_residual-in_err-start.ensures.1

pub returns-in_default : goal.returns-in_default
returns-in_default g c =
    let K = g.J.Job.kind in
    let view = g.L.Disk.view in
    let a = view c.args.disk.now in
    let b = view c.read_front.new.disk in
    let h = c.in_ok-header.header in
    let reads = c.in_ok-header.ensures.read in
    let none = ap (read_start K h.version) (sym c.deref.ensures.value) ∙ sym c.in_ok-start.ensures ∙ c.in_default.is in
    record {
      looks = reads.looks;
      device = λ is. cc;
      exact = λ bytes kept. (header_of K g.J.Units.unit (map plain_of c.args.marks.now) untold a b b h.version h.state.items h.before c.in_ok-header.place reads.looks reads.exact bytes kept, none);
    }

pub returns : goal.returns
returns g c =
    let K = g.J.Job.kind in
    let view = g.L.Disk.view in
    let a = view c.args.disk.now in
    let b = view c.read_front.new.disk in
    let h = c.in_ok-header.header in
    let reads = c.in_ok-header.ensures.read in
    let some = ap (read_start K h.version) (sym c.deref.ensures.value) ∙ sym c.in_ok-start.ensures ∙ c.in-Some.is in
    first_then K g.J.Units.unit (map plain_of c.args.marks.now) (Told g.J.Job.kind g.W.Watch.sees c.args.watch.now c.fold_from.new.watch) a b (view c.fold_from.new.disk) h.version h.state.items h.before c.in_ok-header.place reads.looks reads.exact c.in-Some.start some c.fold_from.result c.fold_from.ensures
