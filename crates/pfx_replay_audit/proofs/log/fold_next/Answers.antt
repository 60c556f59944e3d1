use Rattle.std.proofs.Common.{◌≡◌, ◌≢◌, ◌∙◌, inl, inr, ap, sym, map, refl, IsTrue, rules}
use Rattle.pfx_replay.specs.Stated.{plain_of}
use Rattle.pfx_replay_audit.specs.Starts.{read_start}
use Rattle.pfx_replay_audit.specs.Watches.{Told, untold}
use Rattle.pfx_replay_audit.proofs.Logging.{next_handed, next_then, front_next, header_of, not_both}
use Rattle.pfx_replay_audit.proofs.log.fold_next.Goals as goal

pub returns-in_err-header : goal.returns-in_err-header
returns-in_err-header g c =
    let view = g.L.Disk.view in
    front_next g.J.Job.kind g.J.Units.unit (map plain_of c.args.marks.now) (Told g.J.Job.kind g.W.Watch.sees c.args.watch.now c.args.watch.now) c.args.from.now c.args.head (view c.args.disk.now) (view c.read_front.new.disk) c.in_err-header.field-0.0
    c.in_err-header.ensures.read c.from_residual.result c.from_residual.ensures.1

pub returns-in_err-start : goal.returns-in_err-start
returns-in_err-start g c =
    let view = g.L.Disk.view in
    next_handed (view c.args.disk.now) (view c.read_front.new.disk) _ c.in_ok-header.ensures.read.looks (λ is. cc) (λ bytes kept. inl tt)
    g.J.Job.kind g.J.Units.unit (map plain_of c.args.marks.now) (Told g.J.Job.kind g.W.Watch.sees c.args.watch.now c.args.watch.now) c.args.from.now c.args.head c.from_residual-in_err-start.result c.from_residual-in_err-start.ensures.1

pub returns-in_default : goal.returns-in_default
returns-in_default g c =
    let K = g.J.Job.kind in
    let view = g.L.Disk.view in
    let a = view c.args.disk.now in
    let b = view c.read_front.new.disk in
    let h = c.in_ok-header.header in
    let reads = c.in_ok-header.ensures.read in
    let none = ap (read_start K h.version) (sym c.deref.ensures.value) ∙ sym c.in_ok-start.ensures ∙ c.in_default.is in
    record {
      looks = reads.looks;
      device = λ is. cc;
      exact = λ bytes kept. (header_of K g.J.Units.unit (map plain_of c.args.marks.now) untold a b b h.version h.state.items h.before c.in_ok-header.place reads.looks reads.exact bytes kept, none);
    }

pub returns-then-not-is_next : goal.returns-then-not-is_next
returns-then-not-is_next g c =
    let K = g.J.Job.kind in
    let view = g.L.Disk.view in
    let a = view c.args.disk.now in
    let b = view c.read_front.new.disk in
    let h = c.in_ok-header.header in
    let reads = c.in_ok-header.ensures.read in
    let some = ap (read_start K h.version) (sym c.deref.ensures.value) ∙ sym c.in_ok-start.ensures ∙ c.in-Some.is in
    let no : (h.before ≡ c.args.head) × (c.in-Some.start.number ≡ c.args.from.now.number) → ⊥ = λ both. (let yes = c.is_next.ensures.1 both in search rules) in
    record {
      looks = reads.looks;
      device = λ is. cc;
      exact = λ bytes kept. record {
        header = header_of K g.J.Units.unit (map plain_of c.args.marks.now) untold a b b h.version h.state.items h.before c.in_ok-header.place reads.looks reads.exact bytes kept;
        start = c.in-Some.start;
        starts = some;
        not_next = not_both h.before c.args.head c.in-Some.start.number c.args.from.now.number no;
      };
    }

pub returns-in_err-are_same : goal.returns-in_err-are_same
returns-in_err-are_same g c =
    let view = g.L.Disk.view in
    next_handed (view c.args.disk.now) (view c.read_front.new.disk) _ c.in_ok-header.ensures.read.looks (λ is. cc) (λ bytes kept. inl tt)
    g.J.Job.kind g.J.Units.unit (map plain_of c.args.marks.now) (Told g.J.Job.kind g.W.Watch.sees c.args.watch.now c.args.watch.now) c.args.from.now c.args.head c.from_residual-in_err-are_same.result c.from_residual-in_err-are_same.ensures.1

pub returns-then-not-branch : goal.returns-then-not-branch
returns-then-not-branch g c =
    let K = g.J.Job.kind in
    let view = g.L.Disk.view in
    let a = view c.args.disk.now in
    let b = view c.read_front.new.disk in
    let h = c.in_ok-header.header in
    let reads = c.in_ok-header.ensures.read in
    let some = ap (read_start K h.version) (sym c.deref.ensures.value) ∙ sym c.in_ok-start.ensures ∙ c.in-Some.is in
    let yes : IsTrue c.is_next.result = search rules in
    let both = c.is_next.ensures.0 yes in
    let other : c.in-Some.start ≢ c.args.from.now = λ same. (let is = c.in_ok-are_same.ensures.1 same in search rules) in
    record {
      looks = reads.looks;
      device = tt;
      exact = λ bytes kept. inr (
        refl,
        record {
          header = header_of K g.J.Units.unit (map plain_of c.args.marks.now) untold a b b h.version h.state.items h.before c.in_ok-header.place reads.looks reads.exact bytes kept;
          start = c.in-Some.start;
          starts = some;
          head_is = both.0;
          number = c.number-number.ensures.number;
          same = both.1;
          other = other;
        },
      );
    }

pub returns : goal.returns
returns g c =
    let K = g.J.Job.kind in
    let view = g.L.Disk.view in
    let a = view c.args.disk.now in
    let b = view c.read_front.new.disk in
    let h = c.in_ok-header.header in
    let reads = c.in_ok-header.ensures.read in
    let some = ap (read_start K h.version) (sym c.deref.ensures.value) ∙ sym c.in_ok-start.ensures ∙ c.in-Some.is in
    let next : IsTrue c.is_next.result = search rules in
    let both = c.is_next.ensures.0 next in
    next_then K g.J.Units.unit (map plain_of c.args.marks.now) (Told g.J.Job.kind g.W.Watch.sees c.args.watch.now c.fold_from.new.watch) a b (view c.fold_from.new.disk) h.version h.state.items h.before c.in_ok-header.place reads.looks reads.exact c.in-Some.start some
    c.args.from.now c.args.head both.0 (c.in_ok-are_same.ensures.0 (search rules)) c.fold_from.result c.fold_from.ensures
