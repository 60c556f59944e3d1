use Rattle.std.proofs.Common.{inl, map, sym, subst, rules}
use Rattle.pfx_log.proofs.Looks.{looks_none}
use Rattle.pfx_log.specs.Logs.{new_log}
use Rattle.pfx_replay.specs.Stated.{plain_of}
use Rattle.pfx_replay.specs.declared.verdict.Difference.TheVariants.{Checkpoint}
use Rattle.pfx_replay_audit.specs.Marks.{Meets}
use Rattle.pfx_replay_audit.specs.Reads.{AreUntil}
use Rattle.pfx_replay_audit.specs.Watches.{Told}
use Rattle.pfx_replay_audit.proofs.Reading.{log_handed, until_none}
use Rattle.pfx_replay_audit.proofs.log.fold_from.Goals as goal

pub returns-in_err-meets_at : goal.returns-in_err-meets_at
returns-in_err-meets_at g c =
    let a = g.L.Disk.view c.args.disk.now in
    log_handed g.J.Job.kind g.J.Units.unit (map plain_of c.args.marks.now) (Told g.J.Job.kind g.W.Watch.sees c.args.watch.now c.args.watch.now) c.args.first c.args.state a a _ (looks_none a)
    (λ is. cc) (λ bytes kept version spelled before begins. inl tt) c.from_residual.result c.from_residual.ensures.1

pub returns-then-not-branch : goal.returns-then-not-branch
returns-then-not-branch g c =
    let K = g.J.Job.kind in
    let unit = g.J.Units.unit in
    let marks = map plain_of c.args.marks.now in
    let s = c.args.state in
    let no : Meets marks s → ⊥ = λ h. (let yes = c.in_ok-meets_at.ensures.1 h in search rules) in
    record {
      looks = looks_none _;
      device = tt;
      exact = λ bytes kept version spelled before begins.
          subst (λ n. AreUntil K unit marks (new_log version spelled before) s bytes Checkpoint n) (sym c.number-number.ensures.number) (until_none K g.met.J.Job.laws unit marks (new_log version spelled before) s bytes c.args.first begins no);
    }
