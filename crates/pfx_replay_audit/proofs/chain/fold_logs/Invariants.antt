use Rattle.std.proofs.Common.{◌≡◌, ◌≤◌, ℕ, length, get_or, take, map}
use Rattle.std.specs.Prelude.{All}
use Rattle.pfx_disk.specs.Disk.{IsHonest}
use Rattle.pfx_log.specs.Reading.{Looks}
use Rattle.pfx_replay.specs.Stated.{plain_of}
use Rattle.pfx_replay_audit.specs.Audits.{AreAgreed}
use Rattle.pfx_replay_audit.specs.Watches.{Told}
use Rattle.pfx_replay_audit.proofs.chain.fold_logs.Given as goal

abbrev pub invariant-loop-index : goal.invariant-loop-index
invariant-loop-index g l =
    let view = g.L.Disk.view in
    let start = l.fn.logs in
    record {
      long : length l.logs ≡ length start;
      looks : (k : ℕ) (d : g.row.L.Denot) → Looks (view (get_or start k d)) (view (get_or l.logs k d));
      untouched : (k : ℕ) (d : g.row.L.Denot) → l.index ≤ k → get_or l.logs k d ≡ get_or start k d;
      come : All (λ d. IsHonest (view d)) start → (agreed : AreAgreed g.J.Job.kind g.J.Units.unit (map plain_of l.marks) (take l.index (map (λ d. (view d).contents) start)) l.state l.place)
          × Told g.J.Job.kind g.W.Watch.sees l.fn.watch l.watch agreed.s agreed.read;
    }
