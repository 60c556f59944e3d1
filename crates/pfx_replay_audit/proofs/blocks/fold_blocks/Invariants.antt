use Rattle.std.proofs.Common.{◌≤◌, ◌-◌, ℕ, List, map}
use Rattle.pfx_log.specs.Holding.{Begins}
use Rattle.pfx_log.specs.Logs.{new_log}
use Rattle.pfx_log.specs.Reading.{Keeps, Looks}
use Rattle.pfx_replay.specs.Stated.{plain_of}
use Rattle.pfx_replay_audit.specs.Watches.{Told}
use Rattle.pfx_replay_audit.proofs.Reading.{Come}
use Rattle.pfx_replay_audit.proofs.blocks.fold_blocks.Given as goal

abbrev pub invariant-walk : goal.invariant-walk
invariant-walk g l =
    let start = g.L.Disk.view l.initial.disk in
    record {
      inside : l.place.at ≤ l.len;
      looks : Looks start (g.L.Disk.view l.disk);
      come : (bytes : List ℕ) → Keeps bytes start → (version : ℕ) → (spelled before : List ℕ) → Begins (new_log version spelled before) l.fn.first bytes
          → (come : Come g.J.Job.kind g.J.Units.unit (map plain_of l.marks) (new_log version spelled before) l.fn.state bytes l.place l.reached) × Told g.J.Job.kind g.W.Watch.sees l.initial.watch l.watch l.fn.state come.read;
    }

abbrev pub decreases-walk : goal.decreases-walk
decreases-walk g l = l.len - l.place.at
