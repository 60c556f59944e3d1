use Rattle.std.proofs.Common.{◌≤◌, ◌-◌, ℕ, List}
use Rattle.pfx_log.specs.Holding.{Begins}
use Rattle.pfx_log.specs.Logs.{Log}
use Rattle.pfx_log.specs.Reading.{Keeps, Looks}
use Rattle.pfx_log.proofs.opening.find_end.Given as goal

abbrev pub invariant-walk : goal.invariant-walk
invariant-walk g l =
    let start = g.D.Disk.view l.initial.disk in
    record {
      inside : l.place.at ≤ l.len;
      looks : Looks start (g.D.Disk.view l.disk);
      begins : (bytes : List ℕ) → Keeps bytes start → (log : Log) → Begins log l.fn.first bytes → (more : Log) × Begins more l.place bytes;
    }

abbrev pub decreases-walk : goal.decreases-walk
decreases-walk g l = l.len - l.place.at
