use Rattle.std.proofs.Common.{◌≡◌, ◌≤◌, ◌-◌, [], ℕ, List, All}
use Rattle.pfx_log.specs.Holding.{Begins}
use Rattle.pfx_log.specs.Logs.{Log}
use Rattle.pfx_log.specs.Reading.{Keeps, Looks}
use Rattle.pfx_replay_audit.specs.Finding.{Has}
use Rattle.pfx_replay_audit.proofs.finding.find_from.Given as goal

abbrev pub invariant-walk : goal.invariant-walk
invariant-walk g l =
    let start = g.L.Disk.view l.initial.disk in
    record {
      inside : l.place.at ≤ l.len;
      looks : Looks start (g.L.Disk.view l.disk);
      passed : (bytes : List ℕ) → Keeps bytes start → (log : Log) → log.blocks ≡ [] → Begins log l.fn.first bytes
          → (more : Log) × Begins more l.place bytes × All (λ block. Has l.number block → ⊥) more.blocks;
    }

abbrev pub decreases-walk : goal.decreases-walk
decreases-walk g l = l.len - l.place.at
