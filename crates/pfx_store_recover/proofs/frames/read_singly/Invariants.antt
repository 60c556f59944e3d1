use Rattle.std.proofs.Common.{◌≡◌, ◌<◌, ◌+◌, ◌-◌, ◌^◌, ℕ, List, length}
use Rattle.pfx_store_recover.specs.Looking.{IsKept, Looks}
use Rattle.pfx_store_recover.proofs.Walking.{WalksTo}
use Rattle.pfx_store_recover.proofs.frames.read_singly.Given as goal

abbrev pub invariant-walk : goal.invariant-walk
invariant-walk g l =
    let start = g.D.Disk.view l.initial.disk in
    let K = g.F.Format.codec in
    record {
      order : l.gate < l.end;
      last : l.last < 2 ^ 48;
      looks : Looks start (g.D.Disk.view l.disk);
      place : l.gate ≡ l.first + length l.bytes.items;
      walks : (image : List ℕ) → IsKept image start → WalksTo K l.first l.end l.number image l.bytes.items l.gate l.last;
    }

abbrev pub decreases-walk : goal.decreases-walk
decreases-walk g l = l.end - l.gate
