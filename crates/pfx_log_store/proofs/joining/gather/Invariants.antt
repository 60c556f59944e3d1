use Rattle.std.proofs.Common.{◌<◌, ◌-◌, ◌^◌, ℕ, List}
use Rattle.pfx_disk.specs.Disk.{IsHonest}
use Rattle.pfx_store_format.specs.Format.{format}
use Rattle.pfx_store_recover.specs.Looking.{Looks}
use Rattle.pfx_segment.specs.Frames.{AreFrames}
use Rattle.pfx_log_store.specs.Joining.{Gathering, Gathers, gathering}
use Rattle.pfx_log_store.proofs.Gathering.{Remains}
use Rattle.pfx_log_store.proofs.joining.gather.Given as goal

abbrev pub invariant-walk : goal.invariant-walk
invariant-walk g l =
    let start = g.D.Disk.view l.initial.disk in
    let K = format g.J.Job.kind in
    record {
      order : l.gate < l.end;
      number : l.so_far.number < 2 ^ 48;
      looks : Looks start (g.D.Disk.view l.disk);
      remains : IsHonest start → (frames : List (List ℕ)) (next : Gathering) → AreFrames l.first l.end frames start.contents → Gathers K l.last (gathering l.initial.so_far) frames next
          → Remains K l.last l.end start.contents next l.gate (gathering l.so_far);
    }

abbrev pub decreases-walk : goal.decreases-walk
decreases-walk g l = l.end - l.gate
