use Rattle.std.proofs.Common.{◌≡◌, ◌≤◌, [], None}
use Rattle.std.specs.Prelude.{vec_capacity}
use Rattle.pfx_front.specs.Keeping.{InStep}
use Rattle.pfx_front.specs.Lasting.{AreNoted}
use Rattle.pfx_front.specs.Showing.{AreShown}
use Rattle.pfx_front.proofs.flusher.flush.Given as goal

abbrev pub invariant-loop : goal.invariant-loop
invariant-loop g l =
    InStep g.J.Job.kind g.B.Named.start g.B.Charted.failures g.B.Charted.clock l.share (g.S.BatchKeeper.kept l.keeper).file.broken (g.S.BatchKeeper.kept l.keeper).state
    (g.D.Disk.view (g.S.BatchKeeper.kept l.keeper).file.disk)
    × AreShown l.share l.publisher.batches × (g.B.Begun.origin ≡ g.B.Named.start)
    × (l.room.items ≡ []) × (16 ≤ vec_capacity l.room) × AreNoted l.marking l.share × (g.S.BatchKeeper.failed l.keeper ≡ None)
