use Rattle.std.proofs.Common.{drop}
use Rattle.pfx_segment.specs.Reading.{views}
use Rattle.pfx_store_image.specs.Store.{Replays}
use Rattle.pfx_replay.proofs.way.lead_on.Given as goal

abbrev pub invariant-loop-frame : goal.invariant-loop-frame
invariant-loop-frame g l =
    let K = g.F.Format.codec in
    record {
      on : (t : _) → Replays K l.state (views (drop l.frame-index l.frames)) t → Replays K l.fn.state (views l.frames) t;
      back : (t : _) → Replays K l.fn.state (views l.frames) t → Replays K l.state (views (drop l.frame-index l.frames)) t;
    }
