use Rattle.std.proofs.Common.{◌≡◌, ◌++◌, drop, map}
use Rattle.pfx_record.specs.Records.{plain}
use Rattle.pfx_segment.specs.Reading.{views}
use Rattle.pfx_replay.specs.Trails.{records_behind}
use Rattle.pfx_replay.proofs.records.add_all.Given as goal

abbrev pub invariant-loop-frame : goal.invariant-loop-frame
invariant-loop-frame g l =
    map plain l.records.items ++ records_behind g.J.Job.kind l.state (views (drop l.frame-index l.frames)) ≡ map plain l.fn.records.items ++ records_behind g.J.Job.kind l.fn.state (views l.frames)
