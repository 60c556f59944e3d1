use Rattle.std.proofs.Common.{◌≡◌, ◌++◌, drop}
use Rattle.std.specs.List.{concat}
use Rattle.pfx_segment.specs.Reading.{views}
use Rattle.pfx_replay_audit.proofs.framing.joined.Given as goal

abbrev pub invariant-loop-frame : goal.invariant-loop-frame
invariant-loop-frame l = l.all.items ++ concat (views (drop l.frame-index l.frames)) ≡ concat (views l.frames)
