use Rattle.std.proofs.Common.{◌≡◌, drop, map}
use Rattle.pfx_record.specs.Records.{plain}
use Rattle.pfx_record_redo.specs.Applying.{applied}
use Rattle.pfx_record_redo.proofs.applying.apply_all.Given as goal

abbrev pub invariant-loop-entry : goal.invariant-loop-entry
invariant-loop-entry g l = applied g.J.Job.kind l.state (map plain (drop l.entry-index l.records)) ≡ applied g.J.Job.kind l.initial.state (map plain l.records)
