use Rattle.std.proofs.Common.{◌≡◌, drop, map, Some}
use Rattle.pfx_machine.specs.Plain.{Plain}
use Rattle.pfx_record.specs.Records.{plain}
use Rattle.pfx_record_redo.specs.Applying.{applied}
use Rattle.pfx_replay.specs.Stated.{plain_of}
use Rattle.pfx_replay.specs.declared.judged.Judged.{Judged}
use Rattle.pfx_replay_audit.specs.Marks.{Gives}
use Rattle.pfx_replay_audit.proofs.marks.judge_marked.Given as goal

abbrev pub invariant-loop-entry : goal.invariant-loop-entry
invariant-loop-entry g l =
    let K = g.J.Job.kind in
    let marks = map plain_of l.marks in
    record {
      right : (t : Plain _) × (applied K (plain_of l.reached) (map plain (drop l.entry-index l.records)) ≡ Some t);
      gives : (v : Judged _) → Gives K g.J.Units.unit marks (plain_of l.reached) (map plain (drop l.entry-index l.records)) v → Gives K g.J.Units.unit marks (plain_of l.fn.state) (map plain l.records) v;
    }
