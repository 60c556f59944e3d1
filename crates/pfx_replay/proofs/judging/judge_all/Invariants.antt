use Rattle.std.proofs.Common.{◌≡◌, drop, map, Some}
use Rattle.pfx_machine.specs.Plain.{Plain}
use Rattle.pfx_record.specs.Records.{plain}
use Rattle.pfx_record_redo.specs.Applying.{applied}
use Rattle.pfx_replay.specs.Judged.{GivesAll}
use Rattle.pfx_replay.specs.Stated.{plain_of}
use Rattle.pfx_replay.specs.declared.judged.Judged.{Judged}
use Rattle.pfx_replay.proofs.judging.judge_all.Given as goal

abbrev pub invariant-loop-entry : goal.invariant-loop-entry
invariant-loop-entry g l =
    let K = g.J.Job.kind in
    record {
      right : (t : Plain _) × (applied K (plain_of l.reached) (map plain (drop l.entry-index l.records)) ≡ Some t);
      gives : (v : Judged _) → GivesAll K g.J.Units.unit (plain_of l.reached) (map plain (drop l.entry-index l.records)) v → GivesAll K g.J.Units.unit (plain_of l.fn.state) (map plain l.records) v;
    }
