use Rattle.std.proofs.Common.{◌≡◌, List, length, map}
use Rattle.pfx_store.specs.Groups.{AreRecordsOf}
use Rattle.pfx_machine.specs.Outcome.{outcome}
use Rattle.pfx_machine.specs.declared.command.Command.{Command}
use Rattle.pfx_record.specs.Records.{plain}
use Rattle.pfx_trial_store.proofs.batches.slots.Given as goal

abbrev pub invariant-loop-slot : goal.invariant-loop-slot
invariant-loop-slot g l =
    let K = g.J.Job.kind in
    record {
      records : (H : List (Command g.row.J.Denot)) × AreRecordsOf K l.fn.state H (map plain l.records.items) × (l.state ≡ outcome K l.fn.state H);
      count : length l.records.items ≡ l._slot;
    }
