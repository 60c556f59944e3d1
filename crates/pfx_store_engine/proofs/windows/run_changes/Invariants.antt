use Rattle.std.proofs.Common.{vec_len, vec_capacity, ◌≡◌, ◌≤◌, ◌++◌, length, map}
use Rattle.pfx_store.specs.Groups.{AreRecordsOf}
use Rattle.pfx_machine.specs.Outcome.{outcome}
use Rattle.pfx_store_engine.specs.Sharing.{AreTold, accepted_of}
use Rattle.pfx_record.specs.Records.{plain}
use Rattle.pfx_store_engine.proofs.windows.run_changes.Given as goal

-- the commands so far were run, and there is room for the others
abbrev pub invariant-loop-command : goal.invariant-loop-command
invariant-loop-command g l = record {
  long : vec_len l.told ≡ length l.yielded;
  records : vec_len l.records ≤ length l.yielded;
  room : length l.fn.commands.items ≤ vec_capacity l.told;
  records_room : length l.fn.commands.items ≤ vec_capacity l.records;
  told : AreTold g.J.Job.kind l.fn.state l.yielded l.told.items;
  recorded : AreRecordsOf g.J.Job.kind l.fn.state (accepted_of l.yielded l.told.items) (map (plain {J = g.row.J.Denot}) l.records.items);
  state : l.state ≡ outcome g.J.Job.kind l.fn.state (accepted_of l.yielded l.told.items);
  split : l.fn.commands.items ≡ l.yielded ++ l.command-iterator.rest.items;
}
