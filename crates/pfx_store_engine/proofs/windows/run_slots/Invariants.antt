use Rattle.std.proofs.Common.{vec_len, vec_capacity, ◌≡◌, ◌≤◌, map}
use Rattle.pfx_store.specs.Groups.{AreRecordsOf}
use Rattle.pfx_machine.specs.Outcome.{outcome}
use Rattle.pfx_store_engine.specs.Promises.{AreAnswered, slots_for}
use Rattle.pfx_record.specs.Records.{plain}
use Rattle.pfx_store_engine.proofs.windows.run_slots.Given as goal

-- the Slots so far were run, and there is room for the others
abbrev pub invariant-loop : goal.invariant-loop
invariant-loop g l = record {
  long : vec_len l.said ≡ l.counter;
  records : vec_len l.records ≡ l.counter;
  room : l.count ≤ vec_capacity l.said;
  records_room : l.count ≤ vec_capacity l.records;
  answered : AreAnswered g.J.Job.kind l.fn.state l.said.items;
  recorded : AreRecordsOf g.J.Job.kind l.fn.state (slots_for l.said.items) (map (plain {J = g.row.J.Denot}) l.records.items);
  state : l.state ≡ outcome g.J.Job.kind l.fn.state (slots_for l.said.items);
}
