use Rattle.std.proofs.Common.{vec_len, vec_capacity, ◌≡◌, ◌≤◌}
use Rattle.pfx_machine.specs.Outcome.{outcome}
use Rattle.pfx_store_engine.specs.Promises.{AreAnswered, slots_for}
use Rattle.pfx_store_engine.proofs.memory.StateEngine.slots.Given as goal

-- the Slots so far are answered, and there is room for the others
abbrev pub invariant-loop : goal.invariant-loop
invariant-loop g l = record {
  long : vec_len l.said ≡ l.counter;
  room : l.count ≤ vec_capacity l.said;
  answered : AreAnswered g.J.Job.kind l.fn.self l.said.items;
  state : l.self ≡ outcome g.J.Job.kind l.fn.self (slots_for l.said.items);
}
