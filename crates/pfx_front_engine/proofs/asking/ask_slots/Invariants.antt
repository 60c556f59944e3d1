use Rattle.std.proofs.Common.{vec_len, vec_capacity, ◌≡◌, ◌≤◌}
use Rattle.pfx_front.specs.Sole.{state_of}
use Rattle.pfx_store_engine.specs.Promises.{AreAnswered, slots_for}
use Rattle.pfx_front_engine.specs.Keeping.{KeepsBy}
use Rattle.pfx_front_engine.proofs.asking.ask_slots.Given as goal

-- the Slots so far are answered, there is room for the others, and before the first nothing has happened
abbrev pub invariant-loop : goal.invariant-loop
invariant-loop g l = record {
  long : vec_len l.said ≡ l.counter;
  room : l.count ≤ vec_capacity l.said;
  answered : AreAnswered g.J.Job.kind (state_of g.J.Job.kind g.B.Named.start l.fn.client) l.said.items;
  kept : KeepsBy g.B.Named.start.number l.fn.client (slots_for l.said.items) 0 l.client;
  same : vec_len l.said ≡ 0 → l.client ≡ l.fn.client;
}
