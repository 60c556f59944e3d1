use Rattle.std.proofs.Common.{vec_len, vec_capacity, ◌≡◌, ◌≤◌, ◌++◌, length}
use Rattle.pfx_machine.specs.Outcome.{outcome}
use Rattle.pfx_store_engine.specs.Sharing.{AreTold, accepted_of}
use Rattle.pfx_store_engine.proofs.memory.StateEngine.all.Given as goal

-- the commands so far were told, and there is room for the others
abbrev pub invariant-loop-change : goal.invariant-loop-change
invariant-loop-change g l = record {
  long : vec_len l.told ≡ length l.yielded;
  room : length l.fn.commands.items ≤ vec_capacity l.told;
  told : AreTold g.J.Job.kind l.fn.self l.yielded l.told.items;
  state : l.self ≡ outcome g.J.Job.kind l.fn.self (accepted_of l.yielded l.told.items);
  split : l.fn.commands.items ≡ l.yielded ++ l.change-iterator.rest.items;
}
