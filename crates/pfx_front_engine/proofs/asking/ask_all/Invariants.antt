use Rattle.std.proofs.Common.{vec_len, vec_capacity, ◌≡◌, ◌≤◌, ◌++◌, length}
use Rattle.pfx_front_engine.specs.Asking.{AreAllAsked}
use Rattle.pfx_front_engine.proofs.asking.ask_all.Given as goal

-- the commands so far were told, and there is room for the others
abbrev pub invariant-loop-command : goal.invariant-loop-command
invariant-loop-command g l = record {
  long : vec_len l.told ≡ length l.yielded;
  room : length l.fn.commands.items ≤ vec_capacity l.told;
  asked : AreAllAsked g.J.Job.kind g.B.Named.start l.fn.client l.yielded l.told.items l.client;
  split : l.fn.commands.items ≡ l.yielded ++ l.command-iterator.rest.items;
}
