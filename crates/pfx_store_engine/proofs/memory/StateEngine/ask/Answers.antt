use Rattle.std.proofs.Common.{rules, [], sym}
use Rattle.pfx_machine.proofs.Compose.{outcome-none}
use Rattle.pfx_store_engine.proofs.memory.StateEngine.ask.Goals as goal

pub returns-in-Ok-clause-done : goal.returns-in-Ok-clause-done
returns-in-Ok-clause-done g c = record {
  accepted = search rules;
  next = search rules;
  state = c.in-Ok.ensures.outcome c.args.self.now [] (sym (outcome-none g.J.Job.kind c.args.self.now));
  keeps = tt;
  settled = tt;
}
