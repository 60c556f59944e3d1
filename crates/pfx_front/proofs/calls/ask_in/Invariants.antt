use Rattle.std.proofs.Common.{◌≡◌}
use Rattle.pfx_front.proofs.calls.ask_in.Given as goal

abbrev pub invariant-loop : goal.invariant-loop
invariant-loop g l = (l.pass ≡ l.fn.pass) × (l.command ≡ l.fn.command)
