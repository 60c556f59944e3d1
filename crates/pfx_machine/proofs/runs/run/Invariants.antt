use Rattle.std.proofs.Common.{◌≡◌, ◌++◌}
use Rattle.pfx_machine.specs.Outcome.{outcome}
use Rattle.pfx_machine.specs.Runs.{accepted, answers}
use Rattle.pfx_machine.proofs.runs.run.Given as goal

abbrev pub invariant-loop-command : goal.invariant-loop-command
invariant-loop-command g l =
    (l.given.items ≡ answers g.J.Job.kind l.fn.state l.yielded)
    × (l.state ≡ outcome g.J.Job.kind l.fn.state (accepted g.J.Job.kind l.fn.state l.yielded))
    × (l.fn.commands.items ≡ l.yielded ++ l.command-iterator.rest.items)
