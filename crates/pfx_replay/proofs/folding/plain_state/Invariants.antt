use Rattle.std.proofs.Common.{◌≡◌, drop}
use Rattle.pfx_machine.specs.Outcome.{outcome}
use Rattle.pfx_machine.specs.Sessions.{IsAcceptable}
use Rattle.pfx_replay.specs.Stated.{plain_of}
use Rattle.pfx_replay.proofs.folding.plain_state.Given as goal

abbrev pub invariant-loop-command : goal.invariant-loop-command
invariant-loop-command g l =
    let K = g.J.Job.kind in
    record {
      on : IsAcceptable K (plain_of l.reached) (drop l.command-index l.commands) → IsAcceptable K l.start l.commands;
      back : IsAcceptable K l.start l.commands → IsAcceptable K (plain_of l.reached) (drop l.command-index l.commands);
      outcome : outcome K (plain_of l.reached) (drop l.command-index l.commands) ≡ outcome K l.start l.commands;
    }
