use Rattle.std.proofs.Common.{◌+◌, ◌∙◌, sym, ap, None}
use Rattle.std.specs.Prelude.{slice_set}
use Rattle.pfx_machine.specs.declared.command.Command.TheVariants.{Withdraw}
use Rattle.pfx_machine.proofs.Places.{state_step-taken}
use Rattle.pfx_replay.specs.Stated.{plain_of}
use Rattle.pfx_replay.proofs.Steps.{outcome-one}
use Rattle.pfx_replay.proofs.jobs.PlainState.withdrawn.Goals as goal

pub returns : goal.returns
returns g c =
    let s = plain_of c.args.self in
    ap (λ k. record { number = s.number + 1; from = s.from; ledger = s.ledger; jobs = slice_set s.jobs k None; segment = s.segment }) c.from.ensures
    ∙ state_step-taken g.J.Job.kind s c.args.task ∙ sym (outcome-one g.J.Job.kind g.met.J.Job.laws s (Withdraw c.args.task))
