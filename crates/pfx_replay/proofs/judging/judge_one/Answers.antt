use Rattle.std.proofs.Common.{◌≡◌, sym, subst, None}
use Rattle.pfx_machine.specs.Refusals.{refusal}
use Rattle.pfx_machine.specs.declared.command.Command.TheVariants.{Submit, Reweigh}
use Rattle.pfx_replay.specs.Stated.{plain_of}
use Rattle.pfx_replay.proofs.Wrongs.{reweigh_accepted, submit_accepted, withdraw_accepted}
use Rattle.pfx_replay.proofs.judging.judge_one.Goals as goal

pub submitted-requires : goal.submitted-requires
submitted-requires g c =
    let K = g.J.Job.kind in
    let s = plain_of c.args.state in
    let right = rw c.in-Submit.is at c.requires in
    subst (λ j. refusal K s (Submit c.in-Submit.task j) ≡ None) (sym c.copy_of.ensures) (submit_accepted K s c.in-Submit.task c.in-Submit.job right)

pub withdrawn-requires : goal.withdrawn-requires
withdrawn-requires g c =
    let right = rw c.in-Withdraw.is at c.requires in
    withdraw_accepted g.J.Job.kind (plain_of c.args.state) c.in-Withdraw.task right

pub reweighed-requires : goal.reweighed-requires
reweighed-requires g c =
    let K = g.J.Job.kind in
    let s = plain_of c.args.state in
    let right = rw c.in-Reweigh.is at c.requires in
    subst (λ ws. refusal K s (Reweigh c.from.result ws) ≡ None) (sym c.as_slice.ensures)
    (subst (λ m. refusal K s (Reweigh m c.in-Reweigh.weights) ≡ None) (sym c.from.ensures) (reweigh_accepted K s c.in-Reweigh.workers c.in-Reweigh.weights right))
