use Rattle.std.proofs.Common.{◌≡◌, ◌∙◌, sym, ap, length}
use Rattle.pfx_machine.specs.declared.command.Command.TheVariants.{Slot}
use Rattle.pfx_machine.proofs.Keeping.{length-step, row_goes_on}
use Rattle.pfx_machine.proofs.Places.{state_step-row}
use Rattle.pfx_machine.proofs.Rowing.{row_chosen}
use Rattle.pfx_machine.specs.declared.plain.Happening.TheVariants.{Ran as happened}
use Rattle.pfx_replay.specs.Shown.{ledger_of}
use Rattle.pfx_replay.specs.Stated.{plain_of}
use Rattle.pfx_replay.proofs.Steps.{outcome-one}
use Rattle.pfx_replay.proofs.jobs.PlainState.ran.Goals as goal

pub after-requires : goal.after-requires
after-requires g c = row_chosen (plain_of c.args.self) c.args.row.now c.requires.row

pub invariant_of-result : goal.invariant_of-result
invariant_of-result g c =
    let s = plain_of c.args.self in
    let K = g.J.Job.kind in
    let row = c.args.row.now in
    let jobs = c.step_all.new.jobs.items in
    let long : length jobs ≡ length s.jobs = ap length c.step_all.ensures ∙ length-step K 0 (happened 0 row) s.jobs in
    record { kept = row_goes_on K s row jobs (ledger_of c.after.result) c.args.self.kept c.requires.number c.requires.row long c.after.ensures }

pub returns : goal.returns
returns g c =
    let s = plain_of c.args.self in
    let K = g.J.Job.kind in
    state_step-row K s c.args.row.now c.step_all.new.jobs.items (ledger_of c.after.result) c.requires.row c.step_all.ensures c.after.ensures
    ∙ sym (outcome-one K g.met.J.Job.laws s Slot)
