use Rattle.std.proofs.Common.{◌∙◌, ap, map, sym}
use Rattle.pfx_record.specs.Records.{plain}
use Rattle.pfx_record_redo.specs.Applying.{applied}
use Rattle.pfx_replay_audit.proofs.behind.are_right.Goals as goal

pub returns-clause-taken : goal.returns-clause-taken
returns-clause-taken g c is =
    let records = map plain c.args.records.now in
    (c.apply_all.new.state, ap (λ s. applied g.J.Job.kind s records) (sym c.in_ok-led.ensures) ∙ c.in_ok-right.ensures.taken is)

pub returns-clause-wrong : goal.returns-clause-wrong
returns-clause-wrong g c is =
    let records = map plain c.args.records.now in
    ap (λ s. applied g.J.Job.kind s records) (sym c.in_ok-led.ensures) ∙ c.in_ok-right.ensures.wrong is
