use Rattle.pfx_record_redo.proofs.States.{applied_behind, common_behind}
use Rattle.pfx_record_redo.proofs.laws.records_lead_to_states.Goals as goal

pub returns-clause-states : goal.returns-clause-states
returns-clause-states g c s t records h is =
    let behind = applied_behind g.J.Job.kind s t records is in
    (behind.state h, behind.real, behind.segment, behind.number)

pub returns-clause-common : goal.returns-clause-common
returns-clause-common g c s t records common is =
    let behind = common_behind g.J.Job.kind s t records common is in
    (behind.set, behind.from)
