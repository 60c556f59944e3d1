use Rattle.pfx_record_redo.proofs.Outcomes.{record_right, record_outcome}
use Rattle.pfx_record_redo.proofs.laws.records_are_outcomes.Goals as goal

pub returns-clause-right : goal.returns-clause-right
returns-clause-right g c s command h accepted = record_right g.J.Job.kind s command h accepted

pub returns-clause-outcome : goal.returns-clause-outcome
returns-clause-outcome g c s command h accepted = record_outcome g.J.Job.kind g.met.J.Job.laws s command
