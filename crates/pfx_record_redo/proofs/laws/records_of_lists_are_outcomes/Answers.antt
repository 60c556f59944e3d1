use Rattle.pfx_record_redo.proofs.Outcomes.{records_outcome}
use Rattle.pfx_record_redo.proofs.laws.records_of_lists_are_outcomes.Goals as goal

pub returns : goal.returns
returns g c s H h all = records_outcome g.J.Job.kind g.met.J.Job.laws s H h all
