use Rattle.pfx_store_format.proofs.Batches.{batch_spelled, batch_there}
use Rattle.std.proofs.Common.{◌∙◌, ap}
use Rattle.pfx_store_format.specs.Batches.{batch_in}
use Rattle.pfx_store_format.proofs.laws.batches_are_read_as_they_are_written.Goals as goal

pub returns : goal.returns
returns g c workers real bytes batch = (
  λ h. batch_spelled g.J.Job.kind g.met.J.Job.laws workers real bytes batch h,
  λ h. ap (batch_in g.J.Job.kind workers real) h.1 ∙ batch_there g.J.Job.kind g.met.J.Job.laws workers real batch h.0,
)
