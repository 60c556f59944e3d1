use Rattle.pfx_program.proofs.JobLemmas.{job_started}
use Rattle.pfx_program.proofs.grants.started.Goals as goal

pub returns : goal.returns
returns c = job_started c.args.kind.now c.args.goal c.args.text.now c.start.result (rw c.as_bytes.ensures.value at c.start.ensures)
