use Rattle.std.proofs.Common.{ap, ◌∙◌}
use Rattle.serde_json.specs.Written.{has_float}
use Rattle.pfx_program.proofs.ObjectLemmas.{job_whole}
use Rattle.pfx_program.proofs.objects.job_line.Goals as goal

pub object_line-requires : goal.object_line-requires
object_line-requires c = record { whole = ap has_float c.in_ok-object.ensures ∙ job_whole c.args.task c.args.job.now }
