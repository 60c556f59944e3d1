use Rattle.std.proofs.Common.{rules, ◌≡◌, ◌<◌, Some, Ok, false, length, arith}
use Rattle.csv.specs.Records.{fields_of}
use Rattle.pfx_kinds.specs.Starts.{any_start}
use Rattle.pfx_program_script.specs.Verbs.{submit, verb_of}
use Rattle.pfx_program.specs.Script.{job_by}
use Rattle.pfx_program.proofs.GroupLemmas.{joins_job}
use Rattle.pfx_program.proofs.groups.joining_row.Goals as goal

pub returns-in-Ok-clause-joins : goal.returns-in-Ok-clause-joins
returns-in-Ok-clause-joins g c =
    let P = g.E.Engine.promise in
    let said = c.in-Some-Submit in
    let few : length c.args.group.now < c.args.most = omega (arith, c.if-group-most.false) in
    let apart : c.has_task.result ≡ false = search rules in
    let means : verb_of (fields_of c.args.row.now) ≡ Some (submit said.task said.kind.now said.goal said.text.now) = search rules in
    let is : job_by (any_start said.kind.now said.goal said.text.now) ≡ Ok c.in-Ok.job = search rules in
    joins_job P.faults (P.state c.args.engine.now) c.args.most c.args.group.now said.task said.kind.now said.goal said.text.now c.in-Ok.job (fields_of c.args.row.now) c.joining_job.result few (c.has_task.ensures apart) means is
    c.joining_job.ensures.joins
