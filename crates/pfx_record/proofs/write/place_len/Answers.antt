use Rattle.std.proofs.Common.{[], ap, ◌∙◌, sym, length, ◌++◌}
use Rattle.pfx_record.specs.Numbers.{number_bytes}
use Rattle.pfx_record.specs.Records.{state_bytes}
use Rattle.pfx_record.proofs.Places.{length_without, length_with}
use Rattle.pfx_record.proofs.write.place_len.Goals as goal

pub returns-in-None-clause-value : goal.returns-in-None-clause-value
returns-in-None-clause-value g c =
    let task = c.args.place.now.task in
    length_without g.J.Job.kind g.met.J.Job.laws [] 0 task ∙ sym (ap (λ state. length (number_bytes 2 task ++ state_bytes g.J.Job.kind state)) c.in-None.is)

pub returns-in-Some-clause-value : goal.returns-in-Some-clause-value
returns-in-Some-clause-value g c =
    let task = c.args.place.now.task in
    length_with g.J.Job.kind g.met.J.Job.laws [] 0 task c.in-Some.field-0 ∙ sym (ap (λ state. length (number_bytes 2 task ++ state_bytes g.J.Job.kind state)) c.in-Some.is)
