use Rattle.std.proofs.Common.{◌+◌, map, ◌∙◌, ap, arith}
use Rattle.std.proofs.lemmas.List.{length-map}
use Rattle.pfx_machine.specs.Outcome.{outcome}
use Rattle.pfx_record.specs.Records.{plain}
use Rattle.pfx_store.specs.Groups.{AreRecordsOf}
use Rattle.pfx_store.proofs.Grouping.{common_kept, frame_is, records_fit, records_lead}
use Rattle.pfx_store.proofs.groups.batch_of.Goals as goal

pub new-requires : goal.new-requires
new-requires g c =
    let long = length-map c.args.records.items plain in
    records_fit g.J.Job.kind g.met.J.Job.laws c.args.state.now c.requires.right.0 (map plain c.args.records.items) c.number-first.ensures.state c.requires.right.1
    c.workers-workers.result c.number-first.result (c.workers-workers.ensures ∙ ap (λ t. t.set.workers) c.columns.ensures) c.number-first.ensures.number
    (omega (arith, long, c.requires.count.0)) (omega (arith, long, c.requires.count.1))

pub returns-clause-leads : goal.returns-clause-leads
returns-clause-leads g c H are =
    let mine : AreRecordsOf g.J.Job.kind c.args.state.now H (map plain c.new.result.records.items) = rw c.new.ensures.records are in
    records_lead g.J.Job.kind g.met.J.Job.laws c.args.state.now H (map plain c.new.result.records.items) c.number-first.ensures.state (common_kept _ _ _ _ mine)

pub returns-clause-next : goal.returns-clause-next
returns-clause-next g c =
    let mine : AreRecordsOf g.J.Job.kind c.args.state.now c.requires.right.0 (map plain c.new.result.records.items) = rw c.new.ensures.records c.requires.right.1 in
    record {
      workers = c.new.ensures.workers ∙ c.workers-workers.ensures ∙ ap (λ t. t.set.workers) c.columns.ensures;
      real = c.new.ensures.real;
      first = c.new.ensures.first ∙ ap (λ n. n + 1) c.number-first.ensures.number;
      right = (outcome g.J.Job.kind c.args.state.now c.requires.right.0, records_lead g.J.Job.kind g.met.J.Job.laws c.args.state.now c.requires.right.0 (map plain c.new.result.records.items) c.number-first.ensures.state (common_kept _ _ _ _ mine));
    }

pub returns-clause-frame : goal.returns-clause-frame
returns-clause-frame g c H are =
    let mine : AreRecordsOf g.J.Job.kind c.args.state.now H (map plain c.new.result.records.items) = rw c.new.ensures.records are in
    frame_is g.J.Job.kind g.met.J.Job.laws c.args.state.now H (map plain c.new.result.records.items) c.number-first.ensures.state (common_kept _ _ _ _ mine) c.new.result.first
    (c.new.ensures.first ∙ ap (λ n. n + 1) c.number-first.ensures.number)
