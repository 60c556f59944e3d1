use Rattle.std.proofs.Common.{◌≡◌, [], ◌∷◌, ap, ◌∙◌, rules}
use Rattle.std.specs.Bool.{IsTrue}
use Rattle.pfx_record.specs.Records.{plain}
use Rattle.pfx_record_redo.specs.Applying.{after_record, applied, is_right}
use Rattle.pfx_front_board.specs.Word.{records_of}
use Rattle.pfx_trial_front.proofs.Lines.{batch_more}
use Rattle.pfx_trial_front.proofs.board.line.Line.keep.Goals as goal

pub publish-requires-clause-leads : goal.publish-requires-clause-leads
publish-requires-clause-leads g c =
    let K = g.J.Job.kind in
    let one : c.new-batch.result.records.items ≡ c.args.entry ∷ [] = search rules in
    let right : IsTrue (is_right K c.self.inside.state (plain c.args.entry)) = search rules in
    let new : c.apply_record.new.state ≡ after_record c.self.inside.state (plain c.args.entry) = search rules in
    batch_more K g.B.Begun.origin c.self.inside.state c.apply_record.new.state c.self.inside.publisher.batches c.new-batch.result c.args.entry c.self.invariant.0 one right new

pub publish-requires-clause-lasting : goal.publish-requires-clause-lasting
publish-requires-clause-lasting g c held image left = absurd (c.self.invariant.1 held)

pub invariant_of-self-2 : goal.invariant_of-self-2
invariant_of-self-2 g c =
    let K = g.J.Job.kind in
    let o = g.B.Begun.origin in
    let one : c.new-batch.result.records.items ≡ c.args.entry ∷ [] = search rules in
    let right : IsTrue (is_right K c.self.inside.state (plain c.args.entry)) = search rules in
    let new : c.apply_record.new.state ≡ after_record c.self.inside.state (plain c.args.entry) = search rules in
    let more = batch_more K o c.self.inside.state c.apply_record.new.state c.self.inside.publisher.batches c.new-batch.result c.args.entry c.self.invariant.0 one right new in
    (ap (λ bs. applied K o (records_of bs)) c.publish.ensures.durable ∙ more, c.self.invariant.1)
