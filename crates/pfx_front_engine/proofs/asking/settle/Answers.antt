use Rattle.std.proofs.Common.{[], refl, ap, ◌∙◌, subst}
use Rattle.pfx_book.specs.Notes.{alone}
use Rattle.pfx_book.specs.declared.note.Note.TheVariants.{Receipt}
use Rattle.pfx_front_engine.proofs.Notes.{alone_more, kept_lost, kept_receipt, settled_by, stays_with}
use Rattle.pfx_front.specs.Calling.{HasNoReceipt}
use Rattle.pfx_front.specs.declared.faults.CallFault.TheVariants.{StoreFailed}
use Rattle.pfx_front_engine.specs.Keeping.{KeepsBy}
use Rattle.pfx_front_engine.proofs.asking.settle.Goals as goal

pub invariant_of-client : goal.invariant_of-client
invariant_of-client g c =
    kept_receipt g.J.Job.kind g.B.Named.start c.client.inside.pass.1 c.settled.new.pass.1 c.client.inside.number c.client.inside.kept c.client.invariant c.in-Ok._receipt.receipt.clock (ap (λ p. p.1) c.in-Ok.ensures.ok.1)

pub invariant_of-client-in-Err-StoreFailed : goal.invariant_of-client-in-Err-StoreFailed
invariant_of-client-in-Err-StoreFailed g c =
    let lost : HasNoReceipt c.client.inside.number c.client.inside.pass c.settled.new.pass (StoreFailed c.in-Err-StoreFailed.marked c.in-Err-StoreFailed.cause) =
    subst (λ why. HasNoReceipt c.client.inside.number c.client.inside.pass c.settled.new.pass why) c.in-Err-StoreFailed.field-0-is c.in-Err-StoreFailed.ensures.err in
    kept_lost g.J.Job.kind g.B.Named.start c.client.inside.pass.1 c.settled.new.pass.1 c.client.inside.number c.client.inside.kept c.client.invariant lost.1.1

pub returns-in-Ok-clause-settled : goal.returns-in-Ok-clause-settled
returns-in-Ok-clause-settled g c =
    let same = ap (λ p. alone p.1) c.in-Ok.ensures.ok.1 ∙ alone_more c.client.inside.pass.1 (Receipt c.client.inside.number c.in-Ok._receipt.receipt.clock) refl in
    settled_by g.J.Job.kind g.B.Named.start c.client.inside.pass.1 c.settled.new.pass.1 c.client.inside.number c.in-Ok._receipt.receipt.clock same c.client.invariant.number_is

pub returns-in-Ok-clause-stays : goal.returns-in-Ok-clause-stays
returns-in-Ok-clause-stays g c =
    let receipt = Receipt c.client.inside.number c.in-Ok._receipt.receipt.clock in
    let same = ap (λ p. alone p.1) c.in-Ok.ensures.ok.1 ∙ alone_more c.client.inside.pass.1 receipt refl in
    subst (λ was. KeepsBy g.B.Named.start.number was [] 0 c.settled.new.pass.1) c.client.view_is (stays_with g.B.Named.start.number c.client.inside.pass.1 c.settled.new.pass.1 receipt refl same)
