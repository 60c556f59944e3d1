use Rattle.std.proofs.Common.{◌≡◌, ◌<◌, sym, ◌∙◌, subst}
use Rattle.std.specs.Prelude.{IfOk, IfErr}
use Rattle.pfx_events_world.specs.Session.{IsQuick}
use Rattle.pfx_book.specs.Calls.{noted}
use Rattle.pfx_book.specs.Notes.{greatest}
use Rattle.pfx_book.specs.declared.note.Note.TheVariants.{Accepted}
use Rattle.pfx_front.specs.Calling.{HasNoReply}
use Rattle.pfx_front.proofs.calls.ask_in.Goals as goal

pub heard_of-answer-requires-clause-quick : goal.heard_of-answer-requires-clause-quick
heard_of-answer-requires-clause-quick g c = subst IsQuick (sym c.loop.invariant.1) c.requires

pub returns-then-is_ready-clause-ok : goal.returns-then-is_ready-clause-ok
returns-then-is_ready-clause-ok g c =
    subst (λ p. IfOk c.heard_of-answer.result.said (λ r. (c.heard_of-answer.new.pass ≡ noted (Accepted r.0 c.args.command r.1) p) × (greatest p.1 < r.0))) (c.in_default-heard_loss.ensures.none.2 ∙ c.loop.invariant.0)
    (subst (λ k. IfOk c.heard_of-answer.result.said (λ r. (c.heard_of-answer.new.pass ≡ noted (Accepted r.0 k r.1) c.heard_loss.new.pass) × (greatest c.heard_loss.new.pass.1 < r.0))) c.loop.invariant.1 c.heard_of-answer.ensures.ok)

pub returns-then-is_ready-clause-err : goal.returns-then-is_ready-clause-err
returns-then-is_ready-clause-err g c =
    subst (λ p. IfErr c.heard_of-answer.result.said (HasNoReply c.args.command p c.heard_of-answer.new.pass)) (c.in_default-heard_loss.ensures.none.2 ∙ c.loop.invariant.0)
    (subst (λ k. IfErr c.heard_of-answer.result.said (HasNoReply k c.heard_loss.new.pass c.heard_of-answer.new.pass)) c.loop.invariant.1 c.heard_of-answer.ensures.err)
