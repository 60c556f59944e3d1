use Rattle.std.proofs.Common.{rules, ◌≡◌, ◌∙◌, sym, ap}
use Rattle.pfx_kinds.specs.declared.any.AnyJob.TheVariants.{Own}
use Rattle.pfx_program.specs.Grants.{counted, counted_by, is_next}
use Rattle.pfx_program.proofs.GrantLemmas.{counted_is, next_is}
use Rattle.pfx_program.proofs.grants.is_next.Goals as goal

pub returns-clause-next : goal.returns-clause-next
returns-clause-next g c =
    let s = g.E.Engine.promise.state c.args.engine.now in
    let place = c.in_ok-place.place in
    let job : c.count.new.job ≡ counted_by place (Own c.in-Own.answer) = c.count.ensures in
    c.is_taken.ensures ∙ (next_is s c.args.task place c.in-Own.answer c.in_ok-place.ensures.copies ∙ ap (is_next s c.args.task) (sym job))

pub returns-clause-counted : goal.returns-clause-counted
returns-clause-counted g c =
    let s = g.E.Engine.promise.state c.args.engine.now in
    let is : c.args.job.now ≡ Own c.in-Own.answer = search rules in
    c.count.ensures ∙ counted_is s c.args.task c.in_ok-place.place (Own c.in-Own.answer) c.in_ok-place.ensures.copies ∙ ap (counted s c.args.task) (sym is)
