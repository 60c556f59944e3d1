use Rattle.std.proofs.Common.{◌∷◌, [], sym, ◌∙◌, ap, ap₂, map}
use Rattle.std.specs.Prelude.{Some, slice_set}
use Rattle.std.proofs.lemmas.List.{map-append}
use Rattle.pfx_machine.specs.Slots.{deal, written_back}
use Rattle.pfx_machine.proofs.Dealt.{written_back-snoc}
use Rattle.pfx_machine.proofs.slot.write_back.Goals as goal

pub loop-done-preserved : goal.loop-done-preserved
loop-done-preserved g c =
    let K = g.J.Job.kind in
    let done = c.in-Some.done in
    c.put.ensures ∙ (ap (λ k. slice_set c.loop-done.jobs k (Some done.after)) c.from.ensures
    ∙ (ap₂ (λ xs v. slice_set xs done.task (Some v)) c.loop-done.invariant done.stepped
    ∙ (sym (written_back-snoc K (map (λ d. deal d.number d.slot d.task d.before) c.loop-done.yielded) (deal done.number done.slot done.task done.before) c.args.jobs.now)
    ∙ ap (λ ds. written_back K ds c.args.jobs.now) (sym (map-append (λ d. deal d.number d.slot d.task d.before) c.loop-done.yielded (done ∷ []))))))
