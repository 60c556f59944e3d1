use Rattle.std.proofs.Common.{◌∷◌, [], sym, ◌∙◌, ap, map, append-nil, arith, ◌<◌, ◌≤◌, length}
use Rattle.std.proofs.lemmas.List.{map-append}
use Rattle.pfx_machine.specs.Slots.{deal, deals}
use Rattle.pfx_machine.proofs.Dealt.{deal_next, deal_end}
use Rattle.pfx_machine.proofs.slot.deal_all.Goals as goal
use Rattle.pfx_machine.proofs.slot.deal_all.Goals.{in-Some+in_ok-push, in_default}

pub loop-i-preserved : goal.loop-i-preserved
loop-i-preserved g c =
    let within : c.loop-i.i < length c.args.row.now = omega (arith, c.loop-i-test.true, c.len-i-end.ensures.count) in
    let all = deals g.J.Job.kind c.args.number c.args.slot c.args.row.now c.args.jobs.now in
    elim c.match-deal_one.branch [
      | in-Some+in_ok-push w ↦
          deal_next g.J.Job.kind c.args.number c.args.slot c.args.row.now c.args.jobs.now c.loop-i.i c.get.result
          (deal w.in-Some.quantum.number w.in-Some.quantum.slot w.in-Some.quantum.task w.in-Some.quantum.before ∷ []) _ _ all
          within c.get.ensures w.in-Some.ensures
          (ap (λ v. map (λ q. deal q.number q.slot q.task q.before) v.items) w.quanta-is ∙ (ap (map (λ q. deal q.number q.slot q.task q.before)) w.in_ok-push.ensures.items ∙ map-append (λ q. deal q.number q.slot q.task q.before) c.loop-i.quanta.items (w.in-Some.quantum ∷ [])))
          c.loop-i.invariant
      | in_default w ↦
          deal_next g.J.Job.kind c.args.number c.args.slot c.args.row.now c.args.jobs.now c.loop-i.i c.get.result [] _ _ all
          within c.get.ensures w.in_default.ensures
          (ap (λ v. map (λ q. deal q.number q.slot q.task q.before) v.items) w.quanta-is ∙ sym (append-nil _))
          c.loop-i.invariant
    ]

pub returns : goal.returns
returns g c =
    let past : length c.args.row.now ≤ c.loop-i.i = omega (arith, c.loop-i-test.false, c.len-i-end.ensures.count) in
    deal_end g.J.Job.kind c.args.number c.args.slot c.args.row.now c.args.jobs.now c.loop-i.i _ _ past c.loop-i.invariant
