use Rattle.std.specs.Prelude.{option_map, vec_capacity, ◌≤◌}
use Rattle.std.proofs.Common.{◌≡◌, List, map, length, sym, ap, ◌∙◌, subst, rules, arith, None}
use Rattle.pfx_jobs.specs.declared.quantum.Quantum.{Quantum}
use Rattle.pfx_machine.specs.Slots.{Deal, deal}
use Rattle.pfx_book_slot.specs.Dealt.{Answers}
use Rattle.pfx_book_slot.proofs.Placed.{answers_none}
use Rattle.pfx_book_slot.proofs.slot.OpenSlot.of.Goals as goal

pub invariant_of-result : goal.invariant_of-result
invariant_of-result g c =
    let fq = λ (q : Quantum g.row.J.Denot g.J.Job). deal q.number q.slot q.task q.before in
    let v = c.deref-2.ensures.value in
    let e = c.in_ok-back.ensures.empty ∙ ap (map (λ q. None)) v in
    let a : length c.in_ok-back.back.items ≤ vec_capacity c.in_ok-dones.dones = search rules in
    let b : length c.args.row ≤ vec_capacity c.in_ok-places.places = search rules in (
      subst (λ b. Answers (map fq c.args.quanta.items) b) (sym e) (answers_none fq c.args.quanta.items),
      c.in_ok-back.ensures.length ∙ ap length v,
      c.in_ok-dones.ensures.items,
      c.in_ok-places.ensures.items,
      a,
      b,
    )

pub returns-clause-dealt : goal.returns-clause-dealt
returns-clause-dealt g c = c.in_ok-copies.ensures ∙ ap (map (λ (q : Quantum g.row.J.Denot g.J.Job). deal q.number q.slot q.task q.before)) c.deref.ensures.value
