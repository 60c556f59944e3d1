use Rattle.std.specs.Prelude.{option_map}
use Rattle.std.proofs.Common.{◌≡◌, ℕ, List, map, sym, ap, ◌∙◌, Some}
use Rattle.pfx_jobs.specs.declared.quantum.Done.{Done}
use Rattle.pfx_machine.specs.Slots.{Deal, deal}
use Rattle.pfx_book_slot.specs.Dealt.{Dealt, places_with}
use Rattle.pfx_book_slot.proofs.Placed.{answers_all}
use Rattle.pfx_book_slot.proofs.slot.OpenSlot.end.Goals as goal

pub returns : goal.returns
returns g c =
    let f = λ (d : Done g.row.J.Denot g.J.Job). deal d.number d.slot d.task d.before in
    let all = answers_all f _ _ c.in_ok-dones.dones.items c.self.invariant.0 c.in_ok-dones.ensures in
    let r = ap (λ (v : Dealt g.row.J.Denot). v.row) c.self.view_is in
    let d = all ∙ ap (λ (v : Dealt g.row.J.Denot). v.quanta) c.self.view_is in
    (r, d, c.fill-places.ensures ∙ (λ i. places_with g.J.Job.kind (r i) ((ap (map f) c.deref.ensures.value ∙ d) i)))
