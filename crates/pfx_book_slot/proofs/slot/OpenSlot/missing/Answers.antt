use Rattle.std.proofs.Common.{◌≡◌, ◌≤◌, ◌<◌, ap, sym, ◌∙◌, arith, rules, length, true}
use Rattle.std.specs.Prelude.{is_some}
use Rattle.pfx_machine.specs.Slots.{deal}
use Rattle.pfx_book_slot.specs.Dealt.{AllBack, IsMissing}
use Rattle.pfx_book_slot.proofs.Placed.{seen_more, seen_all}
use Rattle.pfx_book_slot.proofs.slot.OpenSlot.missing.Goals as goal

pub loop-i-preserved : goal.loop-i-preserved
loop-i-preserved g c =
    let below : c.loop-i.i < length c.self.inside.back.items = search rules in
    seen_more (λ d. deal d.number d.slot d.task d.before) c.args.self.now.back c.self.inside.back.items c.loop-i.i c.index.result.now (ap (λ o. o.back) c.self.view_is) c.index.ensures below (c.if-is_none.ensures) c.loop-i.invariant

pub returns : goal.returns
returns g c =
    let far : length c.self.inside.back.items ≤ c.loop-i.i = search rules in
    seen_all (λ d. deal d.number d.slot d.task d.before) c.args.self.now.back c.self.inside.back.items c.loop-i.i (ap (λ o. o.back) c.self.view_is) far c.loop-i.invariant
