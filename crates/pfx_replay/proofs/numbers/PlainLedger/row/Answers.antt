use Rattle.std.proofs.Common.{◌≡◌, ◌≤◌, ◌+◌, ◌<◌, ◌^◌, ◌∙◌, sym, ap, Ok, rules, arith}
use Rattle.pfx_weights.specs.Rows.{members}
use Rattle.pfx_columns.specs.Ledgers.{total}
use Rattle.pfx_choice.specs.Choices.{contending, urgent}
use Rattle.pfx_choice.specs.PfRows.{pf_set}
use Rattle.pfx_replay.specs.Shown.{ledger_of}
use Rattle.pfx_replay.proofs.Rows.{there}
use Rattle.pfx_replay.proofs.numbers.PlainLedger.row.Goals as goal

pub returns : goal.returns
returns c =
    let g = ledger_of c.args.self.now in
    let early : g.slot + 1 < 2 ^ 40 = omega (arith, c.if-self.false) in
    let few : urgent g ≤ g.set.workers = omega (arith, c.if-workers-urgent.false, c.urgent-urgent.ensures.count) in
    let many : g.set.workers ≤ urgent g + contending g = omega (arith, c.if-urgent-contending.false, c.urgent-urgent.ensures.count, c.contending.ensures.count) in
    let all : c.loop-x.x ≡ total g = search rules in
    there g early few many ∙ ap (λ n. Ok (members n (pf_set g))) (sym all) ∙ ap (λ row. Ok row) (sym c.loop-x.invariant)
