use Rattle.std.proofs.Common.{◌∙◌, arith}
use Rattle.std.proofs.lemmas.List.{get_or_default}
use Rattle.pfx_columns.specs.Ledgers.{task}
use Rattle.pfx_columns.proofs.Steps.{fair_below}
use Rattle.pfx_choice.proofs.Choosing.{weight_in}
use Rattle.pfx_replay.specs.Shown.{ledger_of}
use Rattle.pfx_replay.proofs.numbers.PlainLedger.got.Goals as goal

pub returns-clause-limit : goal.returns-clause-limit
returns-clause-limit c =
    let l = c.args.self.now in
    let g = ledger_of l in
    let x = c.args.x in
    let below = fair_below (task g x).e (task g x).p (task g x).alloc g.slot (weight_in g x l.kept c.requires).1 (l.kept.fair x c.requires) in
    let same = c.index.ensures ∙ get_or_default l.allocations.items x c.index.result.now 0 (omega (arith, l.kept.length, c.requires)) in
    omega (arith, below, l.kept.slot, same)
