use Rattle.std.proofs.Common.{◌<◌, ◌+◌, sym, subst, length, arith}
use Rattle.pfx_columns.specs.Ledgers.{IsLedger, task}
use Rattle.pfx_columns.proofs.Steps.{fair_below}
use Rattle.pfx_choice.proofs.Choosing.{weight_in}
use Rattle.pfx_machine.proofs.Keeping.{chosen_is, ledger_after_row}
use Rattle.pfx_replay.specs.Numbers.{numbers_ledger}
use Rattle.pfx_replay.specs.Shown.{ledger_of}
use Rattle.pfx_replay.proofs.numbers.PlainLedger.after.Goals as goal

pub add_all-requires : goal.add_all-requires
add_all-requires c x within =
    let l = c.args.self in
    let g = ledger_of l in
    let inside : x < length g.set.weights = omega (arith, within, l.kept.length) in
    let below = fair_below (task g x).e (task g x).p (task g x).alloc g.slot (weight_in g x l.kept inside).1 (l.kept.fair x inside) in
    omega (arith, below, l.kept.slot)

pub invariant_of-result : goal.invariant_of-result
invariant_of-result c =
    let l = c.args.self in
    let g = ledger_of l in
    record { kept = subst (λ allocs. IsLedger (numbers_ledger l.workers l.real l.hyper l.weights.items (l.slot + 1) allocs)) (sym c.add_all.ensures) (ledger_after_row g c.args.row.now l.kept (chosen_is g c.args.row.now c.requires)) }
