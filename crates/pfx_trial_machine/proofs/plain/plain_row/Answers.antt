use Rattle.std.proofs.Common.{◌∙◌, ◌≡◌, ap, arith}
use Rattle.pfx_weights.specs.Rows.{members}
use Rattle.pfx_columns.specs.Ledgers.{total}
use Rattle.pfx_choice.specs.PfRows.{pf_set}
use Rattle.pfx_trial_machine.proofs.plain.plain_row.Goals as goal

pub returns : goal.returns
returns c =
    let g = c.args.ledger.now in
    let all : c.loop-x.x ≡ total g = omega (arith, c.loop-x-test.false, c.loop-x.auto.x-end, c.total-x-end.ensures.count) in
    c.loop-x.invariant ∙ ap (λ n. members n (pf_set g)) all
