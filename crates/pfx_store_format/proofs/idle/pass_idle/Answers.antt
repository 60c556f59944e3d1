use Rattle.std.proofs.Common.{◌∙◌, sym, subst, arith}
use Rattle.pfx_columns.specs.Ledgers.{IsLedger}
use Rattle.pfx_store_format.proofs.Resting.{idle_passed}
use Rattle.pfx_store_format.proofs.idle.pass_idle.Goals as goal

pub returns-clause-taken : goal.returns-clause-taken
returns-clause-taken g c right =
    let s = c.args.state.now in
    let ledger : IsLedger s.ledger = subst IsLedger c.columns.ensures c.total-total.ensures.ledger in
    let passed = c.pass_row.ensures.right.0 c.if-not-pass_row.false in
    idle_passed g.J.Job.kind c.args.form c.args.bytes.now s c.pass_row.new.self c.count.new.self c.read_idle.new.row (c.read_idle.ensures c.if-not-read_idle.false) ledger (omega (arith, c.if-number.false, c.number.ensures.number))
    (rw (← c.jobs.ensures, ← c.as_slice.ensures) (sym c.are_idle.ensures ∙ c.if-not-are_idle.false)) passed.0 passed.1 passed.2 (c.pass_row.ensures.passed c.if-not-pass_row.false) c.count.ensures
