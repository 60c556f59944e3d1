use Rattle.std.proofs.Common.{◌≡◌, sym, ◌∙◌, ap, subst}
use Rattle.std.proofs.lemmas.Bool.{false≢true}
use Rattle.pfx_weights.specs.Rows.{is_in, IsFullRow}
use Rattle.pfx_columns.specs.Ledgers.{IsFair, IsLedger, after, total}
use Rattle.pfx_record.specs.Records.{tasks_of}
use Rattle.pfx_record_redo.proofs.Effects.{after-ran}
use Rattle.pfx_record_redo.proofs.Rightness.{Flags, row_wrong, row_right}
use Rattle.pfx_record_redo.proofs.applying.apply_row.Goals as goal

pub returns-then-not-pass_row-clause-right : goal.returns-then-not-pass_row-clause-right
returns-then-not-pass_row-clause-right g c =
    let s = c.args.state.now in
    let row = c.args.row.now in
    let ledger : IsLedger s.ledger = subst IsLedger c.columns.ensures c.total-total.ensures.ledger in
    let flags : Flags g.J.Job.kind s row = rw (← c.jobs.ensures, ← c.columns.ensures, ← c.total-total.ensures.count) (sym c.are_flagged.ensures ∙ c.if-not-are_flagged.false) in
    let tasks : c.row_of-tasks.result ≡ tasks_of row = c.row_of-tasks.ensures in
    row_wrong g.J.Job.kind s row ledger.set.workers.1 c.requires.fits flags
    (λ full less fair. absurd (false≢true (sym c.if-not-pass_row.true ∙ c.pass_row.ensures.right.1 (subst (IsFullRow s.ledger.set.workers (total s.ledger)) (sym tasks) full, less, subst (λ r. IsFair (after s.ledger (is_in r))) (sym tasks) fair))))

pub returns-clause-right : goal.returns-clause-right
returns-clause-right g c =
    let s = c.args.state.now in
    let row = c.args.row.now in
    let ledger : IsLedger s.ledger = subst IsLedger c.columns.ensures c.total-total.ensures.ledger in
    let flags : Flags g.J.Job.kind s row = rw (← c.jobs.ensures, ← c.columns.ensures, ← c.total-total.ensures.count) (sym c.are_flagged.ensures ∙ c.if-not-are_flagged.false) in
    let tasks : c.row_of-tasks.result ≡ tasks_of row = c.row_of-tasks.ensures in
    let passed = c.pass_row.ensures.right.0 c.if-not-pass_row.false in
    row_right g.J.Job.kind s row ledger c.requires.number c.requires.fits flags
    (subst (IsFullRow s.ledger.set.workers (total s.ledger)) tasks passed.0) passed.1 (subst (λ r. IsFair (after s.ledger (is_in r))) tasks passed.2)

pub returns-clause-taken : goal.returns-clause-taken
returns-clause-taken g c right =
    let s = c.args.state.now in
    let row = c.args.row.now in
    let tasks : c.row_of-tasks.result ≡ tasks_of row = c.row_of-tasks.ensures in
    let passed : c.pass_row.new.self ≡ record s { ledger = after s.ledger (is_in (tasks_of row)) } = c.pass_row.ensures.passed c.if-not-pass_row.false ∙ ap (λ r. record s { ledger = after s.ledger (is_in r) }) tasks in
    c.count.ensures ∙ (rw (c.put_states.ensures, passed) (sym (after-ran s row)))
