use Rattle.std.proofs.Common.{◌≡◌, ℕ, List, length, arith, sym, ap, ◌∙◌, subst}
use Rattle.pfx_columns.specs.Ledgers.{Ledger}
use Rattle.pfx_choice.specs.Choices.{IsChosen}
use Rattle.pfx_c.specs.Checks.{IsLedgerOf}
use Rattle.pfx_c.specs.declared.weights.PfxWeight.{PfxWeight}
use Rattle.pfx_choice.proofs.Planning.{pf_full}
use Rattle.pfx_c.proofs.Laying.{in_front}
use Rattle.pfx_c.proofs.nexts.put_next.Goals as goal

-- the row that is chosen has a task for each of the caller's workers
row_long : (m : ℕ) (weights : List PfxWeight) (slot : ℕ) (allocs : List ℕ) (g : Ledger) (row : List ℕ)
    → IsLedgerOf m weights slot allocs g → IsChosen g row → length row ≡ m
row_long m weights slot allocs g row h chosen = (pf_full g row h.ledger chosen.pf).full ∙ ap (λ s. s.workers) h.accepted.is

pub put_row-requires : goal.put_row-requires
put_row-requires c =
    let long = row_long c.args.workers _ _ _ _ c.in-Ok.chosen c.in_ok-ledger.ensures.ok c.in-Ok.ensures.row in
    omega (arith, long, c.if-row-workers.false)

pub returns-in-Ok-clause-ok : goal.returns-in-Ok-clause-ok
returns-in-Ok-clause-ok c =
    let g = c.in_ok-ledger.ledger in
    let row = c.in-Ok.chosen in
    let long = row_long c.args.workers _ _ _ g row c.in_ok-ledger.ensures.ok c.in-Ok.ensures.row in
    let ends = in_front row c.args.row.now c.put_row.new.places c.args.workers long c.put_row.ensures in
    let P : List ℕ → Type 0 = λ r. IsChosen g r in
    record { ledger = g; given = c.in_ok-ledger.ensures.ok; room = c.if-row-workers.false; chosen = subst P (sym ends.0) c.in-Ok.ensures.row; rest = ends.1 }
