use Rattle.std.proofs.Common.{rules, ◌≡◌, ◌+◌, ◌*◌, ◌≤◌, ℕ, length, arith, subst, sym, ◌∙◌}
use Rattle.pfx_columns.specs.Ledgers.{Ledger}
use Rattle.pfx_c.specs.Plans.{IsPlanned}
use Rattle.pfx_c.proofs.Laying.{IsLaid, laid_none, laid_more, laid_ends, chosen_long, room}
use Rattle.pfx_c.proofs.plans.lay_rows.Goals as goal

pub loop-made-init : goal.loop-made-init
loop-made-init c = record { laid = laid_none c.args.ledger.now c.args.places.now; at = omega arith }

pub returns-in-Err-clause-planned : goal.returns-in-Err-clause-planned
returns-in-Err-clause-planned c = c.loop-made.invariant.laid.planned

pub returns-in-Err-clause-end : goal.returns-in-Err-clause-end
returns-in-Err-clause-end c =
    let fails = c.in-Err.ensures.row in
    laid_ends _ _ c.args.slots _ _ _ _ c.in-Err.fault c.total-total.ensures.ledger c.total-all.ensures.ledger
    c.loop-made.invariant.laid c.loop-made-test.true fails

pub put_row-requires : goal.put_row-requires
put_row-requires c =
    let g = c.args.ledger.now in
    let row = c.choose_into.new.row in
    let long : length row ≡ g.set.workers =
    chosen_long g _ _ _ _ _ row c.loop-made.invariant.laid c.total-all.ensures.ledger c.in_default.ensures.row in
    let m : c.workers-m.result ≡ g.set.workers = c.workers-m.ensures in
    let all = c.requires in
    let Room : ℕ → Type 0 = λ k. c.args.slots * k ≤ length c.args.places.now in
    let fits : c.loop-made.made * c.workers-m.result + c.workers-m.result ≤ length c.args.places.now =
    room c.loop-made.made c.args.slots c.workers-m.result _ c.loop-made-test.true (subst Room (sym m) all) in
    omega (arith, long, m, fits, c.loop-made.invariant.at, c.loop-made.auto.places)

pub overflow_add-at : goal.overflow_add-at
overflow_add-at c =
    let g = c.args.ledger.now in
    let m : c.workers-m.result ≡ g.set.workers = c.workers-m.ensures in
    let Room : ℕ → Type 0 = λ k. c.args.slots * k ≤ length c.args.places.now in
    let fits : c.loop-made.made * c.workers-m.result + c.workers-m.result ≤ length c.args.places.now =
    room c.loop-made.made c.args.slots c.workers-m.result _ c.loop-made-test.true (subst Room (sym m) c.requires) in
    let ends : c.loop-made.at + c.workers-m.result ≤ length c.args.places.now = omega (arith, fits, c.loop-made.invariant.at) in
    search rules

pub loop-made-preserved : goal.loop-made-preserved
loop-made-preserved c =
    let g = c.args.ledger.now in
    let row = c.choose_into.new.row in
    let m : c.workers-m.result ≡ g.set.workers = c.workers-m.ensures in
    let long : length row ≡ c.workers-m.result =
    chosen_long g _ _ _ _ _ row c.loop-made.invariant.laid c.total-all.ensures.ledger c.in_default.ensures.row ∙ sym m in
    let more = laid_more g _ _ _ c.workers-m.result _ _ c.put_row.new.places row c.loop-made.invariant.laid
    c.in_default.ensures.row long c.put_row.ensures in
    let P : Ledger → Type 0 = λ k. IsLaid g k (c.loop-made.made + 1) (c.loop-made.at + c.workers-m.result) c.args.places.now c.put_row.new.places in
    record { laid = subst P (sym c.give.ensures) more; at = omega (arith, c.loop-made.invariant.at) }

pub returns-clause-planned : goal.returns-clause-planned
returns-clause-planned c =
    let made : c.loop-made.made ≡ c.args.slots = omega (arith, c.loop-made-test.false, c.loop-made.auto.made-end) in
    let P : ℕ → Type 0 = λ n. IsPlanned c.args.ledger.now c.loop-made.ledger n c.args.places.now c.loop-made.places in
    subst P made c.loop-made.invariant.laid.planned
