use Rattle.std.proofs.Common.{◌≡◌, ◌+◌, ◌*◌, ◌%◌, arith, ap, sym, ◌∙◌, subst}
use Rattle.std.proofs.Math.Nat.{mod-lt}
use Rattle.pfx_symbols.specs.RankKeys.{next_of}
use Rattle.pfx_symbols.specs.Ranks.{Parts}
use Rattle.pfx_columns.specs.Ledgers.{rank, task}
use Rattle.pfx_choice.specs.Kinds.{key_from, IsOf}
use Rattle.pfx_choice.proofs.Best.{rank_in}
use Rattle.pfx_choice.proofs.KindKeys.{kind_key, kind_gap}
use Rattle.pfx_choice.proofs.kind.Kind.renew.Goals as goal

pub from_phase-r-requires-clause-weight : goal.from_phase-r-requires-clause-weight
from_phase-r-requires-clause-weight c =
    let h = rank_in c.args.ledger.now c.args.x c.total-total.ensures.ledger c.requires in
    let e_is = ap (λ w. w.0) c.weight-e.ensures in
    let p_is = ap (λ w. w.1) c.weight-e.ensures in
    (omega (arith, h.above, e_is), omega (arith, h.below, e_is, p_is), omega (arith, h.limit, p_is))

pub from_phase-r-requires-clause-phase : goal.from_phase-r-requires-clause-phase
from_phase-r-requires-clause-phase c =
    let h = rank_in c.args.ledger.now c.args.x c.total-total.ensures.ledger c.requires in
    let v = task c.args.ledger.now c.args.x in
    let p_is = ap (λ w. w.1) c.weight-e.ensures in
    let low = mod-lt (v.e * c.args.ledger.now.slot) {m = v.p} (omega (arith, h.below)) in
    omega (arith, low, p_is, c.phase.ensures)

pub returns-then-self-p : goal.returns-then-self-p
returns-then-self-p c =
    let q = rank c.args.ledger.now c.args.x in
    let e = c.weight-e.result.0 in
    let p = c.weight-e.result.1 in
    let r = c.from_phase-r.result in
    let old = c.args.self.now in
    let gap = (old.gap + 4294967295) % 4294967296 in
    let e_is : e ≡ q.e = ap (λ w. w.0) c.weight-e.ensures in
    let p_is : p ≡ q.p = ap (λ w. w.1) c.weight-e.ensures in
    let r_is : r ≡ next_of q = c.from_phase-r.ensures ∙ ap (λ n. (n + e) % p) c.phase.ensures ∙ ap (λ n. (q.phase + n) % p) e_is ∙ ap (λ n. (q.phase + q.e) % n) p_is in
    let end : r + e * gap ≡ p + old.v =
    ap (λ n. r + e * n) (sym c.from-3.ensures) ∙ ap (λ n. r + n * c.from-3.result) (sym c.from-2.ensures) ∙ ap (λ n. n + c.from-2.result * c.from-3.result) (sym c.from.ensures)
    ∙ c.if-end-from.true ∙ ap (λ n. n + c.from-5.result) c.from-4.ensures ∙ ap (λ n. p + n) c.from-5.ensures in
    let h = rank_in c.args.ledger.now c.args.x c.total-total.ensures.ledger c.requires in
    let first = kind_gap q e p r gap old.v h e_is p_is r_is end c.if-self-e.true in
    let own = old.is ∙ ap (λ n. key_from n old.p old.v) c.if-self-e-2.true ∙ ap (λ n. key_from e n old.v) c.if-self-p.true in
    record { gap = first; key = own ∙ sym (kind_key q e p r gap old.v e_is p_is r_is first end) }

pub returns : goal.returns
returns c = (let P : Parts → Type 0 = λ r. IsOf r c.found.result.gap c.found.result.key in subst P c.rank.ensures c.found.ensures)
