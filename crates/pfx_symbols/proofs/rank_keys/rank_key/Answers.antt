use Rattle.std.proofs.Common.{◌+◌, ◌%◌, ap, sym, ◌∙◌}
use Rattle.pfx_symbols.proofs.RankKeyOrder.{behind_gap}
use Rattle.pfx_symbols.proofs.rank_keys.rank_key.Goals as goal

pub key_at-behind-requires : goal.key_at-behind-requires
key_at-behind-requires c =
    let q = c.args.rank.now in
    let weight = c.weight-e.ensures.value in
    let e_is = ap (λ w. w.0) (sym weight) in
    let p_is = ap (λ w. w.1) (sym weight) in
    let r_is = ap (λ n. (n + q.e) % q.p) (sym c.phase.ensures.value) ∙ ap (λ n. (c.phase.result + n) % q.p) e_is ∙ ap (λ n. (c.phase.result + c.weight-e.result.0) % n) p_is ∙ sym c.next_phase-r.ensures in
    behind_gap q c.weight-e.result.0 c.weight-e.result.1 c.next_phase-r.result c.first_gap-gap.result c.phase.ensures.rank e_is p_is r_is c.first_gap-gap.ensures.reach c.first_gap-gap.ensures.least c.if-v-eq0.false
