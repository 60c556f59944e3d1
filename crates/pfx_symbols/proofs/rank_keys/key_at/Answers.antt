use Rattle.std.proofs.Common.{arith, ap, ◌∙◌}
use Rattle.pfx_symbols.specs.Keys.{key_behind}
use Rattle.pfx_symbols.proofs.RankKeyOrder.{key_most}
use Rattle.pfx_symbols.proofs.rank_keys.key_at.Goals as goal

pub returns-then-at-kept-clause-most : goal.returns-then-at-kept-clause-most
returns-then-at-kept-clause-most c =
    let most = key_most c.args.rounds c.args.e c.args.p c.args.v c.requires in
    let is = ap (λ k. k.number) c.key_of_gaps.ensures in
    omega (arith, most, is)

pub returns-then-last-rounds-clause-most : goal.returns-then-last-rounds-clause-most
returns-then-last-rounds-clause-most c =
    let most = key_most c.args.rounds c.args.e c.args.p c.args.v c.requires in
    let l = c.index-kept-at.result in
    let low = c.requires.low in
    let kept = ap (λ k. k.number) (l.is (omega (arith, low, c.if-last-v.true))) in
    let same =
    ap (λ n. (key_behind n l.e l.p l.v).number) c.if-last-rounds.true ∙ ap (λ n. (key_behind c.args.rounds n l.p l.v).number) c.if-last-e.true
    ∙ ap (λ n. (key_behind c.args.rounds c.args.e n l.v).number) c.if-last-p.true ∙ ap (λ n. (key_behind c.args.rounds c.args.e c.args.p n).number) c.if-last-v.true in
    omega (arith, most, kept, same)

pub returns-clause-most : goal.returns-clause-most
returns-clause-most c =
    let most = key_most c.args.rounds c.args.e c.args.p c.args.v c.requires in
    let is = ap (λ k. k.number) c.key_of_gaps-key.ensures in
    omega (arith, most, is)
