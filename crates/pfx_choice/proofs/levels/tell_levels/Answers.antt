use Rattle.std.proofs.Common.{◌≡◌, ◌∙◌, ◌<◌, ℕ, length, slice_index_or, length-set, arith, ap, sym, refl}
use Rattle.pfx_columns.specs.Ledgers.{rank}
use Rattle.pfx_choice.specs.Levels.{string_level}
use Rattle.pfx_choice.proofs.KindKeys.{kind_of_rank}
use Rattle.pfx_choice.proofs.Levelling.{own_level}
use Rattle.pfx_choice.proofs.Sums.{done_more}
use Rattle.pfx_choice.proofs.levels.tell_levels.Goals.{then-k-pivot, else-k-pivot}
use Rattle.pfx_choice.proofs.levels.tell_levels.Goals as goal

pub level_of-requires-clause-kind : goal.level_of-requires-clause-kind
level_of-requires-clause-kind c =
    let long = c.loop-k.invariant.long in
    kind_of_rank c.args.ledger.now c.args.firsts.now c.args.kinds.now c.loop-k.k c.from.result (rank c.args.ledger.now c.from.result) c.index-kinds-k.result c.requires.kinds (omega (arith, c.loop-k-test.true, long)) c.from.ensures refl c.index-kinds-k.is

pub level_of-requires-clause-other : goal.level_of-requires-clause-other
level_of-requires-clause-other c =
    kind_of_rank c.args.ledger.now c.args.firsts.now c.args.kinds.now c.args.pivot c.from-q.result (rank c.args.ledger.now c.from-q.result) c.index-kinds-pivot.result c.requires.kinds c.requires.pivot c.from-q.ensures refl c.index-kinds-pivot.is

pub loop-k-preserved : goal.loop-k-preserved
loop-k-preserved c =
    let g = c.args.ledger.now in
    let k = c.loop-k.k in
    let firsts = c.args.firsts.now in
    let q = slice_index_or firsts c.args.pivot 0 in
    let v = c.if-k-pivot.levels in
    let P : ℕ → ℕ → Type 0 = λ j n. n ≡ string_level g q (slice_index_or firsts j 0) in
    let is : P k v = elim c.if-k-pivot.branch [
      | then-k-pivot w ↦ w.levels-is ∙ sym (ap (λ j. string_level g q (slice_index_or firsts j 0)) w.if-k-pivot.true ∙ own_level g q)
      | else-k-pivot w ↦ w.levels-is ∙ w.level_of.ensures ∙ ap (λ x. string_level g c.from-q.result x) w.from.ensures ∙ ap (λ x. string_level g x (slice_index_or firsts k 0)) c.from-q.ensures
    ] in
    let inside : k < length c.loop-k.levels = omega (arith, c.loop-k-test.true, c.loop-k.auto.levels) in
    record { long = length-set c.loop-k.levels k v ∙ c.loop-k.invariant.long; told = done_more P c.loop-k.levels k v inside is c.loop-k.invariant.told }
