use Rattle.std.proofs.Common.{◌≡◌, ◌++◌, ◌∷◌, [], length, ap, ◌∙◌, arith, rules}
use Rattle.pfx_front_board.specs.Word.{last_of}
use Rattle.pfx_front_board.proofs.Words.{few_batches, last_more}
use Rattle.pfx_front_board.proofs.word.Word.extend.Goals as goal

pub extend-requires : goal.extend-requires
extend-requires g c =
    let o = g.B.Begun.origin in
    let was = c.args.self.now in
    let same = ap length (c.again-longer.ensures ∙ c.self.view_is) in
    record { room = omega (arith, same, few_batches was, last_more o was c.args.batch.now, c.requires.room) }

pub overflow_add-number : goal.overflow_add-number
overflow_add-number g c =
    let o = g.B.Begun.origin in
    let n : c.len.result ≡ length c.args.batch.now.records.items = search rules in
    let same = ap (last_of o) c.self.view_is in
    omega (arith, n, c.self.invariant, same, last_more o c.args.self.now c.args.batch.now, c.requires.room)

pub invariant_of-self-2 : goal.invariant_of-self-2
invariant_of-self-2 g c =
    let o = g.B.Begun.origin in
    let n : c.len.result ≡ length c.args.batch.now.records.items = search rules in
    let new = ap (last_of o) (c.if-not-extend.ensures ∙ ap (λ w. w ++ c.args.batch.now ∷ []) c.again-longer.ensures) in
    omega (arith, n, c.self.invariant, new, last_more o c.self.inside.past c.args.batch.now)
