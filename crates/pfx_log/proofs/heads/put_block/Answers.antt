use Rattle.std.proofs.Common.{List, ℕ, [], ◌∷◌, ◌++◌, ◌∙◌, ap, arith}
use Rattle.pfx_log.proofs.Joined.{front_and_frames}
use Rattle.pfx_log.proofs.heads.put_block.Goals as goal

pub returns-clause-items : goal.returns-clause-items
returns-clause-items c =
    let front = c.block_front-front.result in
    let frames = c.args.frames.now in
    let head = c.args.head.now in
    let i1 = c.put.ensures.items ∙ ap (λ (l : List ℕ). l ++ front) c.clear.ensures.items in
    let i2 = c.put-2.ensures.items ∙ ap (λ (l : List ℕ). l ++ frames) i1 in
    let i3 = c.put-3.ensures.items ∙ ap (λ (l : List ℕ). l ++ head) i2 in
    let i4 = c.push_reserved.ensures.items ∙ ap (λ (l : List ℕ). l ++ 0 ∷ []) i3 in
    i4 ∙ ap (λ (l : List ℕ). (l ++ head) ++ 0 ∷ []) (front_and_frames front frames c.args.first c.args.last c.block_front-front.ensures)
