use Rattle.std.proofs.Common.{◌≡◌, ◌++◌, ◌∷◌, [], sym, ◌∙◌, ap, arith, take, drop, length}
use Rattle.std.specs.Prelude.{slice_set}
use Rattle.std.proofs.Math.Seq.{take-append_seam}
use Rattle.std.proofs.lemmas.List.{take_more_set, length-set, length-drop, length-append}
use Rattle.byteorder.specs.Endian.{little_bytes}
use Rattle.pfx_store_header.specs.Headers.{mark, front_bytes}
use Rattle.pfx_store_header.proofs.writing.put_front.Goals as goal

pub returns-clause-front : goal.returns-clause-front
unfolding front_bytes
returns-clause-front c =
    let set = c.args.set.now in
    let old = c.args.out.now in
    let first = c.copy_from_slice.new.self in
    let marked = first ++ drop 9 old in
    let counted = slice_set marked 9 2 in
    let all = slice_set counted 10 c.workers.result in
    let is : first ≡ mark = c.copy_from_slice.ensures.after in
    let nine : length first ≡ 9 = ap length is in
    let long : length marked ≡ length old = (let n = length-drop 9 old in let m = length-append first (drop 9 old) in omega (arith, c.requires)) in
    let long_2 : length counted ≡ length old = length-set marked 9 2 ∙ long in
    let m : c.workers.result ≡ set.workers = c.workers.ensures in
    let to9 : take 9 marked ≡ mark = ap (λ n. take n marked) (sym nine) ∙ (take-append_seam first (drop 9 old) ∙ is) in
    let to10 : take 10 counted ≡ mark ++ 2 ∷ [] = take_more_set marked 9 2 (omega (arith, c.requires)) ∙ ap (λ t. t ++ 2 ∷ []) to9 in
    let to11 : take 11 all ≡ (mark ++ 2 ∷ []) ++ set.workers ∷ [] =
    take_more_set counted 10 c.workers.result (omega (arith, c.requires)) ∙ (λ i. to10 i ++ m i ∷ []) in
    c.put_u32.ensures.front
    ∙ (ap (λ t. t ++ little_bytes 4 c.args.segment) c.put_u16.ensures.front
    ∙ (λ i. (to11 i ++ little_bytes 2 (c.real.ensures i)) ++ little_bytes 4 c.args.segment))
