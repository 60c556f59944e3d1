use Rattle.std.proofs.Common.{◌==◌, take, drop, ap, arith, w8, ◌∙◌}
use lib.Count.{ones}
use Rattle.std.proofs.lemmas.Simd.{bitmask_splat, ones-mask_l, length-chunk}
use Rattle.pfx_choice.proofs.counts.marked_in_sixteen.Goals as goal

pub returns : goal.returns
returns c =
    let lanes = take 16 (drop c.args.at c.args.bytes.now) in
    ap ones (bitmask_splat w8 (λ x y. x == y) lanes 16 1 (length-chunk c.args.at 16 c.args.bytes.now c.requires) (omega arith)) ∙ ones-mask_l (λ x. x == 1) lanes
