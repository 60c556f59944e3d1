use Rattle.std.proofs.Common.{nat_lt, take, drop, ap, arith, w8, ◌∙◌}
use lib.Count.{ones}
use Rattle.std.proofs.lemmas.Simd.{bitmask_splat, ones-mask_l, length-chunk}
use Rattle.pfx_choice.proofs.counts.below_in_sixteen.Goals as goal

pub returns : goal.returns
returns c =
    let lanes = take 16 (drop c.args.at c.args.bytes.now) in
    ap ones (bitmask_splat w8 nat_lt lanes 16 c.args.d (length-chunk c.args.at 16 c.args.bytes.now c.requires) (omega arith)) ∙ ones-mask_l (λ x. nat_lt x c.args.d) lanes
