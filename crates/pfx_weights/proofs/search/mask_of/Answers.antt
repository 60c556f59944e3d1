use Rattle.std.proofs.lemmas.Simd.{zip2_splat, length-chunk}
use lib.Lanes.{chunk}
use Rattle.pfx_weights.proofs.Searching.{mask_is}
use Rattle.pfx_weights.proofs.search.mask_of.Goals as goal

pub returns : goal.returns
returns c =
    let long = length-chunk c.args.at 16 c.args.bytes.now c.requires in
    mask_is c.args.byte c.args.bytes.now c.args.at _ c.requires (zip2_splat _ (chunk c.args.at 16 c.args.bytes.now) 16 c.args.byte long)
