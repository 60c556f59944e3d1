use Rattle.std.proofs.Common.{arith}
use Rattle.pfx_weights.proofs.Searching.{all_bits, first_in}
use Rattle.pfx_weights.proofs.search.first_of_sixteen.Goals as goal

pub returns : goal.returns
returns c =
    let mask = c.mask_of.ensures in
    first_in c.args.bytes.now c.args.byte c.args.at c.mask_of.result c.first_set.result (omega (arith, mask.few)) c.first_set.ensures (all_bits c.args.bytes.now c.args.byte c.args.at c.mask_of.result mask)
