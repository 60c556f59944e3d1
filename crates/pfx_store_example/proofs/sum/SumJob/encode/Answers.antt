use Rattle.std.proofs.Common.{refl}
use Rattle.pfx_store_example.specs.Sums.{sum_bytes}
use Rattle.pfx_store_example.proofs.sum.SumJob.encode.Goals as goal

pub returns : goal.returns
unfolding sum_bytes
returns c = rw (c.write_u64.ensures, c.write_u32.ensures) refl
