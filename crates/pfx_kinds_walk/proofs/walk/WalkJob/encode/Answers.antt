use Rattle.std.proofs.Common.{refl}
use Rattle.pfx_kinds_walk.specs.Walks.{walk_bytes}
use Rattle.pfx_kinds_walk.proofs.walk.WalkJob.encode.Goals as goal

pub returns : goal.returns
unfolding walk_bytes
returns c = rw (c.write_u64-2.ensures, c.write_u64.ensures, c.write_u32.ensures) refl
