use Rattle.std.proofs.Common.{refl, arith}
use Rattle.pfx_kinds.specs.Owns.{own_bytes}
use Rattle.pfx_kinds.specs.OwnBytes.{own_parts}
use Rattle.pfx_kinds.proofs.own.Own.encode.Goals as goal

pub write_uint-requires-clause-fits : goal.write_uint-requires-clause-fits
write_uint-requires-clause-fits c =
    let parts = own_parts c.args.self.now.answered c.args.self.now.since c.args.self.now.text_length c.args.self.now.text c.args.self.now.fits in
    omega (arith, parts.early)

pub returns : goal.returns
unfolding own_bytes
returns c = rw (c.copy_from_slice.ensures.after, c.write_uint.ensures, c.write_u64.ensures) refl
