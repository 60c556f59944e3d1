use Rattle.std.proofs.Common.{rules, ◌≡◌, ◌<◌, ℕ, get_or, drop, arith}
use Rattle.byteorder.specs.Endian.{little_number}
use Rattle.pfx_log.proofs.Spelled.{numbers_are}
use Rattle.pfx_log.proofs.looking.numbers_in.Goals as goal

pub returns : goal.returns
returns c =
    let bytes = c.args.bytes.now in
    let small : (i : ℕ) → get_or bytes i 0 < 256 = λ i. omega (arith, c.type_inv.bytes i) in
    let second : c.read_u64-2.result ≡ little_number 8 (drop 8 bytes) = search rules in
    let third : c.read_u64-3.result ≡ little_number 8 (drop 16 bytes) = search rules in
    numbers_are bytes c.read_u64.result c.read_u64-2.result c.read_u64-3.result c.requires small c.read_u64.ensures second third
