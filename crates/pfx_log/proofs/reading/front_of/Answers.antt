use Rattle.std.proofs.Common.{rules, ◌≡◌, get_or, take, drop, ◌∙◌, sym, arith}
use Rattle.byteorder.specs.Endian.{little_number}
use Rattle.pfx_log.specs.Logs.{mark}
use Rattle.pfx_log.proofs.Headers.{front_is}
use Rattle.pfx_log.proofs.Spelled.{small_bytes}
use Rattle.pfx_log.proofs.reading.front_of.Goals as goal

pub returns-clause-front : goal.returns-clause-front
returns-clause-front c bytes is long =
    let front = c.args.front.now in
    let small = small_bytes front (λ i. omega (arith, c.type_inv.front i)) in
    let n = c.read_u32-n.result in
    let letters : take 9 front ≡ mark = search rules in
    let version : get_or front 9 0 ≡ 1 = search rules in
    let n_is : n ≡ little_number 4 (drop 11 front) = search rules in
    let some = c.if-n-lt8.false in
    let most = c.if-n-gt-MOST.false in
    let fits = c.if-len-n.false in
    let inside = c.requires.inside in
    record {
      front = sym is ∙ front_is front n c.requires.long letters version small n_is;
      some = omega (arith, some);
      most = omega (arith, most);
      fits = omega (arith, fits, inside, long);
    }
