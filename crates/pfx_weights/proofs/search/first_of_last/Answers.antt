use Rattle.std.proofs.Common.{◌+◌, ◌-◌, ◌/◌, ◌^◌, arith, length, sym, subst}
use Rattle.std.proofs.Math.Nat.{div-le_self}
use Rattle.pfx_weights.specs.Search.{IsFirstFrom}
use Rattle.pfx_weights.proofs.Searching.{all_bits, bits_behind, first_at, none_at}
use Rattle.pfx_weights.proofs.search.first_of_last.Goals as goal

pub returns-then-found-lt16 : goal.returns-then-found-lt16
returns-then-found-lt16 c =
    let d = c.args.bytes.now in
    let at = c.args.at in
    let s = at - (length d - 16) in
    let m = c.mask_of.result / 2 ^ s in
    let r = c.requires in
    let mask = c.mask_of.ensures in
    let bits = bits_behind d c.args.byte (length d - 16) at c.mask_of.result (omega (arith, r.last)) (omega (arith, r.within, r.long)) (all_bits d c.args.byte (length d - 16) c.mask_of.result mask) in
    let small = div-le_self c.mask_of.result (2 ^ s) in
    let is = c.first_set-found.ensures in
    subst (λ k. IsFirstFrom d c.args.byte at (at + k)) (sym is)
    (first_at d c.args.byte at (16 - s) m (omega arith) (omega (arith, small, mask.few)) (omega (arith, is, c.if-found-lt16.true)) (omega (arith, r.last, r.within, r.long)) bits)

pub returns-else-found-lt16 : goal.returns-else-found-lt16
returns-else-found-lt16 c =
    let d = c.args.bytes.now in
    let at = c.args.at in
    let s = at - (length d - 16) in
    let m = c.mask_of.result / 2 ^ s in
    let r = c.requires in
    let mask = c.mask_of.ensures in
    let bits = bits_behind d c.args.byte (length d - 16) at c.mask_of.result (omega (arith, r.last)) (omega (arith, r.within, r.long)) (all_bits d c.args.byte (length d - 16) c.mask_of.result mask) in
    let small = div-le_self c.mask_of.result (2 ^ s) in
    let is = c.first_set-found.ensures in
    none_at d c.args.byte at (16 - s) m (omega arith) (omega (arith, small, mask.few)) (omega (arith, is, c.if-found-lt16.false)) (omega (arith, r.last, r.within, r.long)) bits
