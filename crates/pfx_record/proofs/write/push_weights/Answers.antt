use Rattle.std.proofs.Common.{◌≡◌, ◌+◌, ◌++◌, ◌∷◌, ap, arith, refl, length, drop, get_or, length-append}
use Rattle.std.proofs.lemmas.List.{drop_more}
use Rattle.pfx_weights.specs.Bytes.{weight_bytes}
use Rattle.pfx_record.specs.Begins.{joined}
use Rattle.pfx_record.proofs.write.push_weights.Goals as goal

pub push_weight-requires : goal.push_weight-requires
push_weight-requires c =
    let ws = c.args.weights.now in
    let i = c.loop-weight.weight-index in
    let w = get_or ws i (0, 0) in
    let rest = joined weight_bytes (drop (i + 1) ws) in
    let long : length (joined weight_bytes (drop i ws)) ≡ length (weight_bytes w ++ rest) = ap (λ l. length (joined weight_bytes l)) (drop_more ws i (0, 0) c.loop-weight-test.true) in
    let eight : length (weight_bytes w) ≡ 8 = refl in
    omega (arith, c.loop-weight.invariant.room, long, eight, length-append (weight_bytes w) rest)
