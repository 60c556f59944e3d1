use Rattle.std.proofs.Common.{◌≡◌, ◌<◌, ◌∙◌, ℕ, arith, length, length-set}
use Rattle.pfx_choice.specs.Places.{place}
use Rattle.pfx_choice.proofs.Sums.{done_more}
use Rattle.pfx_choice.proofs.places.put_places.Goals as goal

pub loop-x-preserved : goal.loop-x-preserved
loop-x-preserved c =
    let g = c.args.ledger.now in
    let xs = c.loop-x.places in
    let x = c.loop-x.x in
    let v = c.place_by.result in
    let within : x < length xs = omega (arith, c.loop-x-test.true, c.loop-x.invariant.0, c.requires.long) in
    let P : ℕ → ℕ → Type 0 = λ y n. n ≡ place g y in
    (length-set xs x v ∙ c.loop-x.invariant.0, done_more P xs x v within c.place_by.ensures c.loop-x.invariant.1)
