use Rattle.std.proofs.Common.{◌≡◌, ◌≢◌, ◌<◌, ◌∙◌, ℕ, arith, length, length-set}
use Rattle.pfx_choice.specs.Places.{near}
use Rattle.pfx_choice.proofs.Sums.{done_more}
use Rattle.pfx_choice.proofs.leads.guess_leads.Goals as goal

pub loop-x-preserved : goal.loop-x-preserved
loop-x-preserved c =
    let g = c.args.ledger.now in
    let xs = c.loop-x.guesses in
    let x = c.loop-x.x in
    let v = c.guessed.result in
    let within : x < length xs = omega (arith, c.loop-x-test.true, c.loop-x.invariant.0, c.requires.guesses) in
    let P : ℕ → ℕ → Type 0 = λ y n. n ≢ 255 → n ≡ near g y in
    (length-set xs x v ∙ c.loop-x.invariant.0, done_more P xs x v within c.guessed.ensures c.loop-x.invariant.1)
