use Rattle.std.proofs.Common.{◌≡◌, length, arith}
use Rattle.std.proofs.lemmas.Grind.{same_number_lists}
use Rattle.pfx_c.proofs.plans.put_ledger.Goals as goal

pub returns-clause-allocs : goal.returns-clause-allocs
returns-clause-allocs c =
    let long : length c.loop-x.allocs ≡ length c.args.allocs.now = c.loop-x.auto.allocs in
    same_number_lists c.loop-x.allocs c.args.ledger.now.allocs
    (omega (arith, long, c.requires))
    (λ k l. c.loop-x.invariant k (omega (arith, l, long, c.loop-x-test.false)))
