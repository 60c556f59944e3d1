use Rattle.std.proofs.Common.{arith}
use Rattle.std.proofs.lemmas.Nat.Gcd.{IsGcd-from_mod, IsGcd-from_zero}
use Rattle.pfx_program_check.proofs.load.greatest_common_divisor.Goals as goal

pub euclid-preserved : goal.euclid-preserved
euclid-preserved c = record {
  positive = c.euclid-test.true;
  same = λ g h. c.euclid.invariant.same g (IsGcd-from_mod c.euclid.large c.euclid.small g h);
}

pub returns-clause-greatest : goal.returns-clause-greatest
returns-clause-greatest c = c.euclid.invariant.same c.euclid.large (IsGcd-from_zero c.euclid.large c.euclid.small (omega (arith, c.euclid-test.false)))
