use Rattle.std.proofs.Common.{◌≡◌, ◌^◌, true, false, nat_lt, refl, arith}
use Rattle.std.proofs.lemmas.Bool.Decides.{nat_tests}
use Rattle.pfx_kinds_walk.specs.Walks.{moved}
use Rattle.pfx_kinds_walk.proofs.walk.moved.Goals as goal

pub returns-then-drawn-eq1 : goal.returns-then-drawn-eq1
unfolding moved
returns-then-drawn-eq1 c = let low : nat_lt c.args.drawn (2 ^ 63) ≡ false = grind (arith, nat_tests) in rw low refl

pub returns-else-drawn-eq1 : goal.returns-else-drawn-eq1
unfolding moved
returns-else-drawn-eq1 c = let low : nat_lt c.args.drawn (2 ^ 63) ≡ true = grind (arith, nat_tests) in rw low refl
