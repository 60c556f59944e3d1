use Rattle.std.proofs.Common.{◌≡◌, sym, ◌∙◌, ap, refl, true, false, arith}
use Rattle.std.specs.Prelude.{Ok, nat_lt, ◌^◌}
use Rattle.std.proofs.lemmas.Bool.Decides.{nat_tests}
use Rattle.pfx_kinds.specs.Starts.{own_start}
use Rattle.pfx_kinds.proofs.own.Own.start.Goals as goal

pub returns-then-goal : goal.returns-then-goal
unfolding own_start
returns-then-goal c = let t : nat_lt c.args.goal (2 ^ 40) ≡ false = grind (arith, nat_tests) in rw t refl

pub returns-then-not-is_answer : goal.returns-then-not-is_answer
unfolding own_start
returns-then-not-is_answer c =
    let t : nat_lt c.args.goal (2 ^ 40) ≡ true = grind (arith, nat_tests) in
    rw (t, sym c.is_answer.ensures ∙ c.if-not-is_answer.true) refl

pub returns : goal.returns
unfolding own_start
returns c =
    let t : nat_lt c.args.goal (2 ^ 40) ≡ true = grind (arith, nat_tests) in
    rw (t, sym c.is_answer.ensures ∙ c.if-not-is_answer.false) (ap Ok (sym c.new.ensures))
