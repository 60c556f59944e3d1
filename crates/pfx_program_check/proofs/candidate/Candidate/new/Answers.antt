use Rattle.std.proofs.Common.{List, ℕ, length, subst, sym, arith}
use Rattle.pfx_weights.specs.Sets.{IsTaskCount}
use Rattle.pfx_program_check.proofs.Going.{numbered_as}
use Rattle.pfx_program_check.proofs.candidate.Candidate.new.Goals as goal

pub invariant_of-result : goal.invariant_of-result
invariant_of-result c = (
  c.requires.workers,
  subst (λ (l : List (ℕ × ℕ)). IsTaskCount (length l)) (sym c.in_ok-tasks.ensures.items) c.requires.count,
  numbered_as c.in_ok-tasks.tasks.items c.args.tasks.now c.loop-x.numbers.items c.loop-x.x c.in_ok-tasks.ensures.items c.loop-x.invariant (omega (arith, c.loop-x-test.false, c.loop-x.auto.x-end)),
)
