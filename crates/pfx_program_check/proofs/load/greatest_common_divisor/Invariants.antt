use Rattle.std.proofs.Common.{ℕ, ◌<◌}
use Rattle.std.specs.Int.{IsGcd}
use Rattle.pfx_program_check.proofs.load.greatest_common_divisor.Given as goal

abbrev pub invariant-euclid : goal.invariant-euclid
invariant-euclid l = record { positive : 0 < l.large; same : (g : ℕ) → IsGcd l.large l.small g → IsGcd l.fn.a l.fn.b g }

abbrev pub decreases-euclid : goal.decreases-euclid
decreases-euclid l = l.small
