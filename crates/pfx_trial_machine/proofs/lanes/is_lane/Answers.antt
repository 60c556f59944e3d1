use Rattle.std.proofs.Common.{arith}
use Rattle.std.proofs.lemmas.Int.{ints}
use Rattle.pfx_trial_machine.proofs.lanes.is_lane.Goals as goal

pub returns : goal.returns
returns c = record {
  lag_low = omega (arith, ints);
  lag_high = omega (arith, ints);
  phase_low = omega (arith, ints);
  phase_high = omega (arith, ints);
  e_low = omega (arith, ints);
  e_high = omega (arith, ints);
  p_high = omega (arith, ints);
}
