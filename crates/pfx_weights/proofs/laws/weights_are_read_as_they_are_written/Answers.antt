use Rattle.pfx_weights.proofs.Written.{length-weights, weights_back, small_weights, weights_split}
use Rattle.pfx_weights.proofs.laws.weights_are_read_as_they_are_written.Goals as goal

pub returns-clause-long : goal.returns-clause-long
returns-clause-long c = length-weights

pub returns-clause-read : goal.returns-clause-read
returns-clause-read c = weights_back

pub returns-clause-accepted : goal.returns-clause-accepted
returns-clause-accepted c = small_weights

pub returns-clause-written : goal.returns-clause-written
returns-clause-written c = weights_split
