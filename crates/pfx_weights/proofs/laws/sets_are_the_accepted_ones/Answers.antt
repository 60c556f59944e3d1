use Rattle.pfx_weights.proofs.Tests.{sets_ok, sets_from}
use Rattle.pfx_weights.proofs.laws.sets_are_the_accepted_ones.Goals as goal

pub returns : goal.returns
returns c = λ m tasks s. (sets_from m tasks s, sets_ok m tasks s)
