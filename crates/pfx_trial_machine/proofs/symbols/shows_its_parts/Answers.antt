use Rattle.std.proofs.Common.{refl}
use Rattle.pfx_trial_machine.proofs.symbols.shows_its_parts.Goals as goal

pub new-rank-requires-clause-reached : goal.new-rank-requires-clause-reached
new-rank-requires-clause-reached c = (2, refl)
