use Rattle.pfx_machine.proofs.Rising.{slots_counted}
use Rattle.pfx_machine.proofs.laws.slots_are_counted.Goals as goal

pub returns : goal.returns
returns g c = slots_counted
