use Rattle.pfx_machine.proofs.Fits.{fits_of, fitting_state, state_fits}
use Rattle.pfx_machine.proofs.laws.tests_tell_states.Goals as goal

pub returns-clause-passed : goal.returns-clause-passed
returns-clause-passed g c s is = fits_of s (state_fits s is)

pub returns-clause-states : goal.returns-clause-states
returns-clause-states g c = fitting_state
