use Rattle.pfx_columns.proofs.Going.{lag_goes_on}
use Rattle.pfx_columns.proofs.laws.steps_are_lags.Goals as goal

pub returns : goal.returns
returns c = lag_goes_on
