use Rattle.pfx_weights.proofs.Refusals.{one_by, none_by}
use Rattle.pfx_weights.proofs.laws.one_refusal.Goals as goal

pub returns-clause-one : goal.returns-clause-one
returns-clause-one c = one_by

pub returns-clause-none : goal.returns-clause-none
returns-clause-none c = none_by
