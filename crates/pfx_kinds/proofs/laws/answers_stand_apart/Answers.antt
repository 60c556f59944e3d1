use Rattle.pfx_kinds.proofs.Apart.{apart}
use Rattle.pfx_kinds.proofs.laws.answers_stand_apart.Goals as goal

pub returns : goal.returns
returns c = apart
