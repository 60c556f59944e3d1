use Rattle.pfx_columns.proofs.Levelling.{level_of, level_none}
use Rattle.pfx_columns.proofs.laws.levels_are_found.Goals as goal

pub returns : goal.returns
returns c = λ g. (level_of g, level_none g)
