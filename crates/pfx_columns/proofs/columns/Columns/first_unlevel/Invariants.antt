use Rattle.std.proofs.Common.{◌≡◌, ◌-◌}
use Rattle.pfx_columns.specs.Ledgers.{total}
use Rattle.pfx_columns.specs.Levels.{unlevel_from, unlevel}
use Rattle.pfx_columns.proofs.columns.Columns.first_unlevel.Given as goal

abbrev pub invariant-loop-x : goal.invariant-loop-x
invariant-loop-x l = unlevel l.self ≡ unlevel_from l.self (total l.self - l.x) l.x
