use Rattle.std.proofs.Common.{◌≡◌, drop}
use Rattle.std.specs.List.{list_all}
use Rattle.pfx_record.specs.Records.{is_small}
use Rattle.pfx_record.proofs.batch.are_small.Given as goal

-- what is left decides
abbrev pub invariant-loop-weight : goal.invariant-loop-weight
invariant-loop-weight l = list_all is_small (drop l.weight-index l.weights) ≡ list_all is_small l.weights
