use Rattle.std.specs.Prelude.{[]}
use Rattle.pfx.proofs.run.run_at_log.Goals as goal

pub run_beside-requires-clause-begins : goal.run_beside-requires-clause-begins
run_beside-requires-clause-begins g c = c.requires.begins []

pub run_beside_by-requires-clause-begins : goal.run_beside_by-requires-clause-begins
run_beside_by-requires-clause-begins g c = λ lifetimes outlive. c.requires.begins []
