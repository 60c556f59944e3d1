use Rattle.std.specs.Prelude.{[]}
use Rattle.pfx.proofs.run.run_on.Goals as goal

pub run_alone-requires-clause-begins : goal.run_alone-requires-clause-begins
run_alone-requires-clause-begins g c = c.requires.begins []

pub run_by-requires-clause-begins : goal.run_by-requires-clause-begins
run_by-requires-clause-begins g c = λ lifetimes outlive. c.requires.begins []
