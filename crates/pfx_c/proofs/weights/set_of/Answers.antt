use Rattle.std.proofs.Common.{arith}
use Rattle.std.proofs.lemmas.List.{length-map}
use Rattle.pfx_weights.specs.declared.faults.SetFault.TheVariants.{TooManyTasks}
use Rattle.pfx_c.specs.Weights.{pair_of}
use Rattle.pfx_c.proofs.weights.set_of.Goals as goal

pub returns-then-weights-gt-MOST-clause-why : goal.returns-then-weights-gt-MOST-clause-why
returns-then-weights-gt-MOST-clause-why c =
    let number = length-map c.args.weights.now pair_of in
    (TooManyTasks, c.set_fault.ensures, omega (arith, number, c.if-weights-gt-MOST.true))
