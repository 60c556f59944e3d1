use Rattle.std.proofs.Common.{arith, sym, ap, get_or, ◌∙◌}
use Rattle.pfx_program_script.specs.Whole.{is_over, after}
use Rattle.pfx_program_script.proofs.Passing.{stops_at, goes_on}
use Rattle.pfx_program_script.specs.declared.whole.Spot.{Spot}
use Rattle.pfx_program_script.proofs.whole.passed.Goals as goal

pub returns-then-is_over-clause-passes : goal.returns-then-is_over-clause-passes
returns-then-is_over-clause-passes c rest = stops_at c.args.spot c.after-now.result c.args.bytes.now rest c.bytes.i (omega arith) (ap (λ (z : Spot). is_over z.mode) (sym c.bytes.invariant.now) ∙ c.bytes.invariant.on)
    (ap (λ (z : Spot). is_over (after z (get_or c.args.bytes.now c.bytes.i 0)).mode) (sym c.bytes.invariant.now) ∙ ap (λ (z : Spot). is_over z.mode) (sym c.after-now.ensures) ∙ sym c.is_over.ensures ∙ c.if-is_over.true)

pub returns-clause-passes : goal.returns-clause-passes
returns-clause-passes c rest = goes_on c.args.spot c.bytes.now c.args.bytes.now rest c.bytes.i (omega arith) c.bytes.invariant.now c.bytes.invariant.on
