use Rattle.std.proofs.Common.{arith}
use Rattle.pfx_machine.proofs.PlainLemmas.{slots_next}
use Rattle.pfx_machine.proofs.plain.plain_slots.Goals as goal

pub loop-one-preserved : goal.loop-one-preserved
loop-one-preserved g c = (
  slots_next c.args.task c.args.happened.now c.loop-one.one-index c.one-item.result c.loop-one.count c.slots_of_one-count.result
      c.loop-one-test.true c.one-item.is c.loop-one.invariant.0 c.slots_of_one-count.ensures.count,
  omega (arith, c.loop-one.invariant.1, c.slots_of_one-count.ensures.few),
)
