use Rattle.std.proofs.Common.{◌≡◌, ◌<◌, ◌+◌, ◌-◌, ◌*◌, arith, ap, ◌∙◌, subst}
use Rattle.std.specs.Prelude.{◌/◌, ◌%◌}
use Rattle.std.proofs.Math.Nat.{mod-lt}
use Rattle.pfx_columns.specs.Ledgers.{Ledger}
use Rattle.pfx_program.proofs.Levels.{at_period, to_period}
use Rattle.pfx_program.proofs.level.level_slot.Goals as goal

-- src/level.rt:15:16
pub nonzero_rem-over : goal.nonzero_rem-over
nonzero_rem-over g c =
    let positive = c.number-number.ensures.state.set.hyper.positive in
    let is = c.from-hyper.ensures ∙ c.hyper.ensures ∙ ap (λ (l : Ledger). l.set.hyper) c.columns.ensures in
    omega (arith, positive, is)

-- src/level.rt:19:17
pub overflow_sub-result : goal.overflow_sub-result
overflow_sub-result g c =
    let some = c.number-number.ensures.state.set.hyper.positive in
    let is = c.from-hyper.ensures ∙ c.hyper.ensures ∙ ap (λ (l : Ledger). l.set.hyper) c.columns.ensures in
    let positive : 0 < c.from-hyper.result = omega (arith, some, is) in
    let less = mod-lt (c.slot-slot.result - c.from.result) positive in
    omega (arith, less)

-- src/level.rt:10:1
pub returns-then-over-eq0 : goal.returns-then-over-eq0
returns-then-over-eq0 g c =
    let s = c.args.state.now in
    let period : c.from-hyper.result ≡ s.ledger.set.hyper = c.from-hyper.ensures ∙ c.hyper.ensures ∙ ap (λ (l : Ledger). l.set.hyper) c.columns.ensures in
    let passed = c.slot-slot.result - c.from.result in
    let slot : c.slot-slot.result ≡ s.from + s.ledger.slot = c.slot-slot.ensures.slot in
    let from : c.from.result ≡ s.from = c.from.ensures in
    let whole = at_period passed c.from-hyper.result c.if-over-eq0.true in
    let some = c.number-number.ensures.state.set.hyper.positive in
    let positive : 0 < c.from-hyper.result = omega (arith, some, period) in
    record {
      periods = passed / c.from-hyper.result;
      level = subst (λ h. c.slot-slot.result ≡ s.from + passed / c.from-hyper.result * h) period (omega (arith, whole, slot, from));
      behind = omega (arith, slot);
      first = subst (λ h. c.slot-slot.result < s.from + s.ledger.slot + h) period (omega (arith, slot, positive));
    }

-- src/level.rt:10:1
pub returns-else-over-eq0 : goal.returns-else-over-eq0
returns-else-over-eq0 g c =
    let s = c.args.state.now in
    let period : c.from-hyper.result ≡ s.ledger.set.hyper = c.from-hyper.ensures ∙ c.hyper.ensures ∙ ap (λ (l : Ledger). l.set.hyper) c.columns.ensures in
    let passed = c.slot-slot.result - c.from.result in
    let over = passed % c.from-hyper.result in
    let slot : c.slot-slot.result ≡ s.from + s.ledger.slot = c.slot-slot.ensures.slot in
    let from : c.from.result ≡ s.from = c.from.ensures in
    let any = c.number-number.ensures.state.set.hyper.positive in
    let positive : 0 < c.from-hyper.result = omega (arith, any, period) in
    let less : over < c.from-hyper.result = mod-lt passed positive in
    let whole = to_period passed c.from-hyper.result less in
    let some = c.if-over-eq0.false in
    record {
      periods = passed / c.from-hyper.result + 1;
      level = subst (λ h. c.slot-slot.result + (c.from-hyper.result - over) ≡ s.from + (passed / c.from-hyper.result + 1) * h) period (omega (arith, whole, slot, from));
      behind = omega (arith, slot);
      first = subst (λ h. c.slot-slot.result + (c.from-hyper.result - over) < s.from + s.ledger.slot + h) period (omega (arith, slot, some, less));
    }
