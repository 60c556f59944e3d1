use Rattle.std.proofs.Common.{◌≡◌, ◌==◌, nat_lt, length, drop, take, arith, ap, ◌∙◌}
use Rattle.std.specs.List.{count_by}
use Rattle.pfx_choice.proofs.Counting.{counted_more, counted_at, counted_few}
use Rattle.pfx_choice.proofs.counts.count_below.Goals as goal

pub overflow_add-number : goal.overflow_add-number
overflow_add-number c =
    let h = c.vectors.invariant in
    let few = counted_few (λ x. nat_lt x c.args.d) (drop c.vectors.at c.args.places.now) in
    omega (arith, few, c.below_in_sixteen-number.ensures, h.few, h.within, c.requires)

pub vectors-preserved : goal.vectors-preserved
vectors-preserved c =
    let xs = c.args.places.now in
    let at = c.vectors.at in
    let h = c.vectors.invariant in
    let few = counted_few (λ x. nat_lt x c.args.d) (drop at xs) in
    let sum = counted_more (λ x. nat_lt x c.args.d) xs at 16 in
    let more = c.below_in_sixteen-number.ensures in
    record {
      number = omega (arith, h.number, more, sum);
      within = omega (arith, h.within, c.vectors-test.true);
      few = omega (arith, h.few, more, few);
    }

pub returns-clause-number : goal.returns-clause-number
returns-clause-number c =
    let xs = c.args.places.now in
    let h = c.tail.invariant in
    let all : c.tail.at ≡ length xs = omega (arith, h.within, c.tail-test.false) in
    h.number ∙ ap (λ k. count_by (λ x. nat_lt x c.args.d) (take k xs)) all ∙ counted_at (λ x. nat_lt x c.args.d) xs (length xs) (omega arith)
