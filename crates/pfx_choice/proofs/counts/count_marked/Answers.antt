use Rattle.std.proofs.Common.{◌≡◌, ◌==◌, nat_lt, length, drop, take, arith, ap, ◌∙◌}
use Rattle.std.specs.List.{count_by}
use Rattle.pfx_choice.proofs.Counting.{counted_more, counted_at, counted_few}
use Rattle.pfx_choice.proofs.counts.count_marked.Goals as goal

pub overflow_add-number : goal.overflow_add-number
overflow_add-number c =
    let h = c.vectors.invariant in
    let few = counted_few (λ x. x == 1) (drop c.vectors.at c.args.marks.now) in
    omega (arith, few, c.marked_in_sixteen-number.ensures, h.few, h.within, c.requires)

pub vectors-preserved : goal.vectors-preserved
vectors-preserved c =
    let xs = c.args.marks.now in
    let at = c.vectors.at in
    let h = c.vectors.invariant in
    let few = counted_few (λ x. x == 1) (drop at xs) in
    let sum = counted_more (λ x. x == 1) xs at 16 in
    let more = c.marked_in_sixteen-number.ensures in
    record {
      number = omega (arith, h.number, more, sum);
      within = omega (arith, h.within, c.vectors-test.true);
      few = omega (arith, h.few, more, few);
    }

pub returns : goal.returns
returns c =
    let xs = c.args.marks.now in
    let h = c.tail.invariant in
    let all : c.tail.at ≡ length xs = omega (arith, h.within, c.tail-test.false) in
    h.number ∙ ap (λ k. count_by (λ x. x == 1) (take k xs)) all ∙ counted_at (λ x. x == 1) xs (length xs) (omega arith)
