use Rattle.std.proofs.Common.{◌≡◌, ◌<◌, ◌≤◌, ◌++◌, ◌∷◌, [], ◌∙◌, ap, ap₂, sym, length, subst, arith}
use Rattle.std.proofs.lemmas.List.{take_more}
use Rattle.pfx_columns.specs.Ledgers.{IsLedger, start}
use Rattle.pfx_columns.proofs.Shown.{start_ledger}
use Rattle.pfx_replay.specs.Numbers.{numbers_ledger}
use Rattle.pfx_replay.proofs.Reweighs.{ledger_begun, zeros_more}
use Rattle.pfx_replay.proofs.numbers.PlainLedger.begin.Goals as goal

pub loop-x-preserved : goal.loop-x-preserved
loop-x-preserved c =
    let set = c.args.set.now in
    let x = c.loop-x.x in
    let within : x < length set.weights = omega (arith, c.loop-x-test.true, c.total-total.ensures.count) in
    record {
      weights = c.in_ok-push.ensures.items ∙ ap₂ (λ l w. l ++ w ∷ []) c.loop-x.invariant.weights c.weight.ensures ∙ sym (take_more set.weights x (0, 0) within);
      allocations = c.in_ok-push-2.ensures.items ∙ ap (λ l. l ++ 0 ∷ []) c.loop-x.invariant.allocations ∙ sym (zeros_more set.weights x within);
    }

pub invariant_of-result : goal.invariant_of-result
invariant_of-result c =
    let set = c.args.set.now in
    let all : length set.weights ≤ c.loop-x.x = omega (arith, c.loop-x-test.false, c.total-total.ensures.count) in
    let same = ledger_begun set c.loop-x.x c.workers.result c.real.result c.hyper.result c.loop-x.weights.items c.loop-x.allocations.items c.workers.ensures c.real.ensures c.hyper.ensures c.loop-x.invariant.weights c.loop-x.invariant.allocations all in
    record { kept = subst IsLedger (sym same) (start_ledger set c.total-total.ensures.filled) }

pub returns : goal.returns
returns c =
    let set = c.args.set.now in
    let all : length set.weights ≤ c.loop-x.x = omega (arith, c.loop-x-test.false, c.total-total.ensures.count) in
    ledger_begun set c.loop-x.x c.workers.result c.real.result c.hyper.result c.loop-x.weights.items c.loop-x.allocations.items c.workers.ensures c.real.ensures c.hyper.ensures c.loop-x.invariant.weights c.loop-x.invariant.allocations all
