use Rattle.std.proofs.Common.{◌≡◌, ◌+◌, ◌*◌, ◌<◌, ◌≤◌, ◌++◌, ◌∷◌, [], sym, ◌∙◌, ap, arith, subst, take, length, append_assoc, append-nil}
use Rattle.std.specs.Prelude.{ℕ, slice_index_or}
use Rattle.std.proofs.lemmas.List.{take_all, take_more}
use Rattle.pfx_columns.specs.Ledgers.{Ledger, IsLedger}
use Rattle.pfx_weights.specs.Bytes.{weight_bytes, weights_bytes}
use Rattle.pfx_weights.proofs.Written.{weights_push}
use Rattle.pfx_checkpoint.specs.Whole.{before_bytes}
use Rattle.pfx_checkpoint.proofs.whole.put_head.Goals as goal

pub loop-task-init : goal.loop-task-init
loop-task-init g c = (c.put_before.ensures.front ∙ sym (append-nil (before_bytes c.args.state.now)), c.put_before.ensures.long ∙ c.requires)

pub loop-task-preserved : goal.loop-task-preserved
loop-task-preserved g c =
    let s = c.args.state.now in
    let weights = s.ledger.set.weights in
    let n = c.loop-task.task in
    let real : c.real-task-end.result ≡ s.ledger.set.real = c.real-task-end.ensures ∙ ap (λ (l : Ledger). l.set.real) c.columns-2.ensures in
    let ledger : IsLedger s.ledger = subst IsLedger c.columns.ensures c.total-total.ensures.ledger in
    let front = ledger.set.front in
    let within : n < length weights = omega (arith, c.loop-task-test.true, real, front) in
    let end : 25 + 8 * (n + 1) ≡ 25 + 8 * n + 8 = omega arith in
    let before = c.loop-task.invariant.0 in
    let weight : c.weight.result ≡ slice_index_or weights n (0, 0) = c.weight.ensures ∙ ap (λ (l : Ledger). slice_index_or l.set.weights n (0, 0)) c.columns-in-loop-task.ensures in
    let more : take (n + 1) weights ≡ take n weights ++ c.weight.result ∷ [] =
    take_more weights n (0, 0) within ∙ ap (λ w. take n weights ++ w ∷ []) (sym weight) in (
      ap (λ (k : ℕ). take k c.put_weight.new.bytes) end
          ∙ (c.put_weight.ensures.front
          ∙ (ap (λ t. t ++ weight_bytes c.weight.result) before
          ∙ (append_assoc (before_bytes s) (weights_bytes (take n weights)) (weight_bytes c.weight.result)
          ∙ ap (λ t. before_bytes s ++ t) (sym (ap weights_bytes more ∙ weights_push (take n weights) c.weight.result))))),
      c.put_weight.ensures.long ∙ c.loop-task.invariant.1,
    )

pub returns : goal.returns
returns g c =
    let s = c.args.state.now in
    let n = c.loop-task.task in
    let real : c.real-task-end.result ≡ s.ledger.set.real = c.real-task-end.ensures ∙ ap (λ (l : Ledger). l.set.real) c.columns-2.ensures in
    let end : n ≡ s.ledger.set.real = omega (arith, c.loop-task-test.false, c.loop-task.auto.task-end, real) in
    let head = c.loop-task.head in
    let long : length head ≤ 25 + 8 * n = omega (arith, c.loop-task.invariant.1, end) in
    sym (take_all (25 + 8 * n) head long) ∙ (c.loop-task.invariant.0 ∙ ap (λ k. before_bytes s ++ weights_bytes (take k s.ledger.set.weights)) end)
