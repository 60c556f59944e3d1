use Rattle.std.proofs.Common.{◌≡◌, ◌+◌, ◌*◌, ◌<◌, ◌≤◌, ◌++◌, ◌∷◌, [], sym, ◌∙◌, ap, arith, take, length, append_assoc, append-nil}
use Rattle.std.specs.Prelude.{ℕ}
use Rattle.std.proofs.lemmas.List.{take_all, take_more}
use Rattle.pfx_weights.specs.Bytes.{weight_bytes, weights_bytes}
use Rattle.pfx_weights.proofs.Written.{weights_push}
use Rattle.pfx_store_header.specs.Headers.{Header, front_bytes, header_bytes, this_version}
use Rattle.pfx_store_header.proofs.writing.write_header.Goals as goal

pub loop-task-init : goal.loop-task-init
loop-task-init c =
    (c.put_front.ensures.front ∙ sym (append-nil (front_bytes this_version (record { set = c.args.set.now; segment = c.args.segment }))), c.put_front.ensures.long ∙ c.requires)

pub loop-task-preserved : goal.loop-task-preserved
loop-task-preserved c =
    let set = c.args.set.now in
    let n = c.loop-task.task in
    let h : Header = record { set = set; segment = c.args.segment } in
    let within : n < length set.weights = omega (arith, c.loop-task-test.true, c.total-total.ensures.filled.front) in
    let end : 17 + 8 * (n + 1) ≡ 17 + 8 * n + 8 = omega arith in
    let before = c.loop-task.invariant.0 in
    let weight = c.weight.ensures in
    let more : take (n + 1) set.weights ≡ take n set.weights ++ c.weight.result ∷ [] =
    take_more set.weights n (0, 0) within ∙ ap (λ w. take n set.weights ++ w ∷ []) (sym weight) in (
      ap (λ (k : ℕ). take k c.put_task.new.out) end
          ∙ (c.put_task.ensures.front
          ∙ (ap (λ t. t ++ weight_bytes c.weight.result) before
          ∙ (append_assoc (front_bytes this_version h) (weights_bytes (take n set.weights)) (weight_bytes c.weight.result)
          ∙ ap (λ t. front_bytes this_version h ++ t) (sym (ap weights_bytes more ∙ weights_push (take n set.weights) c.weight.result))))),
      c.put_task.ensures.long ∙ c.loop-task.invariant.1,
    )

pub returns : goal.returns
unfolding header_bytes
returns c =
    let set = c.args.set.now in
    let n = c.loop-task.task in
    let h : Header = record { set = set; segment = c.args.segment } in
    let end : n ≡ set.real = omega (arith, c.loop-task-test.false, c.loop-task.auto.task-end) in
    let out = c.loop-task.out in
    let long : length out ≤ 17 + 8 * n = omega (arith, c.loop-task.invariant.1) in
    sym (take_all (17 + 8 * n) out long) ∙ (c.loop-task.invariant.0 ∙ ap (λ k. front_bytes this_version h ++ weights_bytes (take k set.weights)) end)
