use Rattle.std.proofs.Common.{rules, ◌≡◌, ◌*◌, ◌++◌, ◌∷◌, [], sym, ◌∙◌, ap, drop}
use Rattle.std.proofs.lemmas.List.{drop-drop}
use Rattle.pfx_weights.specs.Bytes.{weight_of, weights_of}
use Rattle.pfx_weights.proofs.Written.{weights_more}
use Rattle.pfx_store_header.proofs.reading.tasks_at.Goals as goal

pub loop-task-preserved : goal.loop-task-preserved
loop-task-preserved c =
    let bytes = c.args.bytes.now in
    let n = c.loop-task.task in
    let before = c.loop-task.invariant in
    let task : c.task_at.result ≡ weight_of (drop (8 * n) (drop 17 bytes)) = c.task_at.ensures ∙ ap weight_of (sym (drop-drop (8 * n) 17 bytes)) in
    let pushed : c.push.new.self.items ≡ weights_of n (drop 17 bytes) ++ weight_of (drop (8 * n) (drop 17 bytes)) ∷ [] =
    c.in_ok-push.ensures.items ∙ (λ i. before i ++ task i ∷ []) in
    pushed ∙ sym (weights_more n (drop 17 bytes))

pub returns : goal.returns
returns c = search rules
