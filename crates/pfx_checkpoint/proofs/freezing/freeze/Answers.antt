use Rattle.std.proofs.Common.{◌≡◌, ◌≤◌, length, sym, ◌∙◌, ap, arith}
use Rattle.std.proofs.lemmas.List.{take_all}
use Rattle.pfx_columns.specs.Ledgers.{Ledger}
use Rattle.pfx_checkpoint.specs.Spelling.{front_bytes, state_bytes, place_of}
use Rattle.pfx_checkpoint.proofs.freezing.freeze.Goals as goal

pub returns : goal.returns
unfolding state_bytes
returns g c =
    let set = c.args.state.now.ledger.set in
    let x = c.loop-task.task in
    let total : c.total-task-end.result ≡ length set.weights = c.total-task-end.ensures.count ∙ ap (λ (l : Ledger). length l.set.weights) c.columns-2.ensures in
    let end : x ≡ length set.weights = omega (arith, c.loop-task-test.false, c.loop-task.auto.task-end) in
    let long : length c.loop-task.bytes ≤ place_of set.real x = (let all = c.loop-task.invariant.1 ∙ ap (place_of set.real) (sym end) in omega arith) in
    sym (take_all (place_of set.real x) c.loop-task.bytes long) ∙ (c.loop-task.invariant.0 ∙ ap (front_bytes g.J.Job.kind c.args.state.now) end)
