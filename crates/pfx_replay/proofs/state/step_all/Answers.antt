use Rattle.std.proofs.Common.{◌≡◌, ◌<◌, ◌+◌, ◌∙◌, ℕ, get_or, length, ap, ap₂, arith, rules}
use Rattle.std.specs.Prelude.{if◌then◌else◌, Option}
use Rattle.pfx_weights.specs.Rows.{is_in}
use Rattle.pfx_machine.specs.Steps.{once_job}
use Rattle.pfx_replay.proofs.Parts.{changed, changed-length, changed-jobs, change_one}
use Rattle.pfx_replay.proofs.state.step_all.Goals as goal

pub loop-task-preserved : goal.loop-task-preserved
loop-task-preserved g c =
    let f = λ (x : ℕ) (o : Option _). if is_in c.args.row.now x then once_job g.J.Job.kind o else o in
    let x = c.loop-task.task in
    let old = c.args.jobs.now.items in
    let now = c.loop-task.jobs.items in
    let d = c.index_mut.result.now in
    let within_now : x < length now = search rules in
    let within : x < length old = omega (arith, within_now, c.loop-task.invariant.long) in
    let v : c.step_one.new.place ≡ f x (get_or now x d) =
    c.step_one.ensures ∙ ap₂ (λ b o. if b then once_job g.J.Job.kind o else o) c.holds.ensures c.index_mut.ensures.value in
    let next = change_one f x now old c.step_one.new.place d d c.loop-task.invariant.changed within v in
    record { changed = next; long = ap length next ∙ changed-length f (x + 1) 0 old }

pub returns : goal.returns
returns g c =
    let f = λ (x : ℕ) (o : Option _). if is_in c.args.row.now x then once_job g.J.Job.kind o else o in
    let old = c.args.jobs.now.items in
    let all : c.loop-task.task ≡ length old = search rules in
    c.loop-task.invariant.changed ∙ ap (λ n. changed f n 0 old) all ∙ changed-jobs g.J.Job.kind c.args.row.now 0 old
