use Rattle.std.proofs.Common.{◌≡◌, length}
use Rattle.std.specs.Prelude.{if◌then◌else◌}
use Rattle.pfx_weights.specs.Rows.{is_in}
use Rattle.pfx_machine.specs.Steps.{once_job}
use Rattle.pfx_replay.proofs.Parts.{changed}
use Rattle.pfx_replay.proofs.state.step_all.Given as goal

abbrev pub invariant-loop-task : goal.invariant-loop-task
invariant-loop-task g l = record {
  changed : l.jobs.items ≡ changed (λ x o. if is_in l.row x then once_job g.J.Job.kind o else o) l.task 0 l.fn.jobs.items;
  long : length l.jobs.items ≡ length l.fn.jobs.items;
}
