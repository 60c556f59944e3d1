use Rattle.std.proofs.Common.{◌≡◌, ◌<◌, ℕ, get_or}
use Rattle.pfx_record.specs.Records.{tasks_of}
use Rattle.pfx_replay.proofs.judging.are_tasks.Given as goal

abbrev pub invariant-loop-i : goal.invariant-loop-i
invariant-loop-i g l = (k : ℕ) → k < l.i → get_or (tasks_of l.row) k 0 ≡ get_or l.tasks k 0
