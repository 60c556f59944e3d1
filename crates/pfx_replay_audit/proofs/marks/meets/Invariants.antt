use Rattle.std.proofs.Common.{◌<◌, ℕ, get_or}
use Rattle.pfx_replay.specs.Stated.{plain_of}
use Rattle.pfx_replay.specs.declared.jobs.PlainState.{PlainState}
use Rattle.pfx_replay_audit.specs.Marks.{IsMet}
use Rattle.pfx_replay_audit.proofs.marks.meets.Given as goal

abbrev pub invariant-loop-mark : goal.invariant-loop-mark
invariant-loop-mark g l = (k : ℕ) (d : PlainState _) → k < l.mark-index → IsMet (plain_of l.state) (plain_of (get_or l.marks k d))
