use Rattle.std.proofs.Common.{◌≡◌, ◌<◌, ℕ, get_or, Option}
use Rattle.pfx_replay.proofs.history.are_jobs.Given as goal

abbrev pub invariant-loop-i : goal.invariant-loop-i
invariant-loop-i g l = (k : ℕ) (d : Option _) → k < l.i → get_or l.one k d ≡ get_or l.other k d
