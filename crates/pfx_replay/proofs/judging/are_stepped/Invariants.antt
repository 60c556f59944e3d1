use Rattle.std.proofs.Common.{◌≡◌, ◌<◌, ℕ, get_or}
use Rattle.pfx_record.specs.declared.record.Place.{Place}
use Rattle.pfx_record_redo.specs.Recording.{place_of}
use Rattle.pfx_replay.proofs.judging.are_stepped.Given as goal

abbrev pub invariant-loop-place : goal.invariant-loop-place
invariant-loop-place g l = (k : ℕ) (d : Place _) → k < l.place-index → get_or l.row k d ≡ place_of g.J.Job.kind l.jobs (get_or l.row k d).task
