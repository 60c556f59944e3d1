use Rattle.std.proofs.Common.{◌≡◌, ◌&&◌, nat_lt, drop}
use Rattle.std.specs.List.{list_all}
use Rattle.pfx_record_redo.specs.Applying.{is_flagged}
use Rattle.pfx_record_redo.proofs.applying.are_flagged.Given as goal

-- what is left decides
abbrev pub invariant-loop-place : goal.invariant-loop-place
invariant-loop-place g l = list_all (λ place. nat_lt place.task l.total && is_flagged g.J.Job.kind l.jobs place) (drop l.place-index l.row) ≡ list_all (λ place. nat_lt place.task l.total && is_flagged g.J.Job.kind l.jobs place) l.row
