use Rattle.pfx_store.proofs.Grouping.{keeps_groups, to_frames, to_groups}
use Rattle.pfx_store.proofs.laws.groups_survive_as_frames.Goals as goal

pub returns-clause-survives : goal.returns-clause-survives
returns-clause-survives g c start groups n image state all small =
    (λ v. to_frames g.J.Job.kind g.met.J.Job.laws start groups state all small n image v, λ v. to_groups g.J.Job.kind g.met.J.Job.laws start groups state all small n image v)

pub returns-clause-keeps : goal.returns-clause-keeps
returns-clause-keeps g c start groups more old new state all small all_more small_more keeps =
    keeps_groups g.J.Job.kind g.met.J.Job.laws start groups more (g.D.Disk.view old) (g.D.Disk.view new) state all small all_more small_more keeps
