use Rattle.std.proofs.Common.{refl, subst, true}
use Rattle.pfx_disk.specs.Disk.{Leaves, Same}
use Rattle.pfx_disk_chronicle.specs.Chart.{noted_view}
use Rattle.pfx_disk_chronicle.proofs.Charts.{lost}
use Rattle.pfx_disk_chronicle.proofs.chronicle.Chronicle.refuse.Goals as goal

pub returns-then-is_live-clause-leaves : goal.returns-then-is_live-clause-leaves
returns-then-is_live-clause-leaves g c h =
    let i = c.self.inside in
    subst (λ d. Leaves Same (noted_view g.B.Charted.held g.B.Charted.image g.B.Charted.clock g.B.Charted.failures d) (noted_view g.B.Charted.held g.B.Charted.image g.B.Charted.clock g.B.Charted.failures (record { disk = c.len.new.self; made = i.past; late = 1; failed = true }))) c.self.view_is
    (lost g.B.Charted.held g.B.Charted.image g.B.Charted.clock g.B.Charted.failures i.past i.past i.late 1 i.failed true h refl)

pub returns-else-is_live-clause-leaves : goal.returns-else-is_live-clause-leaves
returns-else-is_live-clause-leaves g c h =
    let d = c.args.self.now in
    lost g.B.Charted.held g.B.Charted.image g.B.Charted.clock g.B.Charted.failures d.made d.made d.late d.late d.failed d.failed h refl
