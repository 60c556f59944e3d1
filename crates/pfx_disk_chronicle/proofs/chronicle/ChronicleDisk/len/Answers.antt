use Rattle.pfx_disk_chronicle.proofs.Charts.{honest_back}
use Rattle.pfx_disk_chronicle.proofs.chronicle.ChronicleDisk.len.Goals as goal

pub returns-clause-honest : goal.returns-clause-honest
returns-clause-honest g c = honest_back g.B.Charted.held g.B.Charted.image g.B.Charted.clock g.B.Charted.failures c.args.self.now c.refuse.new.self
