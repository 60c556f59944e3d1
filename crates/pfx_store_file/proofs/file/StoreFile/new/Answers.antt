use Rattle.pfx_store_file.proofs.Keeping.{open_holds}
use Rattle.pfx_store_file.proofs.file.StoreFile.new.Goals as goal

pub returns-clause-holds : goal.returns-clause-holds
returns-clause-holds g c K laws h p s honest only is are begun area_gate segment_gate spelling = open_holds K laws h c.args.places p s (g.D.Disk.view c.args.disk) honest only is are begun area_gate segment_gate spelling
