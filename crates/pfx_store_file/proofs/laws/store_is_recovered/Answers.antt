use Rattle.pfx_store_image.proofs.Recovers.{recovers}
use Rattle.pfx_store_file.proofs.laws.store_is_recovered.Goals as goal

pub returns : goal.returns
returns g c K laws h p s spelling holds image now = recovers K laws h image p s (holds.images image now).store
