use Rattle.pfx_store_image.proofs.NewFiles.{made_new}
use Rattle.pfx_store_image.proofs.laws.bytes_of_new_file.Goals as goal

pub returns : goal.returns
returns g c K laws h s head body first are = made_new K laws h s head body first are
