use Rattle.pfx_store_image.proofs.NewFiles.{new_store}
use Rattle.pfx_store_image.proofs.laws.new_file_is_store.Goals as goal

pub returns : goal.returns
returns g c K h s image is = new_store K h s image is
