use Rattle.pfx_store_image.proofs.Steps as Steps
use Rattle.pfx_store_image.proofs.laws.close_step.Goals as goal

pub returns : goal.returns
returns g c K laws h p s is_open image after known closing is = Steps.close_step K laws h p s is_open image after known closing is
