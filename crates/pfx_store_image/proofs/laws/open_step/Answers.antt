use Rattle.pfx_store_image.proofs.Steps as Steps
use Rattle.pfx_store_image.proofs.laws.open_step.Goals as goal

pub returns : goal.returns
returns g c K laws h p s spelling image after turned read long shut appended is = Steps.open_step K laws h p s spelling image after turned read long shut appended is
