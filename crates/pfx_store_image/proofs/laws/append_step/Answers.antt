use Rattle.pfx_store_image.proofs.Steps as Steps
use Rattle.pfx_store_image.proofs.laws.append_step.Goals as goal

pub returns : goal.returns
returns g c K laws h p s t body image after fits frame step appended is = Steps.append_step K laws h p s t body image after fits frame step appended is
