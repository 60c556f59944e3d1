use Rattle.pfx_store_image.proofs.Steps as Steps
use Rattle.pfx_store_image.proofs.laws.piece_step.Goals as goal

pub returns : goal.returns
returns g c K laws h p s at n image after low high shut torn is = Steps.piece_step K laws h p s at n image after low high shut torn is
