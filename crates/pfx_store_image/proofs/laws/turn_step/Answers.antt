use Rattle.pfx_store_image.proofs.Steps as Steps
use Rattle.pfx_store_image.proofs.laws.turn_step.Goals as goal

pub returns : goal.returns
returns g c K laws h p s is_open bytes image after single some nine number shut known prepared is = Steps.turn_step K laws h p s is_open bytes image after single some nine number shut known prepared is
