use Rattle.pfx_store_image.proofs.Refused.{refused}
use Rattle.pfx_store_image.proofs.Refuses.{refuses}
use Rattle.pfx_store_image.proofs.laws.refused_for_a_cause.Goals as goal

pub returns : goal.returns
returns g c K image refusal = (λ is. refused K image refusal is, λ is. refuses K image refusal is)
