use Rattle.pfx_store_image.proofs.Headers.{of_header}
use Rattle.pfx_store_image.proofs.Refused.{refused}
use Rattle.pfx_store_image.proofs.laws.header_is_the_cause.Goals as goal

pub returns : goal.returns
returns g c K laws image refusal is = of_header K laws image refusal (refused K image refusal is)
