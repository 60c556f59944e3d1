use Rattle.pfx_store_header.proofs.Alone.{alone}
use Rattle.pfx_store_header.proofs.laws.header_is_read_alone.Goals as goal

pub returns : goal.returns
returns c = alone
