use Rattle.pfx_store_header.proofs.Meanings.{refused_of_header}
use Rattle.pfx_store_header.proofs.laws.what_is_refused_is_of_the_header.Goals as goal

pub returns : goal.returns
returns c = refused_of_header
