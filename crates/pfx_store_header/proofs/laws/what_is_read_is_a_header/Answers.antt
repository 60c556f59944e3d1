use Rattle.pfx_store_header.proofs.Meanings.{head_inside, read_filled, read_a_header}
use Rattle.pfx_store_header.proofs.laws.what_is_read_is_a_header.Goals as goal

pub returns-clause-whole : goal.returns-clause-whole
returns-clause-whole c = head_inside

pub returns-clause-filled : goal.returns-clause-filled
returns-clause-filled c = read_filled

pub returns-clause-header : goal.returns-clause-header
returns-clause-header c = read_a_header
