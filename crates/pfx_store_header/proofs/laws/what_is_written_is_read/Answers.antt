use Rattle.pfx_store_header.proofs.Written.{accepted_header, written_read, header_long}
use Rattle.pfx_store_header.proofs.laws.what_is_written_is_read.Goals as goal

pub returns-clause-header : goal.returns-clause-header
returns-clause-header c = accepted_header

pub returns-clause-read : goal.returns-clause-read
returns-clause-read c = written_read

pub returns-clause-long : goal.returns-clause-long
returns-clause-long c = header_long
