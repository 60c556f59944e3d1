use Rattle.pfx_store_header.proofs.Meanings.{read_a_header}
use Rattle.pfx_store_header.proofs.Written.{read_written, begun_read}
use Rattle.pfx_store_header.proofs.laws.bytes_are_read_as_they_are_written.Goals as goal

pub returns-clause-read : goal.returns-clause-read
returns-clause-read c = read_written

pub returns-clause-exact : goal.returns-clause-exact
returns-clause-exact c = λ v bytes h small. (λ is. (read_a_header v bytes h is, read_written v bytes h small is), λ is. begun_read v bytes h is.0 is.1)
