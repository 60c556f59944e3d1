use Rattle.std.proofs.Common.{arith}
use Rattle.pfx_store_header.specs.declared.sizes.TheConstants.{HEADER_MOST}
use Rattle.pfx_store_header.proofs.Alone.{enough}
use Rattle.pfx_store_header.proofs.laws.front_is_enough.Goals as goal

pub returns : goal.returns
returns c = λ v bytes. enough v HEADER_MOST bytes (omega arith)
