-- Where the gate behind a log stands.
use Rattle.std.proofs.Common.{◌<◌, ◌∷◌, ℕ, List, length, ap, arith, length-append}
use Rattle.pfx_log.specs.Holding.{Holds, IsEnd}
use Rattle.pfx_log.specs.Logs.{Log, log_bytes}
use Rattle.pfx_log.specs.declared.place.LogPlace.{LogPlace}

pub inside_of : (x : List ℕ) (l : Log) (place : LogPlace) → Holds x l → IsEnd l place → place.at < length x
inside_of x l place holds end = omega (arith, end.at, ap length holds.stands.whole, length-append (log_bytes l) (holds.stands.gate ∷ holds.stands.rest))
