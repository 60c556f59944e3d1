use Rattle.std.proofs.Common.{subst}
use Rattle.pfx_store_engine.specs.Promises.{IsPlace}
use Rattle.pfx_front_engine.proofs.engine.FrontEngineEngine.place.Goals as goal

pub returns-clause-copies : goal.returns-clause-copies
returns-clause-copies g c = subst (λ s. IsPlace s c.args.task c.place_of.result) c.in_ok-copy.ensures.copies c.place_of.ensures
