use Rattle.pfx_store_image.proofs.Recovers.{finds, recovers}
use Rattle.pfx_store_image.proofs.laws.store_is_recovered.Goals as goal

pub returns-clause-found : goal.returns-clause-found
returns-clause-found g c K laws h p s image is = finds K laws h image p s is

pub returns-clause-state : goal.returns-clause-state
returns-clause-state g c K laws h p s image is = recovers K laws h image p s is
