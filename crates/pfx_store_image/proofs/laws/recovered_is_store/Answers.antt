use Rattle.pfx_store_image.specs.Recovery.{found_of}
use Rattle.pfx_store_image.proofs.Stands.{found_stands, stands}
use Rattle.pfx_store_image.proofs.laws.recovered_is_store.Goals as goal

pub returns-clause-found : goal.returns-clause-found
returns-clause-found g c K laws h p s image is = found_stands K laws (found_of h p s) image is

pub returns-clause-state : goal.returns-clause-state
returns-clause-state g c K laws s image is = stands K laws s image is
