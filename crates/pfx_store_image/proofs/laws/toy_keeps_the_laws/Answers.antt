use Rattle.pfx_store_image.proofs.ToyLaws as Toy
use Rattle.pfx_store_image.proofs.laws.toy_keeps_the_laws.Goals as goal

pub returns : goal.returns
returns c = Toy.toy_meets
