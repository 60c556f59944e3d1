use Rattle.pfx_store_engine.proofs.Serving.{made_endless, survived_endless}
use Rattle.pfx_store_engine.proofs.laws.stores_are_endless.Goals as goal

pub returns-clause-made : goal.returns-clause-made
returns-clause-made g c = λ set segment filled s is. made_endless set segment filled s is

pub returns-clause-survived : goal.returns-clause-survived
returns-clause-survived g c = λ set segment filled H all n image v s is. survived_endless g.J.Job.kind g.met.J.Job.laws set segment filled H all n image v s is
