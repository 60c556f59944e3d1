use Rattle.pfx_store_create.proofs.GatedToys.{refuses_unmade, is_made}
use Rattle.pfx_store_create.proofs.laws.a_new_file_can_be_made.Goals as goal

pub returns-clause-refuses : goal.returns-clause-refuses
returns-clause-refuses c = refuses_unmade

pub returns-clause-made : goal.returns-clause-made
returns-clause-made c = is_made c.toy_keeps_the_laws.ensures
