use Rattle.std.proofs.Common.{arith, rules}
use Rattle.std.proofs.lemmas.Grind.{common_steps}
use Rattle.pfx_store_recover.proofs.Looking.{looks_of}
use Rattle.pfx_store_recover.proofs.areas.read_area.Goals as goal

pub returns-in-Some : goal.returns-in-Some
returns-in-Some g c = record {
  reads = record {
    call = record { looks = looks_of _ _ c.read.result c.read.ensures.time c.read.ensures.honest c.read.ensures.leaves; device = search rules };
    exact = λ bytes kept. grind (arith, common_steps);
  };
  state = grind (arith, common_steps);
}

pub returns : goal.returns
returns g c = record {
  reads = record {
    call = record { looks = looks_of _ _ c.read.result c.read.ensures.time c.read.ensures.honest c.read.ensures.leaves; device = search rules };
    exact = λ bytes kept. grind (arith, common_steps);
  };
  state = search rules;
}
