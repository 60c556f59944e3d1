use Rattle.std.proofs.Common.{rules}
use Rattle.std.proofs.Common.{◌∷◌, inl}
use Rattle.pfx_disk.specs.declared.gates.TheConstants.{GATE_OPEN}
use Rattle.pfx_store_file.proofs.Keeping.{keeps_none}
use Rattle.pfx_store_file.proofs.file.StoreFile.append.Goals as goal

pub returns-then-self-clause-commits : goal.returns-then-self-clause-commits
returns-then-self-clause-commits g c K laws h p s spelling holds body t pending one =
    record {
      holds = search rules;
      keeps = λ start all run. keeps_none K laws h (g.D.Disk.view c.args.self.now.disk) start all (GATE_OPEN ∷ body);
      acknowledged = search rules;
    }

pub returns-then-not-has_room-clause-commits : goal.returns-then-not-has_room-clause-commits
returns-then-not-has_room-clause-commits g c K laws h p s spelling holds body t pending one =
    record {
      holds = search rules;
      keeps = λ start all run. keeps_none K laws h (g.D.Disk.view c.args.self.now.disk) start all (GATE_OPEN ∷ body);
      acknowledged = search rules;
    }

pub returns-then-self-clause-acts : goal.returns-then-self-clause-acts
returns-then-self-clause-acts g c K f are honest =
    record {
      made = search rules;
      broken_off = search rules;
      between = λ start done follows k image le is. inl is;
    }

pub returns-then-not-has_room-clause-acts : goal.returns-then-not-has_room-clause-acts
returns-then-not-has_room-clause-acts g c K f are honest =
    record {
      made = search rules;
      broken_off = search rules;
      between = λ start done follows k image le is. inl is;
    }
