use Rattle.std.proofs.Common.{◌∙◌, ◌==◌, ap, refl, rules}
use Rattle.pfx_disk.specs.declared.gates.TheConstants.{GATE_OPEN}
use Rattle.pfx_store_recover.proofs.Looking.{looks_of}
use Rattle.pfx_store_recover.proofs.Numbers.{first_is, gate_read}
use Rattle.pfx_store_recover.proofs.gates.read_gate.Goals as goal

pub returns : goal.returns
returns g c = record {
  call = record { looks = looks_of _ _ c.read.result c.read.ensures.time c.read.ensures.honest c.read.ensures.leaves; failed = search rules };
  read = λ bytes kept. record {
    gate = ap (λ k. k == GATE_OPEN) (gate_read c.args.at c.read.new.out (g.D.Disk.view c.args.disk.now).contents bytes kept.contents (c.in_ok-read.ensures.bytes kept.honest));
    behind =
        c.copy_from_slice.ensures.after
        ∙ first_is c.args.at c.read.new.out (g.D.Disk.view c.args.disk.now).contents bytes kept.contents (c.in_ok-read.ensures.bytes kept.honest);
  };
}

pub returns-in_err-read : goal.returns-in_err-read
returns-in_err-read g c = record {
  call = record {
    looks = looks_of _ _ c.read.result c.read.ensures.time c.read.ensures.honest c.read.ensures.leaves;
    failed = λ is. c.in_err-read.ensures.time.err refl;
  };
  read = search rules;
}
