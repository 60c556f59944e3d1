use Rattle.std.proofs.Common.{rules, ◌≡◌, ◌∙◌, ℕ, List, ◌<◌, length, get_or, ap, subst, arith}
use Rattle.pfx_disk.specs.declared.gates.TheConstants.{GATE_OPEN}
use Rattle.std.specs.Prelude.{◌↔◌, IsTrue, ◌==◌}
use Rattle.pfx_log.proofs.Looks.{byte_is, looks_of}
use Rattle.pfx_log.proofs.looking.is_open.Goals as goal

pub returns : goal.returns
returns g c = record {
  looks = looks_of _ _ c.read.result c.read.ensures.time c.read.ensures.honest c.read.ensures.leaves;
  device = search rules;
  exact = λ bytes kept.
      let out = c.read.new.out in
      let view = g.D.Disk.view c.args.disk.now in
      let inside : c.args.at < length view.contents = (let r = c.requires kept.honest in omega (arith, r)) in
      let is : get_or out 0 0 ≡ get_or bytes c.args.at 0 = byte_is c.args.at out view.contents inside (c.in_ok-read.ensures.bytes kept.honest) ∙ ap (λ (l : List ℕ). get_or l c.args.at 0) kept.contents in
      subst (λ (n : ℕ). IsTrue (get_or out 0 0 == GATE_OPEN) ↔ (n ≡ GATE_OPEN)) is (search rules);
}
