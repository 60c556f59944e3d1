use Rattle.std.proofs.Common.{◌≤◌, ◌∙◌, ap, ap₂, cond, sym, arith, refl, rules, Ok}
use Rattle.pfx_store_image.specs.Recovery.{taken}
use Rattle.pfx_store_recover.specs.Choosing.{IsArea}
use Rattle.pfx_store_recover.specs.declared.choosing.Numbered.{Numbered}
use Rattle.pfx_store_recover.proofs.Giving.{gives_refused}
use Rattle.pfx_store_recover.proofs.Looking.{kept_after, looks_then}
use Rattle.pfx_store_recover.proofs.Numbers.{area_taken_by, area_open_by}
use Rattle.pfx_store_recover.proofs.areas.take_area.Goals as goal

pub returns : goal.returns
returns g c = record {
  call =
      record {
        looks = looks_then _ _ _ c.read_gate.ensures.call.looks c.read_gate-2.ensures.call.looks;
        device = search rules;
      };
  exact = λ bytes kept.
      let K = g.F.Format.codec in
      let file = c.args.file.now in
      let then = kept_after bytes _ _ c.read_gate.ensures.call.looks kept in
      let long : 8 ≤ (K.layout file.header).body = omega (arith, file.number, file.sized.body) in
      let low = c.area_at-low.ensures.at _ file.sized in
      let high = c.area_at-high.ensures.at _ file.sized in
      let low_open = (c.in_ok-low_gate.ensures.read bytes kept).gate in
      let high_open = (c.in_ok-high_gate.ensures.read bytes then).gate in
      let same = area_taken_by K file.header bytes g.F.Format.fits _ g.met.F.Format.bounds long _ _ _ _ _ _ _ _
      low high low_open high_open
      (c.in_ok-low_gate.ensures.read bytes kept).behind (c.in_ok-high_gate.ensures.read bytes then).behind c.area_number.ensures c.area_number-2.ensures in
      record {
        chosen = sym same ∙ sym (ap₂ (λ (x y : Numbered). taken x.at y.at x.open y.open x.number y.number) c.numbered-first.ensures c.numbered-second.ensures) ∙ c.in_ok-is_second.ensures ∙ ap Ok (sym c.of.ensures.chosen.second);
        other = area_open_by K file.header bytes _ _ _ _ _ _ _ low high low_open high_open c.of.ensures.chosen.second (c.of.ensures.chosen.open_other ∙ ap₂ (λ (x y : Numbered). cond c.in_ok-is_second.is_second x.open y.open) c.numbered-first.ensures c.numbered-second.ensures);
      };
}

pub returns-in_err-is_second : goal.returns-in_err-is_second
returns-in_err-is_second g c = record {
  call = record { looks = looks_then _ _ _ c.read_gate.ensures.call.looks c.read_gate-2.ensures.call.looks; device = search rules };
  exact = λ bytes kept.
      let K = g.F.Format.codec in
      let file = c.args.file.now in
      let then = kept_after bytes _ _ c.read_gate.ensures.call.looks kept in
      let long : 8 ≤ (K.layout file.header).body = omega (arith, file.number, file.sized.body) in
      let same = area_taken_by K file.header bytes g.F.Format.fits _ g.met.F.Format.bounds long _ _ _ _ _ _ _ _
      (c.area_at-low.ensures.at _ file.sized) (c.area_at-high.ensures.at _ file.sized) (c.in_ok-low_gate.ensures.read bytes kept).gate (c.in_ok-high_gate.ensures.read bytes then).gate
      (c.in_ok-low_gate.ensures.read bytes kept).behind (c.in_ok-high_gate.ensures.read bytes then).behind c.area_number.ensures c.area_number-2.ensures in
      gives_refused (IsArea K file.header bytes) _ _ _ (sym same ∙ sym (ap₂ (λ (x y : Numbered). taken x.at y.at x.open y.open x.number y.number) c.numbered-first.ensures c.numbered-second.ensures) ∙ c.in_err-is_second.ensures) c.from_residual-in_err-is_second.ensures.1;
}

pub returns-in_err-low_gate : goal.returns-in_err-low_gate
returns-in_err-low_gate g c = record {
  call = record { looks = c.read_gate.ensures.call.looks; device = λ is. c.in_err-low_gate.ensures.call.failed refl };
  exact = search rules;
}
