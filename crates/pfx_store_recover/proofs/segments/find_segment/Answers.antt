use Rattle.std.proofs.Common.{◌∙◌, ap, ap₂, cond, sym, refl, rules, Ok}
use Rattle.pfx_store_image.specs.Recovery.{begun}
use Rattle.pfx_store_recover.specs.Choosing.{IsSegment}
use Rattle.pfx_store_recover.specs.declared.choosing.Numbered.{Numbered}
use Rattle.pfx_store_recover.proofs.Giving.{gives_refused}
use Rattle.pfx_store_recover.proofs.Looking.{kept_after, looks_then}
use Rattle.pfx_store_recover.proofs.Numbers.{segment_begun_by, segment_open_by, segment_number_by}
use Rattle.pfx_store_recover.proofs.segments.find_segment.Goals as goal

pub returns : goal.returns
returns g c = record {
  call =
      record {
        looks = looks_then _ _ _ c.read_gate.ensures.call.looks c.read_gate-2.ensures.call.looks;
        device = search rules;
      };
  exact = λ bytes kept.
      let K = g.F.Format.codec in
      let file = c.args.file.now in
      let then = kept_after bytes _ _ c.read_gate.ensures.call.looks kept in
      let low = c.segment_at-low.ensures.at _ file.sized in
      let high = c.segment_at-high.ensures.at _ file.sized in
      let low_open = (c.in_ok-low_gate.ensures.read bytes kept).gate in
      let high_open = (c.in_ok-high_gate.ensures.read bytes then).gate in
      let low_bytes = (c.in_ok-low_gate.ensures.read bytes kept).behind in
      let high_bytes = (c.in_ok-high_gate.ensures.read bytes then).behind in
      let same = segment_begun_by K file.header bytes c.args.number _ _ _ _ _ _ _ _ low high low_open high_open low_bytes high_bytes c.segment_number.ensures c.segment_number-2.ensures in
      record {
        chosen = sym same ∙ sym (ap₂ (λ (x y : Numbered). begun x.at y.at x.open y.open c.args.number x.number y.number) c.numbered-first.ensures c.numbered-second.ensures) ∙ c.in_ok-is_second.ensures ∙ ap Ok (sym c.of.ensures.chosen.second);
        other = segment_open_by K file.header bytes _ _ _ _ _ _ _ low high low_open high_open c.of.ensures.chosen.second (c.of.ensures.chosen.open_other ∙ ap₂ (λ (x y : Numbered). cond c.in_ok-is_second.is_second x.open y.open) c.numbered-first.ensures c.numbered-second.ensures);
        number = segment_number_by K file.header bytes _ _ _ _ _ _ _ _ _ low high low_bytes high_bytes c.segment_number.ensures c.segment_number-2.ensures c.of.ensures.chosen.second (c.of.ensures.chosen.number ∙ ap₂ (λ (x y : Numbered). cond c.in_ok-is_second.is_second x.number y.number) c.numbered-first.ensures c.numbered-second.ensures);
      };
}

pub returns-in_err-is_second : goal.returns-in_err-is_second
returns-in_err-is_second g c = record {
  call = record { looks = looks_then _ _ _ c.read_gate.ensures.call.looks c.read_gate-2.ensures.call.looks; device = search rules };
  exact = λ bytes kept.
      let K = g.F.Format.codec in
      let file = c.args.file.now in
      let then = kept_after bytes _ _ c.read_gate.ensures.call.looks kept in
      let same = segment_begun_by K file.header bytes c.args.number _ _ _ _ _ _ _ _
      (c.segment_at-low.ensures.at _ file.sized) (c.segment_at-high.ensures.at _ file.sized) (c.in_ok-low_gate.ensures.read bytes kept).gate (c.in_ok-high_gate.ensures.read bytes then).gate
      (c.in_ok-low_gate.ensures.read bytes kept).behind (c.in_ok-high_gate.ensures.read bytes then).behind c.segment_number.ensures c.segment_number-2.ensures in
      gives_refused (IsSegment K file.header bytes) _ _ _ (sym same ∙ sym (ap₂ (λ (x y : Numbered). begun x.at y.at x.open y.open c.args.number x.number y.number) c.numbered-first.ensures c.numbered-second.ensures) ∙ c.in_err-is_second.ensures) c.from_residual-in_err-is_second.ensures.1;
}

pub returns-in_err-low_gate : goal.returns-in_err-low_gate
returns-in_err-low_gate g c = record {
  call = record { looks = c.read_gate.ensures.call.looks; device = λ is. c.in_err-low_gate.ensures.call.failed refl };
  exact = search rules;
}
