use Rattle.std.proofs.Common.{◌∙◌, refl, ap, rules}
use Rattle.pfx_store_image.specs.Recovery.{area_taken, from_area, from_state, on_ok}
use Rattle.pfx_store_recover.specs.Answers.{IsRead}
use Rattle.pfx_store_recover.specs.Choosing.{IsArea}
use Rattle.pfx_store_recover.specs.Finding.{IsFound}
use Rattle.pfx_store_recover.proofs.Giving.{gives_handed, gives_as}
use Rattle.pfx_store_recover.proofs.Looking.{kept_after, looks_then, reads_handed}
use Rattle.pfx_store_recover.proofs.Stages.{area_is}
use Rattle.pfx_store_recover.proofs.reading.read_contents.Goals as goal

pub returns-in_err-area : goal.returns-in_err-area
returns-in_err-area g c = record {
  call = reads_handed _ _ c.in_err-area.field-0.0 c.from_residual.result c.in_err-area.ensures.call c.from_residual.ensures.1;
  usable = search rules;
  exact = λ bytes kept.
      let K = g.F.Format.codec in
      let file = c.args.file.now in
      gives_handed (IsArea K file.header bytes) (λ r. IsFound K file.header bytes r.places r.state r.middle) (area_taken K file.header bytes) _ (from_area K file.header bytes) _ c.in_err-area.field-0.0 c.from_residual.result
      refl refl (c.in_err-area.ensures.exact bytes kept) c.from_residual.ensures.1;
}

pub returns-in_err-state : goal.returns-in_err-state
returns-in_err-state g c = record {
  call = record { looks = looks_then _ _ _ c.take_area.ensures.call.looks c.read_area.ensures.reads.call.looks; device = search rules };
  usable = search rules;
  exact = λ bytes kept.
      let K = g.F.Format.codec in
      let file = c.args.file.now in
      let in_area = c.in_ok-area.ensures.exact bytes kept in
      gives_handed IsRead (λ r. IsFound K file.header bytes r.places r.state r.middle) _ _ _ _ c.in_err-state.field-0.0 c.from_residual-in_err-state.result
      (ap (λ r. on_ok r (from_area K file.header bytes)) in_area.chosen ∙ area_is K file.header bytes c.in_ok-area.area.second) refl
      (c.in_err-state.ensures.reads.exact bytes (kept_after bytes _ _ c.take_area.ensures.call.looks kept)) c.from_residual-in_err-state.ensures.1;
}

pub returns : goal.returns
returns g c = record {
  call = record { looks = looks_then _ _ _ c.take_area.ensures.call.looks (looks_then _ _ _ c.read_area.ensures.reads.call.looks c.read_segments.ensures.call.looks); device = search rules };
  usable = search rules;
  exact = λ bytes kept.
      let K = g.F.Format.codec in
      let file = c.args.file.now in
      let in_area = c.in_ok-area.ensures.exact bytes kept in
      let area = c.in_ok-area.area.second in
      let then = kept_after bytes _ _ c.take_area.ensures.call.looks kept in
      let read = c.in_ok-state.ensures.reads.exact bytes then in
      gives_as (λ r. IsFound K file.header bytes r.places r.state r.middle) _ _ c.read_segments.result
      (ap (λ r. on_ok r (from_area K file.header bytes)) in_area.chosen ∙ area_is K file.header bytes area ∙ ap (λ r. on_ok r (λ s. from_state K file.header bytes area s)) read)
      (c.read_segments.ensures.exact bytes (kept_after bytes _ _ c.read_area.ensures.reads.call.looks then) in_area);
}
