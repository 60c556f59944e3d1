use Rattle.std.proofs.Common.{◌∙◌, ℕ, sym, subst, ap, Err, rules}
use Rattle.pfx_store_image.specs.Refusals as means
use Rattle.pfx_store_recover.specs.Answers.{IsRead}
use Rattle.pfx_store_recover.specs.Finding.{IsFound}
use Rattle.pfx_store_recover.specs.Walking.{Fill}
use Rattle.pfx_store_recover.proofs.Giving.{gives_handed}
use Rattle.pfx_store_recover.proofs.Stages.{replay_same, one_is, one_else, passed_as, single_found}
use Rattle.pfx_store_recover.proofs.contents.read_single.Goals as goal

pub returns-in_err-reached : goal.returns-in_err-reached
returns-in_err-reached g c = record {
  device = search rules;
  usable = search rules;
  exact = λ bytes in_area n in_segment frames fill.
      let K = g.F.Format.codec in
      let file = c.args.file.now in
      let b = c.args.segment.second in
      let run = replay_same K file.header bytes b c.args.base.state _ frames (c.segment_at-first.ensures.at _ file.sized) in
      gives_handed IsRead (λ r. IsFound K file.header bytes r.places r.state r.middle) _ _ _ _ c.in_err-reached.field-0.0 c.from_residual.result
      (one_is K file.header bytes c.args.base.area.second c.args.base.state b frames c.args.walked.last) run
      (c.in_err-reached.ensures.exact frames (subst (λ l. Fill frames l) (sym c.frames.ensures.value) fill)) c.from_residual.ensures.1;
}

pub returns-then-not-is_passed : goal.returns-then-not-is_passed
returns-then-not-is_passed g c = record {
  device = search rules;
  usable = search rules;
  exact = λ bytes in_area n in_segment frames fill.
      let K = g.F.Format.codec in
      let file = c.args.file.now in
      let b = c.args.segment.second in
      let run = replay_same K file.header bytes b c.args.base.state _ frames (c.segment_at-first.ensures.at _ file.sized) ∙ c.in_ok-reached.ensures.exact frames (subst (λ l. Fill frames l) (sym c.frames.ensures.value) fill) in
      let past = passed_as K file.header bytes c.args.segment _ c.args.walked.last in_segment ∙ sym c.is_passed.ensures ∙ c.if-not-is_passed.true in
      one_else K file.header bytes c.args.base.area.second c.args.base.state b frames c.args.walked.last c.in_ok-reached.reached run past
      ∙ ap (λ (at : ℕ). Err (means.Damaged at means.Segment)) (sym (c.segment_at.ensures.at _ file.sized));
}

pub returns : goal.returns
returns g c = record {
  device = search rules;
  usable = search rules;
  exact = λ bytes in_area n in_segment frames fill.
      let K = g.F.Format.codec in
      let file = c.args.file.now in
      let b = c.args.segment.second in
      let run = replay_same K file.header bytes b c.args.base.state _ frames (c.segment_at-first.ensures.at _ file.sized) ∙ c.in_ok-reached.ensures.exact frames (subst (λ l. Fill frames l) (sym c.frames.ensures.value) fill) in
      let past = passed_as K file.header bytes c.args.segment _ c.args.walked.last in_segment ∙ sym c.is_passed.ensures ∙ c.if-not-is_passed.false in
      single_found K file.header bytes c.args.base.area c.args.segment _ _ c.args.base.state c.in_ok-reached.reached c.args.walked frames c.places_of.result in_area in_segment c.requires.stand fill c.places_of.ensures run past;
}
