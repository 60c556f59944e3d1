use Rattle.std.proofs.Common.{◌≡◌, ◌≤◌, ◌+◌, ◌∙◌, ℕ, sym, ap, arith, rules, not}
use Rattle.pfx_store_image.specs.Layout.{file_len, segment_end}
use Rattle.pfx_store_image.specs.Recovery.{segment_begun, walk_segment}
use Rattle.pfx_store_image.proofs.Backs.{segment_of}
use Rattle.pfx_store_image.proofs.Stages.{from_frames_one, from_frames_two, from_state_as, from_segment_as}
use Rattle.pfx_store_recover.specs.Choosing.{IsSegment}
use Rattle.pfx_store_recover.specs.Finding.{IsFound}
use Rattle.pfx_store_recover.specs.Walking.{IsWalk, frames_of}
use Rattle.pfx_store_recover.proofs.Giving.{gives_handed, gives_as}
use Rattle.pfx_store_recover.proofs.Looking.{kept_after, looks_then}
use Rattle.pfx_store_recover.proofs.Stages.{follows_as, frames_on, state_is, segment_is, walk_same}
use Rattle.pfx_store_recover.proofs.reading.read_segments.Goals as goal

pub returns-in_err-segment : goal.returns-in_err-segment
returns-in_err-segment g c = record {
  call = record { looks = c.find_segment.ensures.call.looks; device = search rules };
  usable = search rules;
  exact = λ bytes kept in_area.
      let K = g.F.Format.codec in
      let file = c.args.file.now in
      gives_handed (IsSegment K file.header bytes) (λ r. IsFound K file.header bytes r.places r.state r.middle) _ _ _ _ c.in_err-segment.field-0.0 c.from_residual.result
      (state_is K file.header bytes c.args.base.area.second c.args.base.state)
      (ap (λ (k : ℕ). segment_begun K file.header bytes (k + 1)) (sym c.number-number.ensures))
      (c.in_err-segment.ensures.exact bytes kept) c.from_residual.ensures.1;
}

pub returns-in_err-walked : goal.returns-in_err-walked
returns-in_err-walked g c = record {
  call = record { looks = looks_then _ _ _ c.find_segment.ensures.call.looks c.read_frames.ensures.call.looks; device = search rules };
  usable = search rules;
  exact = λ bytes kept in_area.
      let K = g.F.Format.codec in
      let file = c.args.file.now in
      let in_segment = c.in_ok-segment.ensures.exact bytes kept in
      let b = c.in_ok-segment.segment.second in
      let begun = ap (λ (k : ℕ). segment_begun K file.header bytes (k + 1)) (sym c.number-number.ensures) ∙ in_segment.chosen in
      let at = c.segment_at-at.ensures.at _ file.sized in
      let end : c.segment_at-at.result + file.sizes.segment ≡ segment_end (K.layout file.header) b = omega (arith, at, file.sized.segment) in
      let long : c.segment_at-at.result + file.sizes.segment ≤ file_len (K.layout file.header) = omega (arith, c.segment_at-at.ensures.inside, file.sized.head, file.sized.body, file.sized.segment) in
      gives_handed (λ w. IsWalk (frames_of w) w.last) (λ r. IsFound K file.header bytes r.places r.state r.middle) _ _ _ _ c.in_err-walked.field-0.0 c.from_residual-in_err-walked.result
      (from_state_as K file.header bytes c.args.base.area.second c.args.base.state b begun ∙ segment_is K file.header bytes c.args.base.area.second c.args.base.state b)
      (ap (λ (k : ℕ). walk_segment K file.header bytes k b) (sym c.number-number.ensures) ∙ walk_same K file.header bytes b _ _ _ at end)
      (c.in_err-walked.ensures.exact bytes (kept_after bytes _ _ c.find_segment.ensures.call.looks kept) _ long) c.from_residual-in_err-walked.ensures.1;
}

pub returns-then-not-goes_on : goal.returns-then-not-goes_on
returns-then-not-goes_on g c = record {
  call = record { looks = looks_then _ _ _ c.find_segment.ensures.call.looks c.read_frames.ensures.call.looks; device = search rules };
  usable = search rules;
  exact = λ bytes kept in_area.
      let K = g.F.Format.codec in
      let file = c.args.file.now in
      let in_segment = c.in_ok-segment.ensures.exact bytes kept in
      let b = c.in_ok-segment.segment.second in
      let begun = ap (λ (k : ℕ). segment_begun K file.header bytes (k + 1)) (sym c.number-number.ensures) ∙ in_segment.chosen in
      let first_at = c.segment_at-at.ensures.at _ file.sized in
      let first_end : c.segment_at-at.result + file.sizes.segment ≡ segment_end (K.layout file.header) b = omega (arith, first_at, file.sized.segment) in
      let first_long : c.segment_at-at.result + file.sizes.segment ≤ file_len (K.layout file.header) = omega (arith, c.segment_at-at.ensures.inside, file.sized.head, file.sized.body, file.sized.segment) in
      let then = kept_after bytes _ _ c.find_segment.ensures.call.looks kept in
      let walked = c.in_ok-walked.ensures.exact bytes then _ first_long in
      let walk = ap (λ (k : ℕ). walk_segment K file.header bytes k b) (sym c.number-number.ensures) ∙ walk_same K file.header bytes b _ _ _ first_at first_end ∙ walked.2 in
      let last = c.in_ok-walked.walked.last in
      let so_far = from_state_as K file.header bytes c.args.base.area.second c.args.base.state b begun ∙ from_segment_as K file.header bytes c.args.base.area.second c.args.base.state b _ _ walk in
      let ends = follows_as K file.header bytes c.in_ok-segment.segment _ last in_segment ∙ sym c.goes_on.ensures ∙ c.if-not-goes_on.true in
      gives_as (λ r. IsFound K file.header bytes r.places r.state r.middle) _ _ c.read_single.result
      (so_far ∙ from_frames_one K file.header bytes c.args.base.area.second c.args.base.state b walked.0 last ends)
      (c.read_single.ensures.exact bytes in_area _ in_segment walked.0 walked.1);
}

pub returns-in_err-next : goal.returns-in_err-next
returns-in_err-next g c = record {
  call = record { looks = looks_then _ _ _ c.find_segment.ensures.call.looks (looks_then _ _ _ c.read_frames.ensures.call.looks c.read_frames-2.ensures.call.looks); device = search rules };
  usable = search rules;
  exact = λ bytes kept in_area.
      let K = g.F.Format.codec in
      let file = c.args.file.now in
      let in_segment = c.in_ok-segment.ensures.exact bytes kept in
      let b = c.in_ok-segment.segment.second in
      let begun = ap (λ (k : ℕ). segment_begun K file.header bytes (k + 1)) (sym c.number-number.ensures) ∙ in_segment.chosen in
      let first_at = c.segment_at-at.ensures.at _ file.sized in
      let first_end : c.segment_at-at.result + file.sizes.segment ≡ segment_end (K.layout file.header) b = omega (arith, first_at, file.sized.segment) in
      let first_long : c.segment_at-at.result + file.sizes.segment ≤ file_len (K.layout file.header) = omega (arith, c.segment_at-at.ensures.inside, file.sized.head, file.sized.body, file.sized.segment) in
      let then = kept_after bytes _ _ c.find_segment.ensures.call.looks kept in
      let walked = c.in_ok-walked.ensures.exact bytes then _ first_long in
      let walk = ap (λ (k : ℕ). walk_segment K file.header bytes k b) (sym c.number-number.ensures) ∙ walk_same K file.header bytes b _ _ _ first_at first_end ∙ walked.2 in
      let last = c.in_ok-walked.walked.last in
      let so_far = from_state_as K file.header bytes c.args.base.area.second c.args.base.state b begun ∙ from_segment_as K file.header bytes c.args.base.area.second c.args.base.state b _ _ walk in
      let on = follows_as K file.header bytes c.in_ok-segment.segment _ last in_segment ∙ sym c.goes_on.ensures ∙ c.if-not-goes_on.false in
      let at = c.segment_at-at-2.ensures.at _ file.sized in
      let end : c.segment_at-at-2.result + file.sizes.segment ≡ segment_end (K.layout file.header) (not b) = omega (arith, at, file.sized.segment) in
      let long : c.segment_at-at-2.result + file.sizes.segment ≤ file_len (K.layout file.header) = omega (arith, c.segment_at-at-2.ensures.inside, file.sized.head, file.sized.body, file.sized.segment) in
      let later = kept_after bytes _ _ c.read_frames.ensures.call.looks then in
      gives_handed (λ w. IsWalk (frames_of w) w.last) (λ r. IsFound K file.header bytes r.places r.state r.middle) _ _ _ _ c.in_err-next.field-0.0 c.from_residual-in_err-next.result
      (so_far ∙ frames_on K file.header bytes c.args.base.area.second c.args.base.state b walked.0 last on)
      (walk_same K file.header bytes (not b) last _ _ at end)
      (c.in_err-next.ensures.exact bytes later _ long) c.from_residual-in_err-next.ensures.1;
}

pub returns : goal.returns
returns g c = record {
  call = record { looks = looks_then _ _ _ c.find_segment.ensures.call.looks (looks_then _ _ _ c.read_frames.ensures.call.looks c.read_frames-2.ensures.call.looks); device = search rules };
  usable = search rules;
  exact = λ bytes kept in_area.
      let K = g.F.Format.codec in
      let file = c.args.file.now in
      let in_segment = c.in_ok-segment.ensures.exact bytes kept in
      let b = c.in_ok-segment.segment.second in
      let begun = ap (λ (k : ℕ). segment_begun K file.header bytes (k + 1)) (sym c.number-number.ensures) ∙ in_segment.chosen in
      let first_at = c.segment_at-at.ensures.at _ file.sized in
      let first_end : c.segment_at-at.result + file.sizes.segment ≡ segment_end (K.layout file.header) b = omega (arith, first_at, file.sized.segment) in
      let first_long : c.segment_at-at.result + file.sizes.segment ≤ file_len (K.layout file.header) = omega (arith, c.segment_at-at.ensures.inside, file.sized.head, file.sized.body, file.sized.segment) in
      let then = kept_after bytes _ _ c.find_segment.ensures.call.looks kept in
      let walked = c.in_ok-walked.ensures.exact bytes then _ first_long in
      let walk = ap (λ (k : ℕ). walk_segment K file.header bytes k b) (sym c.number-number.ensures) ∙ walk_same K file.header bytes b _ _ _ first_at first_end ∙ walked.2 in
      let last = c.in_ok-walked.walked.last in
      let so_far = from_state_as K file.header bytes c.args.base.area.second c.args.base.state b begun ∙ from_segment_as K file.header bytes c.args.base.area.second c.args.base.state b _ _ walk in
      let on = follows_as K file.header bytes c.in_ok-segment.segment _ last in_segment ∙ sym c.goes_on.ensures ∙ c.if-not-goes_on.false in
      let at = c.segment_at-at-2.ensures.at _ file.sized in
      let end : c.segment_at-at-2.result + file.sizes.segment ≡ segment_end (K.layout file.header) (not b) = omega (arith, at, file.sized.segment) in
      let long : c.segment_at-at-2.result + file.sizes.segment ≤ file_len (K.layout file.header) = omega (arith, c.segment_at-at-2.ensures.inside, file.sized.head, file.sized.body, file.sized.segment) in
      let later = kept_after bytes _ _ c.read_frames.ensures.call.looks then in
      let next = c.in_ok-next.ensures.exact bytes later _ long in
      let other_walk = walk_same K file.header bytes (not b) last _ _ at end ∙ next.2 in
      gives_as (λ r. IsFound K file.header bytes r.places r.state r.middle) _ _ c.read_double.result
      (so_far ∙ from_frames_two K file.header bytes c.args.base.area.second c.args.base.state b walked.0 last _ _ on other_walk)
      (c.read_double.ensures.exact bytes in_area (segment_of K file.header bytes _ b in_segment.chosen).0 walked.0 next.0 walked.1 next.1);
}
