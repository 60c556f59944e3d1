use Rattle.std.proofs.Common.{◌≤◌, ◌<◌, ◌+◌, ◌++◌, ◌∙◌, length, refl, ap, sym, subst, arith}
use Rattle.pfx_store_format.specs.Format.{layout}
use Rattle.pfx_store_image.specs.Layout.{segment_at}
use Rattle.pfx_segment.specs.Frames.{AreFrames}
use Rattle.pfx_segment.specs.Reading.{views}
use Rattle.pfx_replay.proofs.FrameRuns.{one_run, views_append}
use Rattle.pfx_replay.proofs.file.add_segment.Goals as goal

pub returns-in_ok-append-in-Some : goal.returns-in_ok-append-in-Some
returns-in_ok-append-in-Some g c frames are =
    let h = c.args.header.now in
    let L = layout h in
    let image = c.args.image.now in
    let sized = c.sizes-sizes.ensures.sizes in
    let place = c.segment_at-place.result in
    let len = c.sizes-sizes.result.segment in
    let at = c.segment_at-place.ensures.at L sized in
    let room : place + 9 < place + len = omega (arith, c.sizes-sizes.result.room) in
    let inside : place + len ≤ length image = omega (arith, c.segment_at-place.ensures.inside, c.requires, sized.head, sized.body, sized.segment) in
    let found = rw c.in-Some.is at c.in_ok-frames_in.ensures in
    let there : AreFrames (place + 9) (place + len) frames image = subst (λ k. AreFrames (k + 9) (k + len) frames image) (sym at)
    (subst (λ k. AreFrames (segment_at L c.args.second + 9) (segment_at L c.args.second + k) frames image) (sym sized.segment) are) in
    let same = one_run (place + 9) (place + len) (views c.in-Some.frames.items) frames image room inside found there in (
      refl,
      ap views c.in_ok-append-in-Some.ensures.items ∙ views_append c.args.all.now.items c.in-Some.frames.items ∙ ap (λ l. views c.args.all.now.items ++ l) same,
    )
