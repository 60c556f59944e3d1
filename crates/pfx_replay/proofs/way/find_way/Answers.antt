use Rattle.std.proofs.Common.{◌∙◌, not, ap, sym, subst}
use Rattle.pfx_segment.specs.Reading.{views}
use Rattle.pfx_store_image.specs.Layout.{area_at, segment_at}
use Rattle.pfx_replay.proofs.FrameRuns.{Lead, lead_there, some_one, way_there}
use Rattle.pfx_replay.proofs.way.find_way.Goals as goal

pub returns-in_default : goal.returns-in_default
returns-in_default g c p area segment number s frames way =
    let K = g.F.Format.codec in
    let h = c.args.header.now in
    let L = K.layout h in
    let sized = c.sizes-sizes.ensures.sizes in
    let at = c.area_at-at.ensures.at L sized ∙ ap (λ b. area_at L (not b)) (sym area) in
    let place = c.segment_at-place.ensures.at L sized ∙ ap (λ b. segment_at L (not b)) (sym segment) in
    let none = rw c.in_default.is at c.in_ok-frames.ensures in
    none s frames (lead_there K h c.args.image.now _ _ _ _ c.args.number p at sized.body place sized.segment number s frames way)

pub returns-in-Some-2 : goal.returns-in-Some-2
returns-in-Some-2 g c p area segment number =
    let K = g.F.Format.codec in
    let h = c.args.header.now in
    let L = K.layout h in
    let sized = c.sizes-sizes.ensures.sizes in
    let at = c.area_at-at.ensures.at L sized ∙ ap (λ b. area_at L (not b)) (sym area) in
    let place = c.segment_at-place.ensures.at L sized ∙ ap (λ b. segment_at L (not b)) (sym segment) in
    let led = rw c.in-Some.is at c.in_ok-frames.ensures in
    let read = rw c.in-Some-2.is at c.in_ok-start.ensures in
    let frames = views c.in-Some.frames.items in
    way_there K h c.args.image.now _ _ _ _ c.args.number p at sized.body place sized.segment number c.if-image-at.false c.in-Some-2.start frames
    (subst (λ s. Lead K h c.args.image.now c.area_at-at.result c.sizes-sizes.result.body c.segment_at-place.result c.sizes-sizes.result.segment c.args.number s frames) (some_one K led.0 c.in-Some-2.start (led.1.0 ∙ sym read)) led.1)

pub returns-in-None : goal.returns-in-None
returns-in-None g c p area segment number =
    let led = rw c.in-Some.is at c.in_ok-frames.ensures in
    let read = rw c.in-None.is at c.in_ok-start.ensures in
    absurd (let e = led.1.0 ∙ sym read in cc)
