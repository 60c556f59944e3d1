use Rattle.std.proofs.lemmas.Result.{IfOk-weaker}
use Rattle.pfx_store_format.specs.Format.{layout}
use Rattle.pfx_replay.proofs.Stores.{base_is}
use Rattle.pfx_replay.proofs.file.judge_file.Goals as goal

pub returns-in-Some : goal.returns-in-Some
returns-in-Some g c =
    let read = rw c.in-Some.is at c.in_ok-base.ensures in
    IfOk-weaker c.judge_from.result _ _ (λ found given p t is area segment turned.
    given p t is
    (base_is g.J.Job.kind g.met.J.Job.laws c.args.header.now c.args.image.now p t is c.args.area c.args.segment c.args.turned area segment turned c.area_at-at.result c.sizes-sizes.result.body c.in-Some.base
    (c.area_at-at.ensures.at (layout c.args.header.now) c.sizes-sizes.ensures.sizes) c.sizes-sizes.ensures.sizes.body read)
    area segment turned) c.judge_from.ensures
