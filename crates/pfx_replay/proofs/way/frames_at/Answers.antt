use Rattle.std.proofs.Common.{◌∙◌, sym}
use Rattle.std.proofs.lemmas.Option.{none-some}
use Rattle.std.proofs.lemmas.Result.{IfOk-weaker}
use Rattle.pfx_replay.proofs.FrameRuns.{lead_found}
use Rattle.pfx_replay.proofs.way.frames_at.Goals as goal

pub returns-in-Some : goal.returns-in-Some
returns-in-Some g c =
    let read = rw c.in-Some.is at c.in_ok-start.ensures in
    IfOk-weaker c.frames_from.result _ _ (λ found given. lead_found g.F.Format.codec c.args.header.now c.args.image.now c.args.at c.args.sizes.now.body c.args.place c.args.sizes.now.segment c.args.number c.in-Some.start read found given) c.frames_from.ensures

pub returns-in-None : goal.returns-in-None
returns-in-None g c s frames lead =
    let none = rw c.in-None.is at c.in_ok-start.ensures in
    none-some s (none ∙ sym lead.0)
