use Rattle.std.proofs.Common.{◌≡◌, ◌+◌, ◌∙◌, sym, arith}
use Rattle.std.proofs.lemmas.Result.{IfOk-weaker}
use Rattle.pfx_replay.proofs.FrameRuns.{stand_found}
use Rattle.pfx_replay.proofs.way.frames_behind.Goals as goal

pub returns-in_default : goal.returns-in_default
returns-in_default g c frames stand =
    let closed = rw c.in_default.is at c.first_in.ensures in
    closed stand.0

pub returns : goal.returns
returns g c =
    let first = rw c.in-Some.is at c.first_in.ensures in
    let behind : c.in-Some.first ≡ c.args.number + 1 = omega arith in
    IfOk-weaker c.frames_in.result _ _ (λ found given. stand_found g.F.Format.codec c.args.image.now c.args.place c.args.len c.args.number first.0 (sym first.1 ∙ behind) found given) c.frames_in.ensures
