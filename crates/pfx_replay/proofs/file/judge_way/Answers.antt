use Rattle.std.proofs.Common.{◌∙◌, [], ap, map, refl}
use Rattle.std.proofs.lemmas.Result.{IfOk-weaker}
use Rattle.pfx_record.specs.Records.{plain}
use Rattle.pfx_segment.specs.Reading.{views}
use Rattle.pfx_replay.specs.Trails.{records_behind}
use Rattle.pfx_replay.proofs.Stores.{answered_as}
use Rattle.pfx_replay.proofs.file.judge_way.Goals as goal

pub returns-in_ok-start-in-None : goal.returns-in_ok-start-in-None
returns-in_ok-start-in-None g c =
    rw c.in-None.is (IfOk-weaker c.judge_trail.result _ _ (λ found given.
    answered_as g.J.Job.kind g.J.Units.unit found c.in_ok-start-in-None.start c.args.base.now (map plain c.deref.result.now) [] c.args.base.now (map plain c.args.behind.now) c.in_ok-start-in-None.ensures
    (ap (λ l. map plain l) (c.deref.ensures.value ∙ c.new-before.ensures.items)) given) c.judge_trail.ensures)

pub returns-in_ok-before-in-Some : goal.returns-in_ok-before-in-Some
returns-in_ok-before-in-Some g c =
    let K = g.J.Job.kind in
    let start = c.in-Some.start in
    let frames = views c.in-Some.frames.items in
    let before = map plain c.deref-in-Some-2.result.now in
    let led = ap (λ l. map plain l) c.deref-in-Some-2.ensures.value ∙ c.in_ok-before-in-Some.ensures ∙ ap (λ l. records_behind K start (views l)) c.deref-in-Some.ensures.value in
    rw c.in-Some.is (IfOk-weaker c.judge_trail-in-Some.result _ _ (λ found given.
    answered_as K g.J.Units.unit found start start before (records_behind K start frames) c.args.base.now (map plain c.args.behind.now) refl led given) c.judge_trail-in-Some.ensures)
