use Rattle.std.proofs.Common.{◌≡◌, ◌<◌, ◌∙◌, get_or, length, sym, ap, refl, below_more, IsTrue, arith, rules}
use Rattle.std.proofs.lemmas.List.{get_or_default}
use Rattle.pfx_record_redo.specs.Recording.{place_of}
use Rattle.pfx_replay.proofs.Rowing.{all_places, at_place}
use Rattle.pfx_replay.proofs.judging.are_stepped.Goals as goal

pub returns-then-not-is_stepped : goal.returns-then-not-is_stepped
returns-then-not-is_stepped g c =
    let K = g.J.Job.kind in
    let jobs = c.args.jobs.now in
    let row = c.args.row.now in
    let i = c.loop-place.place-index in
    let d = c.place-item.result in
    let within : i < length row = search rules in
    let no : IsTrue c.is_stepped.result → ⊥ = λ yes. search rules in
    (λ f. cc, λ h. absurd (no (c.is_stepped.ensures.1 (c.place-item.is ∙ at_place K jobs row i d h within ∙ ap (λ p. place_of K jobs p.task) (sym c.place-item.is)))))

pub loop-place-preserved : goal.loop-place-preserved
loop-place-preserved g c k d =
    let K = g.J.Job.kind in
    let jobs = c.args.jobs.now in
    let row = c.args.row.now in
    let i = c.loop-place.place-index in
    let p = c.place-item.result in
    let within : i < length row = search rules in
    let yes : IsTrue c.is_stepped.result = search rules in
    let same = c.place-item.is ∙ get_or_default row i p d within in
    below_more (λ k. get_or row k d ≡ place_of K jobs (get_or row k d).task) i (λ k less. c.loop-place.invariant k d less)
    (sym same ∙ c.is_stepped.ensures.0 yes ∙ ap (λ q. place_of K jobs q.task) same) k

pub returns : goal.returns
returns g c =
    (λ yes. all_places g.J.Job.kind c.args.jobs.now c.args.row.now (λ k d within. c.loop-place.invariant k d (omega (arith, within, c.loop-place-test.false))), λ h. refl)
