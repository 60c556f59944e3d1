use Rattle.std.proofs.Common.{◌≡◌, ◌+◌, ◌∙◌, ◌++◌, ap, sym, map, drop, append-nil, append_assoc, Some, None}
use Rattle.pfx_store_format.specs.Frames.{state_after}
use Rattle.pfx_record.specs.Records.{plain}
use Rattle.pfx_segment.specs.Reading.{views}
use Rattle.pfx_replay.specs.Trails.{onward, records_at, records_behind}
use Rattle.pfx_replay.proofs.FrameRuns.{views_left, views_none}
use Rattle.pfx_replay.proofs.records.add_all.Goals as goal

pub loop-frame-preserved : goal.loop-frame-preserved
loop-frame-preserved g c =
    let K = g.J.Job.kind in
    let frames = c.args.frames.now in
    let i = c.loop-frame.frame-index in
    let f = c.frame-item.result in
    let s = c.loop-frame.state in
    let next = c.add_records.new.reached in
    let old = map plain c.loop-frame.records.items in
    let rest = views (drop (i + 1) frames) in
    let behind = records_behind K next rest in
    let on : state_after K s f.items ≡ Some next = ap (state_after K s) (sym c.deref.ensures.value) ∙ c.in_ok-add_records.ensures.taken c.if-not-branch.false in
    ap (λ l. l ++ behind) (c.in_ok-add_records.ensures.records ∙ ap (λ l. old ++ records_at K s l) c.deref.ensures.value)
    ∙ append_assoc old (records_at K s f.items) behind
    ∙ ap (λ o. old ++ (records_at K s f.items ++ onward K o (λ t. records_behind K t rest))) (sym on)
    ∙ ap (λ l. old ++ records_behind K s l) (sym (views_left frames i f f c.frame-item.is c.loop-frame-test.true))
    ∙ c.loop-frame.invariant

pub returns-then-not-branch : goal.returns-then-not-branch
returns-then-not-branch g c =
    let K = g.J.Job.kind in
    let frames = c.args.frames.now in
    let i = c.loop-frame.frame-index in
    let f = c.frame-item.result in
    let s = c.loop-frame.state in
    let old = map plain c.loop-frame.records.items in
    let rest = views (drop (i + 1) frames) in
    let none : state_after K s f.items ≡ None = ap (state_after K s) (sym c.deref.ensures.value) ∙ c.in_ok-add_records.ensures.wrong c.if-not-branch.true in
    c.in_ok-add_records.ensures.records
    ∙ ap (λ l. old ++ l) (ap (records_at K s) c.deref.ensures.value ∙ sym (append-nil (records_at K s f.items)))
    ∙ ap (λ o. old ++ (records_at K s f.items ++ onward K o (λ t. records_behind K t rest))) (sym none)
    ∙ ap (λ l. old ++ records_behind K s l) (sym (views_left frames i f f c.frame-item.is c.loop-frame-test.true))
    ∙ c.loop-frame.invariant

pub returns : goal.returns
returns g c =
    let K = g.J.Job.kind in
    let old = map plain c.loop-frame.records.items in
    sym (append-nil old) ∙ ap (λ l. old ++ records_behind K c.loop-frame.state l) (sym (views_none c.args.frames.now c.loop-frame.frame-index c.loop-frame-test.false)) ∙ c.loop-frame.invariant
