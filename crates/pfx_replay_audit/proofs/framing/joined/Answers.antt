use Rattle.std.proofs.Common.{◌+◌, ◌++◌, ◌∙◌, ap, sym, drop, append-nil, append_assoc}
use Rattle.std.specs.List.{concat}
use Rattle.pfx_segment.specs.Reading.{views}
use Rattle.pfx_replay.proofs.FrameRuns.{views_left, views_none}
use Rattle.pfx_replay_audit.proofs.framing.joined.Goals as goal

pub loop-frame-preserved : goal.loop-frame-preserved
loop-frame-preserved c =
    let frames = c.args.frames.now in
    let i = c.loop-frame.frame-index in
    let f = c.frame-item.result in
    let old = c.loop-frame.all.items in
    let rest = concat (views (drop (i + 1) frames)) in
    ap (λ l. l ++ rest) (c.in_ok-extend_from_slice.ensures.items ∙ ap (λ l. old ++ l) c.deref.ensures.value)
    ∙ append_assoc old f.items rest
    ∙ ap (λ l. old ++ concat l) (sym (views_left frames i f f c.frame-item.is c.loop-frame-test.true))
    ∙ c.loop-frame.invariant

pub returns : goal.returns
returns c =
    let all = c.loop-frame.all.items in
    sym (append-nil all) ∙ ap (λ l. all ++ concat l) (sym (views_none c.args.frames.now c.loop-frame.frame-index c.loop-frame-test.false)) ∙ c.loop-frame.invariant
