use Rattle.std.proofs.Common.{◌≡◌, ◌+◌, ◌∙◌, ap, sym, subst, drop, refl, Some, None}
use Rattle.std.proofs.lemmas.Option.{none-some}
use Rattle.pfx_segment.specs.Reading.{views}
use Rattle.pfx_store_image.specs.Store.{Replays}
use Rattle.pfx_replay.proofs.FrameRuns.{back_from, views_left, views_none}
use Rattle.pfx_replay.proofs.way.lead_on.Goals as goal

pub loop-frame-init : goal.loop-frame-init
loop-frame-init g c = record { on = λ t h. h; back = λ t h. h }

pub returns-then-not-branch : goal.returns-then-not-branch
returns-then-not-branch g c =
    let K = g.F.Format.codec in
    let frames = c.args.frames.now in
    let i = c.loop-frame.frame-index in
    let f = c.frame-item.result in
    let s = c.loop-frame.state in
    let none : K.apply s f.items ≡ None = ap (K.apply s) (sym c.deref.ensures.value) ∙ c.in_ok-apply.ensures.wrong c.if-not-branch.true in
    record {
      led = λ never. cc;
      wrong = λ _ t h.
          let run = subst (λ l. Replays K s l t) (views_left frames i f f c.frame-item.is c.loop-frame-test.true) (c.loop-frame.invariant.back t h) in
          none-some run.0 (sym none ∙ run.1);
    }

pub loop-frame-preserved : goal.loop-frame-preserved
loop-frame-preserved g c =
    let K = g.F.Format.codec in
    let frames = c.args.frames.now in
    let i = c.loop-frame.frame-index in
    let f = c.frame-item.result in
    let s = c.loop-frame.state in
    let next = c.apply.new.state in
    let left = views_left frames i f f c.frame-item.is c.loop-frame-test.true in
    let on : K.apply s f.items ≡ Some next = ap (K.apply s) (sym c.deref.ensures.value) ∙ c.in_ok-apply.ensures.taken c.if-not-branch.false in
    record {
      on = λ t h. c.loop-frame.invariant.on t (subst (λ l. Replays K s l t) (sym left) (next, on, h));
      back = λ t h. back_from K s next t f.items (views (drop (i + 1) frames)) on (subst (λ l. Replays K s l t) left (c.loop-frame.invariant.back t h));
    }

pub returns : goal.returns
returns g c =
    let K = g.F.Format.codec in
    let s = c.loop-frame.state in
    record {
      led = λ _. c.loop-frame.invariant.on s (subst (λ l. Replays K s l s) (sym (views_none c.args.frames.now c.loop-frame.frame-index c.loop-frame-test.false)) refl);
      wrong = λ never. cc;
    }
