use Rattle.std.proofs.Common.{◌+◌, ◌∙◌, ap, sym, subst, arith, rules}
use Rattle.pfx_segment.specs.Reading.{views}
use Rattle.pfx_store_image.specs.Store.{Replays}
use Rattle.pfx_replay.proofs.FrameRuns.{one_run}
use Rattle.pfx_replay.proofs.way.frames_from.Goals as goal

pub returns-in_default : goal.returns-in_default
returns-in_default g c frames lead =
    let none = rw c.in_default.is at c.in_ok-frames.ensures in
    none frames (lead.0, lead.1 ∙ ap (λ n. n + 1) (sym c.number-last.ensures), lead.2)

pub returns-then-branch : goal.returns-then-branch
returns-then-branch g c =
    let K = g.F.Format.codec in
    let stand = rw c.in-Some.is at c.in_ok-frames.ensures in
    let led = c.in_ok-leads_to.ensures.0 c.if-branch.true in
    (stand.0, stand.1 ∙ ap (λ n. n + 1) c.number-last.ensures, stand.2, (led.0, subst (λ l. Replays K c.args.state.now (views l) led.0) c.deref.ensures.value led.1, led.2))

pub returns-else-branch : goal.returns-else-branch
returns-else-branch g c frames lead =
    let K = g.F.Format.codec in
    let found = views c.in-Some.frames.items in
    let stand = rw c.in-Some.is at c.in_ok-frames.ensures in
    let same = one_run (c.args.place + 9) (c.args.place + c.args.len) frames found c.args.image.now (omega (arith, c.requires.room)) c.requires.inside lead.2 stand.2 in
    let leads = subst (λ l. Replays K c.args.state.now (views l) lead.3.0) (sym c.deref.ensures.value) (subst (λ l. Replays K c.args.state.now l lead.3.0) same lead.3.1) in
    let yes = c.in_ok-leads_to.ensures.1 (lead.3.0, leads, lead.3.2) in
    absurd (let no = c.if-branch.false in search rules)
