use Rattle.std.proofs.Common.{◌∙◌, ap, sym, subst}
use Rattle.pfx_store_format.specs.Format.{format}
use Rattle.pfx_machine.specs.Plain.{Plain}
use Rattle.pfx_store_image.specs.Store.{Replays}
use Rattle.pfx_segment.specs.Reading.{views}
use Rattle.pfx_replay.proofs.FrameRuns.{one_end}
use Rattle.pfx_replay_audit.proofs.block.lead_to.Goals as goal

pub returns-in_default : goal.returns-in_default
returns-in_default g c t run last =
    let K = format g.J.Job.kind in
    let none = rw c.in_default.is at c.in_ok-led.ensures in
    none t (subst (λ s. Replays K s (views c.args.frames.now) t) (sym c.in_ok-copy.ensures) run)

pub returns-then-number-last : goal.returns-then-number-last
returns-then-number-last g c =
    let K = format g.J.Job.kind in
    let led = c.in-Some.led in
    let found = rw c.in-Some.is at c.in_ok-led.ensures in
    (subst (λ s. Replays K s (views c.args.frames.now) led) c.in_ok-copy.ensures found, sym c.number.ensures.number ∙ c.if-number-last.true)

pub returns-else-number-last : goal.returns-else-number-last
returns-else-number-last g c t run last =
    let K = format g.J.Job.kind in
    let led = c.in-Some.led in
    let found = rw c.in-Some.is at c.in_ok-led.ensures in
    let same = one_end K c.args.state.now (views c.args.frames.now) led t (subst (λ s. Replays K s (views c.args.frames.now) led) c.in_ok-copy.ensures found) run in
    c.if-number-last.false (c.number.ensures.number ∙ ap (λ (s : Plain _). s.number) same ∙ last)
