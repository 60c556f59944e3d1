use Rattle.std.proofs.Common.{◌∙◌, ap, sym, eq-eqb}
use Rattle.std.proofs.lemmas.Bool.{eqb-true}
use Rattle.pfx_segment.specs.Reading.{views}
use Rattle.pfx_replay.proofs.FrameRuns.{one_end}
use Rattle.pfx_replay.proofs.way.leads_to.Goals as goal

pub returns-then-not-branch : goal.returns-then-not-branch
returns-then-not-branch g c = (λ never. cc, λ led. absurd (c.in_ok-lead_on.ensures.wrong c.if-not-branch.true led.0 led.1))

pub returns : goal.returns
returns g c =
    let K = g.F.Format.codec in
    let led = c.in_ok-lead_on.ensures.led c.if-not-branch.false in (
      λ yes. (c.lead_on.new.state, led, sym c.number.ensures ∙ eqb-true _ _ yes),
      λ other. eq-eqb _ _ (c.number.ensures ∙ ap K.number (one_end K c.args.state.now (views c.args.frames.now) c.lead_on.new.state other.0 led other.1) ∙ other.2),
    )
