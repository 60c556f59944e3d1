use Rattle.std.proofs.Common.{◌∙◌, sym}
use Rattle.pfx_replay_audit.proofs.log.are_same.Goals as goal

pub returns : goal.returns
returns g c = (
  λ yes. sym c.in_ok-first.ensures ∙ c.are_states.ensures.0 yes ∙ c.in_ok-second.ensures,
  λ same. c.are_states.ensures.1 (c.in_ok-first.ensures ∙ same ∙ sym c.in_ok-second.ensures),
)
