use Rattle.pfx_replay_totals.proofs.Parts.{reached_by_parts, slots_of_parts}
use Rattle.pfx_replay_totals.proofs.laws.slots_of_parts.Goals as goal

pub returns : goal.returns
returns g c = record { slots = slots_of_parts g.J.Job.kind; states = reached_by_parts g.J.Job.kind }
