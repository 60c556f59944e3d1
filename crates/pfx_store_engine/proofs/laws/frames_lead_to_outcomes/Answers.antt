use Rattle.pfx_store_engine.proofs.Commands.{replays_commands}
use Rattle.pfx_store_engine.proofs.laws.frames_lead_to_outcomes.Goals as goal

pub returns : goal.returns
returns g c start H h all = replays_commands g.J.Job.kind g.met.J.Job.laws start H h all
