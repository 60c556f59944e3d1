use Rattle.std.specs.Prelude.{◌++◌}
use Rattle.pfx_events.specs.Store.{store_of}
use Rattle.pfx_events.proofs.Lasting.{receipts_on}
use Rattle.pfx_events.proofs.laws.receipts_last.Goals as goal

pub returns : goal.returns
returns g c = λ B image f events more n new can given.
    (c.crash_prefix.ensures.survives B image f (events ++ more) new can).receipted n
    (receipts_on (store_of g.J.Job.kind) B image f events more n c.crash_prefix.ensures.later new can given)
