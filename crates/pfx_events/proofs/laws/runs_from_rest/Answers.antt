use Rattle.std.proofs.Common.{refl}
use Rattle.pfx_events.specs.Store.{store_of}
use Rattle.pfx_events.proofs.Reaching.{reached_holds}
use Rattle.pfx_events.proofs.Running.{command_goes, slot_goes, step_goes, stop_goes, reaches}
use Rattle.pfx_events.proofs.Sound.{sound}
use Rattle.pfx_events.proofs.laws.runs_from_rest.Goals as goal

pub returns-clause-new : goal.returns-clause-new
returns-clause-new g c = λ B image f. record { none = refl; whole = refl; goes_on = refl; shut = refl; marked = refl; taken = refl }

pub returns-clause-commands : goal.returns-clause-commands
returns-clause-commands g c = λ B w command rest quick free. reaches (store_of g.J.Job.kind) B w _ (command_goes (store_of g.J.Job.kind) B w command rest quick free)

pub returns-clause-slots : goal.returns-clause-slots
returns-clause-slots g c = λ B w rest free. reaches (store_of g.J.Job.kind) B w _ (slot_goes (store_of g.J.Job.kind) B w rest free)

pub returns-clause-steps : goal.returns-clause-steps
returns-clause-steps g c = λ B w rest some. let s = step_goes (store_of g.J.Job.kind) B w rest some in (s.0, s.1, s.2.accepted, s.2.receipts)

pub returns-clause-stops : goal.returns-clause-stops
returns-clause-stops g c = λ B w command reached rest quick free.
    let S = store_of g.J.Job.kind in
    let sound_here = sound g.J.Job.kind g.met.J.Job.laws in
    stop_goes S B sound_here w command rest quick free (reached_holds S sound_here B w reached)
