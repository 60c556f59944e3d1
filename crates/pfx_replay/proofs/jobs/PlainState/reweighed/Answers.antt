use Rattle.std.proofs.Common.{◌≡◌, ◌+◌, ◌∙◌, ap, sym, subst}
use Rattle.pfx_machine.specs.Plain.{IsState, whole}
use Rattle.pfx_machine.specs.Reweighing.{renewed}
use Rattle.pfx_replay.specs.Shown.{ledger_of}
use Rattle.pfx_replay.specs.Stated.{plain_of}
use Rattle.pfx_replay.proofs.Reweighs.{renewed_outcome, renewed_state}
use Rattle.pfx_replay.proofs.jobs.PlainState.reweighed.Goals as goal

pub invariant_of-result : goal.invariant_of-result
invariant_of-result g c =
    let K = g.J.Job.kind in
    let s = plain_of c.args.self in
    let set = c.in-Ok.set in
    let same : record { number = s.number + 1; from = whole s; ledger = ledger_of c.in_ok-begun.begun; jobs = s.jobs; segment = s.segment } ≡ renewed s set =
    ap (λ l. record { number = s.number + 1; from = whole s; ledger = l; jobs = s.jobs; segment = s.segment }) c.in_ok-begun.ensures in
    record { kept = subst IsState (sym same) (renewed_state K s c.args.workers c.args.weights.now set c.in-Ok.ensures c.args.self.kept c.requires) }

pub returns : goal.returns
returns g c =
    let s = plain_of c.args.self in
    ap (λ l. record { number = s.number + 1; from = whole s; ledger = l; jobs = s.jobs; segment = s.segment }) c.in_ok-begun.ensures
    ∙ renewed_outcome g.J.Job.kind s c.args.workers c.args.weights.now c.in-Ok.set c.in-Ok.ensures g.met.J.Job.laws
