use Rattle.std.proofs.Common.{length, subst}
use Rattle.pfx_weights.specs.Sets.{IsTaskCount, IsWorkerCount}
use Rattle.pfx_program_check.specs.Faults.{Tried}
use Rattle.pfx_program_check.proofs.Going.{names_no_task}
use Rattle.pfx_program_check.proofs.candidate.Candidate.mend.Goals as goal

pub returns-in_default-clause-next : goal.returns-in_default-clause-next
returns-in_default-clause-next c =
    let counts = subst (λ (t : Tried). IsWorkerCount t.workers × IsTaskCount (length t.tasks)) c.self.view_is (c.self.invariant.0, c.self.invariant.1) in
    names_no_task c.args.self.now c.args.why counts.0 counts.1 c.requires c.in_default.not-BadWeight c.in_default.not-HyperperiodTooLarge
