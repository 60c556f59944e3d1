use Rattle.std.proofs.Common.{[], ◌∷◌, ◌++◌, ap, ◌∙◌}
use Rattle.pfx_fault.specs.declared.refusals.Fault.{Fault}
use Rattle.pfx_program_check.proofs.Going.{goes_on, ends_taken}
use Rattle.pfx_program_check.proofs.faults.followed.Goals as goal

pub returns-in_default : goal.returns-in_default
returns-in_default c = c.refusals.invariant c.refusals.faults.items (ends_taken c.refusals.candidate c.refusals.faults.items (rw c.in_default.is at c.in_ok-why.ensures))

pub refusals-smaller : goal.refusals-smaller
refusals-smaller c = c.mend.ensures.fewer c.if-not-mend.false

pub refusals-preserved : goal.refusals-preserved
refusals-preserved c = λ all h.
    c.refusals.invariant all (goes_on c.refusals.candidate c.in-Some.why c.mend.new.self c.refusals.faults.items c.push.new.self.items all (rw c.in-Some.is at c.in_ok-why.ensures) c.if-not-mend.ensures.next
    (c.in_ok-push.ensures.items ∙ ap (λ (f : Fault). c.refusals.faults.items ++ f ∷ []) c.told.ensures) h)
