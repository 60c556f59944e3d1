use Rattle.std.proofs.Common.{List, length}
use Rattle.pfx_fault.specs.declared.refusals.Fault.{Fault}
use Rattle.pfx_program_check.specs.Going.{IsFollowedBy}
use Rattle.pfx_program_check.proofs.faults.followed.Given as goal

abbrev pub invariant-refusals : goal.invariant-refusals
invariant-refusals l = (all : List Fault) → IsFollowedBy l.candidate l.faults.items all → IsFollowedBy l.initial.candidate l.initial.faults.items all

abbrev pub decreases-refusals : goal.decreases-refusals
decreases-refusals l = length l.candidate.tasks
