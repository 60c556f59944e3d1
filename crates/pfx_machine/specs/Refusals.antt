-- Which commands are refused in a state, and why; what is answered to the others.
use Rattle.std.specs.Prelude.{◌≡◌, ◌≢◌, ℕ, ◌+◌, ◌^◌, ◌==◌, if◌then◌else◌, nat_lt, slice_get, List, Option, Some, None, Result, Ok, Err, ⊤}
use Rattle.pfx_jobs.specs.Kind.{Kind}
use Rattle.pfx_choice.specs.declared.faults.ChoiceFault.{ChoiceFault}
use Rattle.pfx_machine.specs.Plain.{Plain, whole}
use Rattle.pfx_machine.specs.Choosing.{row_in}
use Rattle.pfx_machine.specs.Reweighing.{reweigh_fault}
use Rattle.pfx_machine.specs.Faults.{no_memory}
use Rattle.pfx_machine.specs.Happenings.{row_or_none}
use Rattle.pfx_machine.specs.declared.command.Command.{Command}
use Rattle.pfx_machine.specs.declared.command.Command.TheVariants.{Submit, Slot, Withdraw, Reweigh}
use Rattle.pfx_machine.specs.declared.command.Reply.{Reply}
use Rattle.pfx_machine.specs.declared.command.Reply.TheVariants.{Submitted, Ran, Withdrawn, Reweighed}
use Rattle.pfx_machine.specs.declared.faults.MachineFault.{MachineFault}
use Rattle.pfx_machine.specs.declared.faults.MachineFault.TheVariants.{NumberLimit, NoSuchTask, TaskBusy, NoJob, NoRow}

-- why a task can't be given a job, by its place in the list of jobs: there is none if the list is too short
abbrev pub submit_fault : {J : Type 0} → Kind J → ℕ → Option (Option J) → Option MachineFault
submit_fault K task None = Some (NoSuchTask task)
submit_fault K task (Some None) = None
submit_fault K task (Some (Some s)) = if K.left s == 0 then None else Some (TaskBusy task)

-- why a task's job can't be taken away
abbrev pub withdraw_fault : {J : Type 0} → ℕ → Option (Option J) → Option MachineFault
withdraw_fault task None = Some (NoSuchTask task)
withdraw_fault task (Some None) = Some (NoJob task)
withdraw_fault task (Some (Some s)) = None

-- why no slot can be run
abbrev pub slot_fault : Result (List ℕ) ChoiceFault → Option MachineFault
slot_fault (Ok row) = None
slot_fault (Err fault) = Some (NoRow fault)

abbrev pub command_fault : {J : Type 0} → Kind J → Plain J → Command J → Option MachineFault
command_fault K s (Submit task job) = submit_fault K task (slice_get s.jobs task)
command_fault K s (Withdraw task) = withdraw_fault task (slice_get s.jobs task)
command_fault K s Slot = slot_fault (row_in s)
command_fault K s (Reweigh workers weights) = reweigh_fault s workers weights

-- why a command is refused in a state; none if it is accepted
abbrev pub refusal : {J : Type 0} → Kind J → Plain J → Command J → Option MachineFault
refusal K s c = if nat_lt (s.number + 1) (2 ^ 48) then command_fault K s c else Some NumberLimit

-- the answer to an accepted command
abbrev pub reply : {J : Type 0} → Plain J → Command J → Reply
reply s (Submit task job) = Submitted task
reply s (Withdraw task) = Withdrawn task
reply s Slot = Ran (whole s) (row_or_none (row_in s))
reply s (Reweigh workers weights) = Reweighed (whole s)

-- a Slot and a Reweigh take memory
abbrev pub TakesMemory : {J : Type 0} → Command J → Type 0
TakesMemory (Submit task job) = ⊥
TakesMemory (Withdraw task) = ⊥
TakesMemory Slot = ⊤
TakesMemory (Reweigh workers weights) = ⊤

-- an answered fault is the refusal, unless an allocation failed
abbrev pub IsFaultOf : {J : Type 0} → Kind J → Plain J → Command J → MachineFault → Type 0
IsFaultOf K s c fault = (fault ≡ no_memory → TakesMemory c) × (fault ≢ no_memory → refusal K s c ≡ Some fault)
