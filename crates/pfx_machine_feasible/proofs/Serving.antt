-- Behind each acceptable list from an endless start, the ledger is endless, and a Slot is refused by the limits alone.
use Rattle.std.proofs.Common.{◌≡◌, ℕ, ◌+◌, ◌==◌, ◌^◌, Bool, true, false, nat_lt, nat_le, length, if◌then◌else◌, List, [], ◌∷◌, ◌++◌, Option, Some, None, Ok, Err, ap, sym, ◌∙◌, refl, subst, append_assoc, append-nil}
use Rattle.std.specs.Prelude.{All, slice_get}
use Rattle.std.proofs.lemmas.List.Elements.{All-cons, All-nil}
use Rattle.pfx_columns.specs.Ledgers.{IsLedger}
use Rattle.pfx_choice.specs.declared.faults.ChoiceFault.TheVariants as of_choice
use Rattle.pfx_jobs.specs.Kind.{Kind, Laws}
use Rattle.pfx_machine.specs.Happenings.{row_or_none}
use Rattle.pfx_machine.specs.Outcome.{outcome}
use Rattle.pfx_machine.specs.Plain.{Plain, whole}
use Rattle.pfx_machine.specs.Choosing.{row_in}
use Rattle.pfx_machine.specs.Reweighing.{fault_of, least_for, level_or, set_or, size_fault, new_fault, reweigh_fault, new_set}
use Rattle.pfx_machine.proofs.Rowing.{row_chosen}
use Rattle.pfx_machine.proofs.Reweighs.{accepted_set}
use Rattle.pfx_weights.specs.Tests.{set_fault}
use Rattle.pfx_weights.specs.declared.faults.SetFault.{SetFault}
use Rattle.pfx_weights.specs.declared.faults.SetFault.TheVariants.{NoTasks, TooManyTasks, BadWorkers, BadWeight, HyperperiodTooLarge, Overload, NoMemory}
use Rattle.pfx_columns.specs.Levels.{unlevel}
use Rattle.pfx_columns.specs.Ledgers.{Ledger}
use Rattle.pfx_machine.specs.Refusals.{refusal, command_fault, slot_fault, submit_fault, withdraw_fault, reply}
use Rattle.pfx_machine.specs.Runs.{with_accepted, answer_by, answer, answers_behind, answers}
use Rattle.pfx_machine.specs.Sessions.{AllAccepted, IsAcceptable}
use Rattle.pfx_machine.specs.Steps.{ledger_step, happening_in}
use Rattle.pfx_machine.specs.declared.command.Command.{Command}
use Rattle.pfx_machine.specs.declared.command.Command.TheVariants.{Submit, Slot, Withdraw, Reweigh}
use Rattle.pfx_machine.specs.declared.command.Reply.{Reply}
use Rattle.pfx_machine.specs.declared.command.Reply.TheVariants.{Submitted, Withdrawn, Reweighed}
use Rattle.pfx_machine.specs.declared.faults.MachineFault.{MachineFault}
use Rattle.pfx_machine.specs.declared.faults.MachineFault.TheVariants.{NumberLimit, NoRow, TaskBusy, WrongCount, SegmentTooSmall}
use Rattle.pfx_machine.proofs.Compose.{outcome-none}
use Rattle.pfx_machine.proofs.Keeping.{below_limit, slot_row}
use Rattle.pfx_machine.proofs.Snoc.{outcome-snoc}
use Rattle.pfx_machine_feasible.specs.Commands.{limit_fault, HadARow}
use Rattle.pfx_machine_feasible.specs.Endless.{IsEndless}
use Rattle.pfx_machine_feasible.proofs.Endless.{to_rows}
use Rattle.pfx_machine_feasible.proofs.Rows.{GoesOn, ledger_goes_on, row_goes_on, row_there, start_goes_on}

-- a command more
step_goes_on : {J : Type 0} (K : Kind J) (s : Plain J) (c : Command J) → GoesOn s.ledger → command_fault K s c ≡ None → GoesOn (ledger_step s.ledger (happening_in s c))
step_goes_on K s (Submit task job) h accepted = h
step_goes_on K s (Withdraw task) h accepted = h
step_goes_on K s Slot h accepted = row_goes_on s.ledger (row_or_none (row_in s)) (row_chosen s (row_or_none (row_in s)) (slot_row (row_in s) accepted)) h
step_goes_on K s (Reweigh workers weights) h accepted = start_goes_on (new_set s.ledger.set workers weights) (accepted_set s workers weights accepted).ledger.set

-- behind what was accepted so far
next_goes_on : {J : Type 0} (K : Kind J) (L : Laws K) (B : Plain J) (before : List (Command J)) (c : Command J) (o : Option MachineFault) → refusal K (outcome K B before) c ≡ o →
    GoesOn (outcome K B before).ledger → GoesOn (outcome K B (with_accepted before c o)).ledger
next_goes_on K L B before c None is h =
    let s = outcome K B before in
    let Goes : Plain _ → Type 0 = λ t. GoesOn t.ledger in
    subst Goes (sym (outcome-snoc K L B before c)) (step_goes_on K s c h (below_limit s.number (command_fault K s c) is).1)
next_goes_on K L B before c (Some fault) is h = h

-- a list more
behind_goes_on : {J : Type 0} (K : Kind J) (L : Laws K) (B : Plain J) (before H : List (Command J)) → GoesOn (outcome K B before).ledger → AllAccepted K B before H → GoesOn (outcome K B (before ++ H)).ledger
behind_goes_on K L B before [] h all = subst (λ xs. GoesOn (outcome K B xs).ledger) (sym (append-nil before)) h
behind_goes_on K L B before (c ∷ H) h all =
    subst (λ xs. GoesOn (outcome K B xs).ledger) (append_assoc before (c ∷ []) H)
    (behind_goes_on K L B (before ++ c ∷ []) H (next_goes_on K L B before c None all.0 h) all.1)

first_goes_on : {J : Type 0} (K : Kind J) (B : Plain J) → GoesOn B.ledger → GoesOn (outcome K B []).ledger
first_goes_on K B h = (let Goes : Plain _ → Type 0 = λ t. GoesOn t.ledger in subst Goes (sym (outcome-none K B)) h)

pub outcome_goes_on : {J : Type 0} (K : Kind J) (L : Laws K) (B : Plain J) (H : List (Command J)) → GoesOn B.ledger → IsAcceptable K B H → GoesOn (outcome K B H).ledger
outcome_goes_on K L B H h all = behind_goes_on K L B [] H (first_goes_on K B h) all

-- the limits alone refuse a Slot
limit_alone : (b : Bool) (row : List ℕ) → slot_fault (if b then Ok row else Err of_choice.SlotLimit) ≡ (if b then None else Some (NoRow of_choice.SlotLimit))
limit_alone true row = refl
limit_alone false row = refl

pub slot_refusal : {J : Type 0} (K : Kind J) (s : Plain J) → GoesOn s.ledger → refusal K s Slot ≡ limit_fault s
slot_refusal K s h =
    let r = row_there s.ledger h in
    let below = nat_lt (whole s + 1) (2 ^ 40) in
    ap (λ o. if nat_lt (s.number + 1) (2 ^ 48) then slot_fault (if below then o else Err of_choice.SlotLimit) else Some NumberLimit) r.1
    ∙ ap (λ o. if nat_lt (s.number + 1) (2 ^ 48) then o else Some NumberLimit) (limit_alone below r.0)

-- behind an acceptable list
pub served_behind : {J : Type 0} (K : Kind J) (L : Laws K) (B : Plain J) (H : List (Command J)) → GoesOn B.ledger → IsAcceptable K B H → refusal K (outcome K B H) Slot ≡ limit_fault (outcome K B H)
served_behind K L B H h all = slot_refusal K (outcome K B H) (outcome_goes_on K L B H h all)

pub endless_behind : {J : Type 0} (K : Kind J) (L : Laws K) (B : Plain J) (H : List (Command J)) → IsLedger B.ledger → IsEndless B.ledger → IsAcceptable K B H → IsEndless (outcome K B H).ledger
endless_behind K L B H ledger endless all =
    let h = outcome_goes_on K L B H (ledger_goes_on B.ledger ledger endless) all in
    to_rows (outcome K B H).ledger h.shape h.few h.sets

-- no answer tells of the lack of a row

limit_had : (b d : Bool) (said : Reply) → HadARow (answer_by said (if b then (if d then None else Some (NoRow of_choice.SlotLimit)) else Some NumberLimit))
limit_had true true said = tt
limit_had true false said = tt
limit_had false d said = tt

busy_had : (b : Bool) (task : ℕ) (said : Reply) → HadARow (answer_by said (if b then None else Some (TaskBusy task)))
busy_had true task said = tt
busy_had false task said = tt

submit_had : {J : Type 0} (K : Kind J) (task : ℕ) (o : Option (Option J)) (b : Bool) (said : Reply) → HadARow (answer_by said (if b then submit_fault K task o else Some NumberLimit))
submit_had K task None true said = tt
submit_had K task (Some None) true said = tt
submit_had K task (Some (Some s)) true said = busy_had (K.left s == 0) task said
submit_had K task o false said = tt

withdraw_had : {J : Type 0} (task : ℕ) (o : Option (Option J)) (b : Bool) (said : Reply) → HadARow (answer_by said (if b then withdraw_fault task o else Some NumberLimit))
withdraw_had task None true said = tt
withdraw_had task (Some None) true said = tt
withdraw_had task (Some (Some s)) true said = tt
withdraw_had task o false said = tt

-- nor does the refusal of new weights
set_had : (f : SetFault) (said : Reply) → HadARow (answer_by said (Some (fault_of f)))
set_had NoTasks said = tt
set_had TooManyTasks said = tt
set_had BadWorkers said = tt
set_had (BadWeight task) said = tt
set_had (HyperperiodTooLarge task) said = tt
set_had Overload said = tt
set_had NoMemory said = tt

size_had : (b : Bool) (least : ℕ) (said : Reply) → HadARow (answer_by said (if b then None else Some (SegmentTooSmall least)))
size_had true least said = tt
size_had false least said = tt

sets_had : (o : Option SetFault) (segment least : ℕ) (said : Reply) → HadARow (answer_by said (set_or o (size_fault segment least)))
sets_had None segment least said = size_had (nat_le least segment) least said
sets_had (Some f) segment least said = set_had f said

level_had : (o : Option ℕ) (p : Option SetFault) (segment least : ℕ) (said : Reply) → HadARow (answer_by said (level_or o (set_or p (size_fault segment least))))
level_had None p segment least said = sets_had p segment least said
level_had (Some x) p segment least said = tt

count_had : (b : Bool) (o : Option ℕ) (p : Option SetFault) (segment least : ℕ) (said : Reply) →
    HadARow (answer_by said (if b then level_or o (set_or p (size_fault segment least)) else Some WrongCount))
count_had true o p segment least said = level_had o p segment least said
count_had false o p segment least said = tt

new_had : (g : Ledger) (segment m : ℕ) (weights : List (ℕ × ℕ)) (said : Reply) → HadARow (answer_by said (new_fault g segment m weights))
unfolding new_fault
new_had g segment m weights said = count_had (length weights == g.set.real) (unlevel g) (set_fault m weights) segment (least_for m g.set.real) said

reweigh_had : {J : Type 0} (s : Plain J) (m : ℕ) (weights : List (ℕ × ℕ)) (b : Bool) (said : Reply) → HadARow (answer_by said (if b then reweigh_fault s m weights else Some NumberLimit))
reweigh_had s m weights true said = new_had s.ledger s.segment m weights said
reweigh_had s m weights false said = tt

pub answer_had : {J : Type 0} (K : Kind J) (s : Plain J) (c : Command J) → GoesOn s.ledger → HadARow (answer K s c)
answer_had K s (Submit task job) h = submit_had K task (slice_get s.jobs task) (nat_lt (s.number + 1) (2 ^ 48)) (Submitted task)
answer_had K s (Withdraw task) h = withdraw_had task (slice_get s.jobs task) (nat_lt (s.number + 1) (2 ^ 48)) (Withdrawn task)
answer_had K s (Reweigh workers weights) h = reweigh_had s workers weights (nat_lt (s.number + 1) (2 ^ 48)) (Reweighed (whole s))
answer_had K s Slot h =
    let said = reply s Slot in
    let Had : Option MachineFault → Type 0 = λ o. HadARow (answer_by said o) in
    subst Had (sym (slot_refusal K s h)) (limit_had (nat_lt (s.number + 1) (2 ^ 48)) (nat_lt (whole s + 1) (2 ^ 40)) said)

answers_behind_had : {J : Type 0} (K : Kind J) (L : Laws K) (B : Plain J) (before H : List (Command J)) → GoesOn (outcome K B before).ledger → All HadARow (answers_behind K B before H)
answers_behind_had K L B before [] h = All-nil HadARow
answers_behind_had K L B before (c ∷ H) h =
    let s = outcome K B before in
    let more = with_accepted before c (refusal K s c) in
    All-cons HadARow (answer K s c) (answers_behind K B more H) (answer_had K s c h) (answers_behind_had K L B more H (next_goes_on K L B before c (refusal K s c) refl h))

pub answers_had : {J : Type 0} (K : Kind J) (L : Laws K) (B : Plain J) (H : List (Command J)) → GoesOn B.ledger → All HadARow (answers K B H)
answers_had K L B H h = answers_behind_had K L B [] H (first_goes_on K B h)
