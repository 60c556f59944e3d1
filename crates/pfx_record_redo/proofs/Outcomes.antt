-- The record of an accepted command is right, and has the command's outcome.
use Rattle.std.specs.Prelude.{◌≡◌, ℕ, ◌+◌, ◌<◌, ◌≤◌, ◌^◌, ◌==◌, ◌&&◌, ◌||◌, nat_lt, not, if◌then◌else◌, Bool, true, false, List, [], ◌∷◌, ◌++◌, length, map, All, Option, Some, None, Ok, slice_get, IsTrue, refl}
use Rattle.std.specs.List.{list_all}
use Rattle.std.specs.List.Sorted.{IsStrictlyIncreasing}
use Rattle.std.proofs.Common.{suc, sym, ◌∙◌, ap, ap₂, append_assoc, arith, subst, get_or, eq-eqb}
use Rattle.std.proofs.lemmas.Bool.{cond-true, eqb-true, lt-ltb}
use Rattle.std.proofs.lemmas.List.{length-map}
use Rattle.std.proofs.lemmas.Option.{none-some}
use Rattle.pfx_weights.specs.Rows.{is_in, IsFullRow}
use Rattle.pfx_columns.specs.Ledgers.{IsFair, after, total}
use Rattle.pfx_choice.proofs.Planning.{pf_full}
use Rattle.pfx_jobs.specs.Kind.{Kind, Laws}
use Rattle.pfx_machine.specs.Plain.{whole, IsState}
use Rattle.pfx_machine.specs.Choosing.{row_in}
use Rattle.pfx_machine.specs.Plain as machine
use Rattle.pfx_machine.specs.Happenings.{row_or_none}
use Rattle.pfx_machine.specs.Outcome.{outcome}
use Rattle.pfx_machine.specs.Refusals.{refusal, slot_fault, submit_fault, withdraw_fault}
use Rattle.pfx_machine.specs.Reweighing.{new_set}
use Rattle.pfx_machine.specs.Sessions.{AllAccepted, IsAcceptable}
use Rattle.pfx_machine.specs.Steps.{jobs_step, once_job, state_step, happening_in}
use Rattle.pfx_machine.specs.declared.plain.Happening.TheVariants.{Ran as ran_row}
use Rattle.pfx_machine.specs.declared.command.Command.{Command}
use Rattle.pfx_machine.specs.declared.command.Command.TheVariants.{Submit, Slot, Withdraw, Reweigh}
use Rattle.pfx_machine.specs.declared.faults.MachineFault.TheVariants.{NoSuchTask, TaskBusy, NoJob}
use Rattle.pfx_machine.proofs.Compose.{outcome-none, outcome-outcome}
use Rattle.pfx_machine.proofs.Keeping.{below_limit, chosen_is, ledger_after_row, slot_row, state_goes_on}
use Rattle.pfx_machine.proofs.Rowing.{row_below, row_chosen}
use Rattle.pfx_machine.proofs.Places.{state_step-given, state_step-new, state_step-taken}
use Rattle.pfx_machine.proofs.Snoc.{outcome-snoc}
use Rattle.pfx_record.specs.Effect.{instead_of, jobs_from, state_in}
use Rattle.pfx_record.specs.Records.{ran, record_fits, rises_from, tasks_of}
use Rattle.pfx_record.proofs.Rising.{of_both, rises-from}
use Rattle.pfx_machine.specs.Jobs.{has_job, is_busy, is_free}
use Rattle.pfx_record_redo.specs.Applying.{after_record, applied, form_at, is_flagged, is_right}
use Rattle.pfx_record_redo.specs.Recording.{place_of, record_of, records_of, state_after_step}
use Rattle.pfx_record_redo.proofs.Effects.{after-ran, after-submitted, after-withdrawn}
use Rattle.pfx_record_redo.proofs.Renewing.{reweigh_right}
use Rattle.pfx_record_redo.proofs.Rightness.{free_is_real, job_is_real, submit_right, withdraw_right, row_right}

-- the jobs after a recorded row are those after the row

tasks_again : {J : Type 0} (K : Kind J) (jobs : List (Option J)) (row : List ℕ) → tasks_of (map (place_of K jobs) row) ≡ row
tasks_again K jobs [] = refl
tasks_again K jobs (x ∷ row) = ap (λ rest. x ∷ rest) (tasks_again K jobs row)

first_state : {J : Type 0} (K : Kind J) (jobs : List (Option J)) (y x : ℕ) (rest : Option J) (b m : Bool) → (y == x) ≡ b → rest ≡ (if m then state_after_step K (slice_get jobs x) else None) →
    (if b then state_after_step K (slice_get jobs y) else rest) ≡ (if b || m then state_after_step K (slice_get jobs x) else None)
first_state K jobs y x rest true m is h = ap (λ n. state_after_step K (slice_get jobs n)) (eqb-true y x is)
first_state K jobs y x rest false m is h = h

state_if : {J : Type 0} (K : Kind J) (jobs : List (Option J)) (row : List ℕ) (x : ℕ) → state_in (map (place_of K jobs) row) x ≡ (if is_in row x then state_after_step K (slice_get jobs x) else None)
state_if K jobs [] x = refl
state_if K jobs (y ∷ row) x = first_state K jobs y x (state_in (map (place_of K jobs) row) x) (y == x) (is_in row x) refl (state_if K jobs row x)

by_left : {J : Type 0} (K : Kind J) (s : J) (b : Bool) → instead_of (if b then None else Some (K.stepped s)) (Some s) ≡ Some (if b then s else K.stepped s)
by_left K s true = refl
by_left K s false = refl

stepped_place : {J : Type 0} (K : Kind J) (o : Option J) → instead_of (state_after_step K (Some o)) o ≡ once_job K o
stepped_place K None = refl
stepped_place K (Some s) = by_left K s (K.left s == 0)

place_done : {J : Type 0} (K : Kind J) (o : Option J) (m : Bool) → instead_of (if m then state_after_step K (Some o) else None) o ≡ (if m then once_job K o else o)
place_done K o true = stepped_place K o
place_done K o false = refl

jobs_recorded : {J : Type 0} (K : Kind J) (all : List (Option J)) (slot : ℕ) (row : List ℕ) (i : ℕ) (jobs : List (Option J)) → ((k : ℕ) → slice_get jobs k ≡ slice_get all (i + k)) →
    jobs_from (ran (map (place_of K all) row)) i jobs ≡ jobs_step K i (ran_row slot row) jobs
jobs_recorded K all slot row i [] h = refl
jobs_recorded K all slot row i (o ∷ jobs) h =
    let here : slice_get all i ≡ Some o = (let at : i + 0 ≡ i = omega arith in subst (λ n. slice_get all n ≡ Some o) at (sym (h 0))) in
    let head : instead_of (state_in (map (place_of K all) row) i) o ≡ (if is_in row i then once_job K o else o) =
    ap (λ r. instead_of r o) (state_if K all row i ∙ ap (λ p. if is_in row i then state_after_step K p else None) here) ∙ place_done K o (is_in row i) in
    ap₂ ◌∷◌ head (jobs_recorded K all slot row (i + 1) jobs (λ k. let at : i + suc k ≡ i + 1 + k = omega arith in subst (λ n. slice_get jobs k ≡ slice_get all n) at (h (suc k))))

-- the state after a command's record is the command's outcome

pub outcome-one : {J : Type 0} (K : Kind J) (L : Laws K) (s : machine.Plain J) (c : Command J) → outcome K s (c ∷ []) ≡ state_step K s (happening_in s c)
outcome-one K L s c = outcome-snoc K L s [] c ∙ ap (λ t. state_step K t (happening_in t c)) (outcome-none K s)

recorded_step : {J : Type 0} (K : Kind J) (s : machine.Plain J) (c : Command J) → after_record s (record_of K s c) ≡ state_step K s (happening_in s c)
recorded_step K s (Submit task job) = after-submitted K s task job ∙ state_step-given K s task job
recorded_step K s (Withdraw task) = after-withdrawn K s task ∙ state_step-taken K s task
recorded_step K s Slot =
    let row = row_or_none (row_in s) in
    let tasks : tasks_of (map (place_of K s.jobs) row) ≡ row = tasks_again K s.jobs row in
    let jobs = jobs_recorded K s.jobs (whole s) row 0 s.jobs (λ k. let at : k ≡ 0 + k = omega arith in ap (slice_get s.jobs) at) in
    after-ran s (map (place_of K s.jobs) row) ∙ (λ i. record { number = s.number + 1; from = s.from; ledger = after s.ledger (is_in (tasks i)); jobs = jobs i; segment = s.segment })
recorded_step K s (Reweigh workers weights) = state_step-new K s (new_set s.ledger.set workers weights)

pub record_outcome : {J : Type 0} (K : Kind J) (L : Laws K) (s : machine.Plain J) (c : Command J) → after_record s (record_of K s c) ≡ outcome K s (c ∷ [])
record_outcome K L s c = recorded_step K s c ∙ sym (outcome-one K L s c)

-- the record of an accepted command is right

free_by : {J : Type 0} (K : Kind J) (task : ℕ) (s : J) (b : Bool) → (if b then None else Some (TaskBusy task)) ≡ None → b ≡ true
free_by K task s true h = refl
free_by K task s false h = absurd (none-some (TaskBusy task) (sym h))

free_of : {J : Type 0} (K : Kind J) (task : ℕ) (o : Option (Option J)) → submit_fault K task o ≡ None → is_free K o ≡ true
free_of K task None h = absurd (none-some (NoSuchTask task) (sym h))
free_of K task (Some None) h = refl
free_of K task (Some (Some s)) h = free_by K task s (K.left s == 0) h

has_of : {J : Type 0} (task : ℕ) (o : Option (Option J)) → withdraw_fault task o ≡ None → has_job o ≡ true
has_of task None h = absurd (none-some (NoSuchTask task) (sym h))
has_of task (Some None) h = absurd (none-some (NoJob task) (sym h))
has_of task (Some (Some s)) h = refl

small_task : {J : Type 0} (s : machine.Plain J) (task : ℕ) → IsState s → task < length s.jobs → nat_lt task (2 ^ 16) ≡ true
small_task s task h l = lt-ltb task (2 ^ 16) (let few = h.ledger.set.real.1 in omega (arith, l, few, h.jobs))

first_place : (row : List ℕ) (low task : ℕ) → IsStrictlyIncreasing (task ∷ row) → 0 < length row → task + 1 ≤ get_or row 0 0
first_place [] low task rises l = absurd (omega arith)
first_place (x ∷ row) low task rises l = (let a = rises 0 (omega arith) in omega arith)

rest_rises : (x : ℕ) (row : List ℕ) → IsStrictlyIncreasing (x ∷ row) → IsStrictlyIncreasing row
rest_rises x row rises k l =
    let place : suc k + 1 ≡ suc (k + 1) = omega arith in
    subst (λ n. get_or row k 0 < get_or (x ∷ row) n 0) place (rises (suc k) (omega arith))

rising_row : (low total : ℕ) (row : List ℕ) → IsStrictlyIncreasing row → All (λ x. x < total) row → total ≤ 2 ^ 16 → (0 < length row → low ≤ get_or row 0 0) → IsTrue (rises_from low row)
rising_row low total [] rises below few first = refl
rising_row low total (x ∷ row) rises below few first =
    rises-from low x row (first (omega arith)) (let a = below 0 0 (omega arith) in omega (arith, a, few))
    (rising_row (x + 1) total row (rest_rises x row rises) (λ k d b. below (suc k) d (omega arith)) few (first_place row low x rises))

flagged_by : {J : Type 0} (K : Kind J) (s : J) (b : Bool) → (elim (if b then None else Some (K.stepped s)) [ Some state ↦ not b | None ↦ not (not b) ]) ≡ true
flagged_by K s true = refl
flagged_by K s false = refl

flagged_of : {J : Type 0} (K : Kind J) (o : Option (Option J)) → (elim (state_after_step K o) [ Some state ↦ is_busy K o | None ↦ not (is_busy K o) ]) ≡ true
flagged_of K None = refl
flagged_of K (Some None) = refl
flagged_of K (Some (Some s)) = flagged_by K s (K.left s == 0)

flags_of : {J : Type 0} (K : Kind J) (jobs : List (Option J)) (total : ℕ) (row : List ℕ) → All (λ x. x < total) row → IsTrue (list_all (λ place. nat_lt place.task total && is_flagged K jobs place) (map (place_of K jobs) row))
flags_of K jobs total [] below = refl
flags_of K jobs total (x ∷ row) below =
    of_both _ (list_all (λ place. nat_lt place.task total && is_flagged K jobs place) (map (place_of K jobs) row)) (of_both _ _ (lt-ltb x total (below 0 0 (omega arith))) (flagged_of K (slice_get jobs x))) (flags_of K jobs total row (λ k d b. below (suc k) d (omega arith)))

row_is_right : {J : Type 0} (K : Kind J) (s : machine.Plain J) (row : List ℕ) → IsState s → s.number + 1 < 2 ^ 48 → row_in s ≡ Ok row → IsTrue (is_right K s (ran (map (place_of K s.jobs) row)))
row_is_right K s row h below is =
    let places = map (place_of K s.jobs) row in
    let chosen_row = chosen_is s.ledger row (row_chosen s row is) in
    let full : IsFullRow s.ledger.set.workers (total s.ledger) row = pf_full s.ledger row h.ledger chosen_row.pf in
    let next = ledger_after_row s.ledger row h.ledger chosen_row in
    let tasks : tasks_of places ≡ row = tasks_again K s.jobs row in
    let long : length places ≡ s.ledger.set.workers = length-map row (place_of K s.jobs) ∙ full.full in
    let few = h.ledger.set.number in
    let form : IsTrue (record_fits (form_at s) (ran places)) = of_both _ _ (eq-eqb _ _ long) (subst (λ r. IsTrue (rises_from 0 r)) (sym tasks) (rising_row 0 (total s.ledger) row full.rising.1 full.below (omega (arith, few)) (λ l. omega arith))) in
    sym (row_right K s places h.ledger below form (flags_of K s.jobs (total s.ledger) row full.below)
    (subst (IsFullRow s.ledger.set.workers (total s.ledger)) (sym tasks) full) (row_below s row is) (subst (λ r. IsFair (after s.ledger (is_in r))) (sym tasks) next.fair))

pub record_right : {J : Type 0} (K : Kind J) (s : machine.Plain J) (c : Command J) → IsState s → refusal K s c ≡ None → IsTrue (is_right K s (record_of K s c))
record_right K s (Submit task job) h accepted =
    let parts = below_limit s.number (submit_fault K task (slice_get s.jobs task)) accepted in
    let free = free_of K task (slice_get s.jobs task) parts.1 in
    sym (submit_right K s task job h parts.0 (small_task s task h (free_is_real K s.jobs task free)) free)
record_right K s (Withdraw task) h accepted =
    let parts = below_limit s.number (withdraw_fault task (slice_get s.jobs task)) accepted in
    let has = has_of task (slice_get s.jobs task) parts.1 in
    sym (withdraw_right K s task h parts.0 (small_task s task h (job_is_real s.jobs task has)) has)
record_right K s Slot h accepted =
    let parts = below_limit s.number (slot_fault (row_in s)) accepted in
    row_is_right K s (row_or_none (row_in s)) h parts.0 (slot_row (row_in s) parts.1)
record_right K s (Reweigh workers weights) h accepted = reweigh_right K s workers weights h accepted

-- lists

rebase : {J : Type 0} (K : Kind J) (L : Laws K) (s : machine.Plain J) (before more H : List (Command J)) → AllAccepted K s (before ++ more) H → AllAccepted K (outcome K s before) more H
rebase K L s before more [] h = tt
rebase K L s before more (c ∷ H) h =
    (subst (λ t. refusal K t c ≡ None) (sym (outcome-outcome K L s before more)) h.0, rebase K L s before (more ++ c ∷ []) H (subst (λ xs. AllAccepted K s xs H) (append_assoc before more (c ∷ [])) h.1))

pub records_outcome : {J : Type 0} (K : Kind J) (L : Laws K) (s : machine.Plain J) (H : List (Command J)) → IsState s → IsAcceptable K s H → applied K s (records_of K s H) ≡ Some (outcome K s H)
records_outcome K L s [] h all = ap Some (sym (outcome-none K s))
records_outcome K L s (c ∷ H) h all =
    let accepted : refusal K s c ≡ None = subst (λ t. refusal K t c ≡ None) (outcome-none K s) all.0 in
    let next : IsState (outcome K s (c ∷ [])) = subst IsState (sym (outcome-one K L s c)) (state_goes_on K s c h accepted) in
    let right = record_right K s c h accepted in
    cond-true _ _ _ right
    ∙ (ap (λ t. applied K t (records_of K (outcome K s (c ∷ [])) H)) (record_outcome K L s c)
    ∙ (records_outcome K L (outcome K s (c ∷ [])) H next (rebase K L s (c ∷ []) [] H all.1)
    ∙ ap Some (outcome-outcome K L s (c ∷ []) H)))
