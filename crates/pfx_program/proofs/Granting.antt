-- The answers that a course's commands give follow what was granted.
use Rattle.std.proofs.Common.{◌≡◌, ◌≢◌, ◌≤◌, ℕ, zero, suc, ◌+◌, ◌==◌, ◌&&◌, Bool, true, false, nat_lt, nat_le, map, List, [], ◌∷◌, ◌++◌, Option, Some, None, Result, Ok, Err, refl, sym, ap, subst, ◌∙◌, append_assoc, append-nil, arith}
use Rattle.std.specs.Prelude.{if◌then◌else◌, slice_get, slice_index_or, ⊤}
use Rattle.std.specs.Option.{option_map}
use Rattle.std.proofs.lemmas.Bool.{and_parts}
use Rattle.std.proofs.lemmas.Bool.Decides.{nat_tests}
use Rattle.std.proofs.lemmas.Option.{none-some}
use Rattle.pfx_weights.specs.Rows.{is_in, one}
use Rattle.pfx_columns.specs.Ledgers.{task, add}
use Rattle.pfx_machine.specs.Choosing.{row_in}
use Rattle.pfx_jobs.specs.Kind.{Kind}
use Rattle.pfx_kinds.specs.AnyKind.{any_kind, any_laws, any_left, any_stepped}
use Rattle.pfx_kinds.specs.Starts.{any_start}
use Rattle.pfx_kinds.specs.declared.any.AnyJob.{AnyJob}
use Rattle.pfx_kinds.specs.declared.any.AnyJob.TheVariants.{Count, Rule, Scan, Own}
use Rattle.pfx_kinds.specs.declared.start.JobStartFault.{JobStartFault}
use Rattle.pfx_machine.specs.Plain.{Plain, whole}
use Rattle.pfx_machine.specs.declared.plain.Happening.{Happening}
use Rattle.pfx_machine.specs.declared.plain.Happening.TheVariants.{Given as given, Taken as taken, Ran as ran}
use Rattle.pfx_machine.specs.Happenings.{row_or_none}
use Rattle.pfx_machine.specs.Reweighing.{new_set}
use Rattle.pfx_machine.specs.Outcome.{outcome}
use Rattle.pfx_machine.specs.Refusals.{refusal, reply, command_fault, submit_fault}
use Rattle.pfx_machine.specs.Runs.{answer_by}
use Rattle.pfx_machine.specs.Steps.{once, once_job, job_step, jobs_step, state_step, happening_in}
use Rattle.pfx_machine.specs.declared.command.Command.{Command}
use Rattle.pfx_machine.specs.declared.command.Command.TheVariants.{Submit, Slot, Withdraw, Reweigh}
use Rattle.pfx_machine.specs.declared.faults.MachineFault.{MachineFault}
use Rattle.pfx_machine.specs.declared.faults.MachineFault.TheVariants.{NoSuchTask}
use Rattle.pfx_machine.proofs.Compose.{outcome-none, outcome-outcome}
use Rattle.pfx_machine.proofs.Keeping.{below_limit}
use Rattle.pfx_machine.proofs.Snoc.{outcome-snoc}
use Rattle.pfx_fault.specs.declared.refusals.Fault.{Fault}
use Rattle.pfx_fault.specs.declared.refusals.Fault.TheVariants as fault
use Rattle.pfx_program_script.specs.Records.{Fields}
use Rattle.pfx_program_script.specs.Verbs.{Said, submit, slot, withdraw, settle, status, show, reweigh, verb_of}
use Rattle.pfx_program_script.specs.Weights.{said_weights}
use Rattle.pfx_kinds.specs.Units.{unit_of, last_by, count_in, is_behind, is_taken}
use Rattle.pfx_kinds.specs.declared.units.Unit.{Unit}
use Rattle.pfx_program.specs.Grants.{last_at, counted, granted, is_next, last_of, AreGranted, FollowsAt, Follows, AllFollow, with_unit, units_of, KeepsAnswers, CountUp}
use Rattle.pfx_program.specs.Jobs.{shown_jobs}
use Rattle.pfx_program.specs.Script.{Run, with_command, commands_of, moved, answered, refused, command_step, follows, slot_steps, job_by, submitted, submitted_if, jobs_step as shown_step, verb_steps, course_by, course_from}
use Rattle.pfx_program.proofs.StepLemmas.{commands_append}

-- ---- a task's place after a command

pub get_step : {J : Type 0} (K : Kind J) (h : Happening J) (i k m : ℕ) (jobs : List (Option J)) → m ≡ i + k → slice_get (jobs_step K i h jobs) k ≡ option_map (job_step K m h) (slice_get jobs k)
get_step K h i k m [] e = refl
get_step K h i zero m (o ∷ jobs) e =
    let at : i ≡ m = omega arith in
    ap (λ n. Some (job_step K n h o)) at
get_step K h i (suc k) m (o ∷ jobs) e = get_step K h (i + 1) k m jobs (omega arith)

-- the unit that was last answered, after what happened
last_step : (s : Plain AnyJob) (h : Happening AnyJob) (x : ℕ) → last_of (state_step any_kind s h) x ≡ last_at (option_map (job_step any_kind x h) (slice_get s.jobs x))
last_step s h x =
    let is : slice_get (jobs_step any_kind 0 h s.jobs) x ≡ option_map (job_step any_kind x h) (slice_get s.jobs x) = get_step any_kind h 0 x x s.jobs (omega arith) in
    ap last_at is

-- a step of a job leaves its answer
unit_stepped : (job : AnyJob) → unit_of (any_stepped job) ≡ unit_of job
unit_stepped (Count job) = refl
unit_stepped (Rule job) = refl
unit_stepped (Scan job) = refl
unit_stepped (Own job) = refl

unit_once : (job : AnyJob) → unit_of (once any_kind job) ≡ unit_of job
unit_once job = elim (any_left job == 0) as (λ b. unit_of (if b then job else any_stepped job) ≡ unit_of job) [ true ↦ refl | false ↦ unit_stepped job ]

last_once : (o : Option AnyJob) → last_by unit_of (once_job any_kind o) ≡ last_by unit_of o
last_once None = refl
last_once (Some job) = unit_once job

last_ran : (x t : ℕ) (row : List ℕ) (place : Option (Option AnyJob)) → last_at (option_map (job_step any_kind x (ran t row)) place) ≡ last_at place
last_ran x t row None = refl
last_ran x t row (Some o) = elim (is_in row x) as (λ b. last_by unit_of (if b then once_job any_kind o else o) ≡ last_by unit_of o) [ true ↦ last_once o | false ↦ refl ]

-- a task never loses a slot
alloc_grows : (s : ℕ → Bool) (k : ℕ) (allocs : List ℕ) (x : ℕ) → slice_index_or allocs x 0 ≤ slice_index_or (add s k allocs) x 0
alloc_grows s k [] x = omega arith
alloc_grows s k (a ∷ allocs) zero = omega arith
alloc_grows s k (a ∷ allocs) (suc x) = alloc_grows s (k + 1) allocs x

equal_by : (y x : ℕ) → (y == x) ≡ true → y ≡ x
equal_by y x e = grind (arith, nat_tests)

-- a slot gives a task one unit at the most
alloc_within : (s : ℕ → Bool) (k : ℕ) (allocs : List ℕ) (x : ℕ) → slice_index_or (add s k allocs) x 0 ≤ slice_index_or allocs x 0 + 1
alloc_within s k [] x = omega arith
alloc_within s k (a ∷ allocs) zero = by (s k)
  where
    by : (b : Bool) → a + one b ≤ a + 1
    by true = omega arith
    by false = omega arith
alloc_within s k (a ∷ allocs) (suc x) = alloc_within s (k + 1) allocs x

-- new weights begin with no units
none_given : {A : Type 0} (weights : List A) (x : ℕ) → slice_index_or (map (λ _. zero) weights) x zero ≡ zero
none_given [] x = refl
none_given (w ∷ weights) zero = refl
none_given (w ∷ weights) (suc x) = none_given weights x

last_new : (place : Option (Option AnyJob)) → last_at (option_map (λ o. o) place) ≡ last_at place
last_new None = refl
last_new (Some o) = refl

-- the last answer after a command is the one before, or the command's
data LastAfter (s : Plain AnyJob) (c : Command AnyJob) (x : ℕ) (last : Unit) : Type 0 where
  as_before : last_of s x ≡ Some last → LastAfter s c x last
  is_given : (job : AnyJob) → c ≡ Submit x job → unit_of job ≡ Some last → LastAfter s c x last

last_after : (s : Plain AnyJob) (c : Command AnyJob) (x : ℕ) (last : Unit) → last_of (state_step any_kind s (happening_in s c)) x ≡ Some last → LastAfter s c x last
last_after s (Submit y job) x last is = by (slice_get s.jobs x) refl (y == x) refl (sym (last_step s (given y job) x) ∙ is)
  where
    by : (place : Option (Option AnyJob)) → slice_get s.jobs x ≡ place → (b : Bool) → (y == x) ≡ b → last_at (option_map (λ o. if b then Some job else o) place) ≡ Some last → LastAfter s (Submit y job) x last
    by None p b e l = absurd (none-some last l)
    by (Some o) p false e l = as_before (ap last_at p ∙ l)
    by (Some o) p true e l = is_given job (ap (λ z. Submit z job) (equal_by y x e)) l
last_after s (Withdraw y) x last is = by (slice_get s.jobs x) refl (y == x) (sym (last_step s (taken y) x) ∙ is)
  where
    by : (place : Option (Option AnyJob)) → slice_get s.jobs x ≡ place → (b : Bool) → last_at (option_map (λ o. if b then None else o) place) ≡ Some last → LastAfter s (Withdraw y) x last
    by None p b l = absurd (none-some last l)
    by (Some o) p false l = as_before (ap last_at p ∙ l)
    by (Some o) p true l = absurd (none-some last l)
last_after s Slot x last is =
    as_before (sym (last_step s (happening_in s Slot) x ∙ last_ran x (whole s) (row_or_none (row_in s)) (slice_get s.jobs x)) ∙ is)
last_after s (Reweigh workers weights) x last is =
    as_before (sym (last_step s (happening_in s (Reweigh workers weights)) x ∙ last_new (slice_get s.jobs x)) ∙ is)

-- a command that follows keeps it so that each answered unit was granted
granted_step : (s : Plain AnyJob) (c : Command AnyJob) → AreGranted s → Follows s c → AreGranted (state_step any_kind s (happening_in s c))
granted_step s (Submit y job) h f = record { given = λ x last is same. number x last (last_after s (Submit y job) x last is) same; early = λ x last is. early x last (last_after s (Submit y job) x last is); within = h.within }
  where
    at : (x : ℕ) (last : Unit) (other : AnyJob) → Submit y job ≡ Submit x other → unit_of other ≡ Some last → FollowsAt s x (Some last)
    at x last other e u =
        let task_is : y ≡ x = cc in
        let job_is : job ≡ other = cc in
        subst (λ z. FollowsAt s z (Some last)) task_is (subst (FollowsAt s y) (ap unit_of job_is ∙ u) f)

    number : (x : ℕ) (last : Unit) → LastAfter s (Submit y job) x last → last.since ≡ s.from → last.number ≤ granted s x
    number x last (as_before is) same = h.given x last is same
    number x last (is_given other e u) same = (at x last other e u).1

    early : (x : ℕ) (last : Unit) → LastAfter s (Submit y job) x last → last.since ≤ s.from
    early x last (as_before is) = h.early x last is
    early x last (is_given other e u) = let same = (at x last other e u).0 in omega (arith, same)
granted_step s (Withdraw y) h f = record { given = λ x last is same. h.given x last (before x last (last_after s (Withdraw y) x last is)) same; early = λ x last is. h.early x last (before x last (last_after s (Withdraw y) x last is)); within = h.within }
  where
    before : (x : ℕ) (last : Unit) → LastAfter s (Withdraw y) x last → last_of s x ≡ Some last
    before x last (as_before is) = is
    before x last (is_given other e u) = absurd cc
granted_step s Slot h f = record {
  given = λ x last is same. let old = h.given x last (before x last (last_after s Slot x last is)) same in let grows = alloc_grows (is_in (row_or_none (row_in s))) 0 s.ledger.allocs x in omega (arith, old, grows);
  early = λ x last is. h.early x last (before x last (last_after s Slot x last is));
  within = λ x. let old = h.within x in let one_more = alloc_within (is_in (row_or_none (row_in s))) 0 s.ledger.allocs x in omega (arith, old, one_more);
}
  where
    before : (x : ℕ) (last : Unit) → LastAfter s Slot x last → last_of s x ≡ Some last
    before x last (as_before is) = is
    before x last (is_given other e u) = absurd cc
granted_step s (Reweigh workers weights) h f = record {
  given = λ x last is same.
      let was = before x last (last_after s (Reweigh workers weights) x last is) in
      let early = h.early x last was in
      let old : last.since ≡ s.from → last.number ≤ granted s x = h.given x last was in
      let within = h.within x in
      let first : last.since ≡ s.from = omega (arith, early, same) in
      let number = old first in
      omega (arith, early, same, number, within);
  early = λ x last is. let early = h.early x last (before x last (last_after s (Reweigh workers weights) x last is)) in omega (arith, early);
  within = λ x. let none = none_given (new_set s.ledger.set workers weights).weights x in omega (arith, none);
}
  where
    before : (x : ℕ) (last : Unit) → LastAfter s (Reweigh workers weights) x last → last_of s x ≡ Some last
    before x last (as_before is) = is
    before x last (is_given other e u) = absurd cc

-- ---- lists of commands, each of which follows

abbrev Each : Plain AnyJob → List (Command AnyJob) → List (Command AnyJob) → Type 0
Each s before [] = ⊤
Each s before (c ∷ H) = Follows (outcome any_kind s before) c × Each s (before ++ c ∷ []) H

then_each : (s : Plain AnyJob) (H before G : List (Command AnyJob)) → Each (outcome any_kind s H) before G → Each s (H ++ before) G
then_each s H before [] h = tt
then_each s H before (c ∷ G) (one, rest) = (
  subst (λ (t : Plain AnyJob). Follows t c) (outcome-outcome any_kind any_laws s H before) one,
  subst (λ (l : List (Command AnyJob)). Each s l G) (sym (append_assoc H before (c ∷ []))) (then_each s H (before ++ c ∷ []) G rest),
)

both_each : (s : Plain AnyJob) (before H G : List (Command AnyJob)) → Each s before H → Each s (before ++ H) G → Each s before (H ++ G)
both_each s before [] G h more = subst (λ (l : List (Command AnyJob)). Each s l G) (append-nil before) more
both_each s before (c ∷ H) G (one, rest) more =
    (one, both_each s (before ++ c ∷ []) H G rest (subst (λ (l : List (Command AnyJob)). Each s l G) (sym (append_assoc before (c ∷ []) H)) more))

each_both : (s : Plain AnyJob) (H G : List (Command AnyJob)) → Each s [] H → Each (outcome any_kind s H) [] G → Each s [] (H ++ G)
each_both s H G first second = both_each s [] H G first (subst (λ (l : List (Command AnyJob)). Each s l G) (append-nil H) (then_each s H [] G second))

-- ---- one step

step_by : (r : Run) (c : Command AnyJob) (o : Option MachineFault) → (o ≡ None → Follows r.state c) → (room : Bool)
    → Each r.state [] (with_command (if room then answered r c (answer_by (reply r.state c) o) else refused r.form fault.SessionFull).command [])
step_by r c None f true = (subst (λ (t : Plain AnyJob). Follows t c) (sym (outcome-none any_kind r.state)) (f refl), tt)
step_by r c (Some x) f true = tt
step_by r c o f false = tt

step_each : (r : Run) (c : Command AnyJob) → (refusal any_kind r.state c ≡ None → Follows r.state c) → Each r.state [] (with_command (command_step r c).command [])
step_each r c f = step_by r c (refusal any_kind r.state c) f (nat_lt r.accepted 1048576)

-- an answer that is taken, and that the machine accepts, follows
behind_is : (from : ℕ) (o : Option Unit) (last : Unit) (number : ℕ) → o ≡ Some last → is_behind from o number ≡ true → number ≡ count_in from last + 1
behind_is from None last number e b = absurd (none-some last e)
behind_is from (Some m) last number e b =
    let same : m ≡ last = cc in
    equal_by number (count_in from m + 1) b ∙ ap (λ u. count_in from u + 1) same

taken_follows : (s : Plain AnyJob) (x : ℕ) (o : Option Unit) (place : Option (Option AnyJob)) → slice_get s.jobs x ≡ place → submit_fault any_kind x place ≡ None
    → is_taken unit_of s.from place (task s.ledger x).alloc o ≡ true → FollowsAt s x o
taken_follows s x None place p free t = tt
taken_follows s x (Some unit) None p free t = absurd (none-some (NoSuchTask x) (sym free))
taken_follows s x (Some unit) (Some o) p free t =
    let rest : Bool = is_behind s.from (last_by unit_of o) unit.number in
    let parts = and_parts (unit.since == s.from && nat_le unit.number (task s.ledger x).alloc) rest t in
    let first = and_parts (unit.since == s.from) (nat_le unit.number (task s.ledger x).alloc) parts.0 in
    let le : nat_le unit.number (task s.ledger x).alloc ≡ true = first.1 in
    let within : unit.number ≤ (task s.ledger x).alloc = grind (arith, nat_tests, le) in
    (equal_by unit.since s.from first.0, within, λ last is. behind_is s.from (last_by unit_of o) last unit.number (sym (ap last_at p) ∙ is) parts.1)

-- ---- the steps of a record

slots_each : (r : Run) (n : ℕ) → Each r.state [] (commands_of (slot_steps r n))
unfolding slot_steps
slots_each r zero = tt
slots_each r (suc n) = more (command_step r Slot).command (step_each r Slot (λ _. tt)) (λ next. slots_each next n)
  where
    more : (o : Option (Command AnyJob)) → Each r.state [] (with_command o []) → ((next : Run) → Each next.state [] (commands_of (slot_steps next n)))
        → Each r.state [] (with_command o (commands_of (follows (λ next. slot_steps next n) r o)))
    more None h rest = tt
    more (Some c) h rest = each_both r.state (c ∷ []) (commands_of (slot_steps (moved r (c ∷ [])) n)) h (rest (moved r (c ∷ [])))

submit_each : (r : Run) (x : ℕ) (job : Result AnyJob JobStartFault) → Each r.state [] (with_command (submitted r x job).command [])
submit_each r x (Ok given_job) = by (is_next r.state x job) refl
  where
    job : AnyJob
    job = counted r.state x given_job

    by : (next : Bool) → is_next r.state x job ≡ next → Each r.state [] (with_command (submitted_if next r x job).command [])
    by true e = step_each r (Submit x job) (λ accepted. taken_follows r.state x (unit_of job) (slice_get r.state.jobs x) refl (below_limit r.state.number (command_fault any_kind r.state (Submit x job)) accepted).1 e)
    by false e = tt
submit_each r x (Err f) = tt

jobs_each : (r : Run) (o : Result (List ℕ) Fault) → Each r.state [] (with_command (shown_step r.form o).command [])
jobs_each r (Ok text) = tt
jobs_each r (Err f) = tt

verb_each : (r : Run) (said : Said) → Each r.state [] (commands_of (verb_steps r said))
verb_each r (submit x kind goal text) = submit_each r x (job_by (any_start kind goal text))
verb_each r (slot n) = slots_each r n
verb_each r (withdraw x) = step_each r (Withdraw x) (λ _. tt)
verb_each r settle = tt
verb_each r status = tt
verb_each r (show x) = jobs_each r (shown_jobs r.form r.state.jobs x)
verb_each r (reweigh workers text) = step_each r (Reweigh workers (said_weights text)) (λ _. tt)

-- ---- a course

course_each : (at : ℕ) (r : Run) (rows : List Fields) → Each r.state [] (commands_of (course_from at r rows).steps)
unfolding course_from
course_each at r [] = tt
course_each at r (row ∷ rows) = by (verb_of row) (λ next. course_each (at + 1) next rows)
  where
    by : (o : Option Said) → ((next : Run) → Each next.state [] (commands_of (course_from (at + 1) next rows).steps))
        → Each r.state [] (commands_of (course_by (λ next. course_from (at + 1) next rows) at r o).steps)
    by None rest = tt
    by (Some said) rest =
        let steps = verb_steps r said in
        let next = moved r (commands_of steps) in
        subst (λ (l : List (Command AnyJob)). Each r.state [] l) (sym (commands_append steps (course_from (at + 1) next rows).steps))
        (each_both r.state (commands_of steps) (commands_of (course_from (at + 1) next rows).steps) (verb_each r said) (rest next))

each_granted : (s : Plain AnyJob) (before H : List (Command AnyJob)) → AreGranted (outcome any_kind s before) → Each s before H → AllFollow s before H
each_granted s before [] g h = g
each_granted s before (c ∷ H) g (one, rest) =
    let again : AreGranted (outcome any_kind s (before ++ c ∷ [])) = subst AreGranted (sym (outcome-snoc any_kind any_laws s before c)) (granted_step (outcome any_kind s before) c g one) in
    (g, one, each_granted s (before ++ c ∷ []) H again rest)

pub course_follows : (at : ℕ) (r : Run) (rows : List Fields) → AreGranted r.state → AllFollow r.state [] (commands_of (course_from at r rows).steps)
course_follows at r rows g = each_granted r.state [] (commands_of (course_from at r rows).steps) (subst AreGranted (sym (outcome-none any_kind r.state)) g) (course_each at r rows)

-- ---- the units of one task

-- after a command that leaves a task's job
other_given : (s : Plain AnyJob) (x y : ℕ) (job : AnyJob) → (y == x) ≡ false → last_of (state_step any_kind s (given y job)) x ≡ last_of s x
other_given s x y job e = last_step s (given y job) x ∙ by (slice_get s.jobs x) (y == x) e
  where
    by : (place : Option (Option AnyJob)) (b : Bool) → b ≡ false → last_at (option_map (λ o. if b then Some job else o) place) ≡ last_at place
    by None b e = refl
    by (Some o) true e = absurd cc
    by (Some o) false e = refl

other_taken : (s : Plain AnyJob) (x y : ℕ) → y ≢ x → last_of (state_step any_kind s (taken y)) x ≡ last_of s x
other_taken s x y n = last_step s (taken y) x ∙ by (slice_get s.jobs x) (y == x) refl
  where
    by : (place : Option (Option AnyJob)) (b : Bool) → (y == x) ≡ b → last_at (option_map (λ o. if b then None else o) place) ≡ last_at place
    by None b e = refl
    by (Some o) true e = absurd (n (equal_by y x e))
    by (Some o) false e = refl

-- after an answer, where one was there
given_unit : (s : Plain AnyJob) (x y : ℕ) (last unit : Unit) (job : AnyJob) → (y == x) ≡ true → last_of s x ≡ Some last → unit_of job ≡ Some unit → last_of (state_step any_kind s (given y job)) x ≡ Some unit
given_unit s x y last unit job e there is = last_step s (given y job) x ∙ by (slice_get s.jobs x) (y == x) e there
  where
    by : (place : Option (Option AnyJob)) (b : Bool) → b ≡ true → last_at place ≡ Some last → last_at (option_map (λ o. if b then Some job else o) place) ≡ Some unit
    by None b e l = absurd (none-some last l)
    by (Some o) true e l = is
    by (Some o) false e l = absurd cc

units_count : (s : Plain AnyJob) (before H : List (Command AnyJob)) (x : ℕ) (last : Unit) → Each s before H → last_of (outcome any_kind s before) x ≡ Some last → KeepsAnswers x H → CountUp last (units_of x H)
units_count s before [] x last h is keeps = tt
units_count s before (Submit y job ∷ H) x last (one, rest) is (keep, keeps) = by (y == x) refl (unit_of job) refl (λ k there. units_count s (before ++ Submit y job ∷ []) H x k rest there keeps)
  where
    now : Plain AnyJob
    now = outcome any_kind s before

    next : last_of (outcome any_kind s (before ++ Submit y job ∷ [])) x ≡ last_of (state_step any_kind now (given y job)) x
    next = ap (λ (t : Plain AnyJob). last_of t x) (outcome-snoc any_kind any_laws s before (Submit y job))

    by : (b : Bool) → (y == x) ≡ b → (o : Option Unit) → unit_of job ≡ o → ((k : Unit) → last_of (outcome any_kind s (before ++ Submit y job ∷ [])) x ≡ Some k → CountUp k (units_of x H))
        → CountUp last (if b then with_unit o (units_of x H) else units_of x H)
    by false e o u more = more last (next ∙ other_given now x y job e ∙ is)
    by true e None u more = absurd (keep (equal_by y x e) u)
    by true e (Some unit) u more =
        let follows : FollowsAt now y (Some unit) = subst (FollowsAt now y) u one in
        let there : last_of now y ≡ Some last = ap (last_of now) (equal_by y x e) ∙ is in
        (follows.2 last there ∙ ap (λ from. count_in from last + 1) (sym follows.0), more unit (next ∙ given_unit now x y last unit job e is u))
units_count s before (Withdraw y ∷ H) x last (one, rest) is (keep, keeps) =
    let next : last_of (outcome any_kind s (before ++ Withdraw y ∷ [])) x ≡ last_of (state_step any_kind (outcome any_kind s before) (taken y)) x
    = ap (λ (t : Plain AnyJob). last_of t x) (outcome-snoc any_kind any_laws s before (Withdraw y)) in
    units_count s (before ++ Withdraw y ∷ []) H x last rest (next ∙ other_taken (outcome any_kind s before) x y keep ∙ is) keeps
units_count s before (Slot ∷ H) x last (one, rest) is keeps =
    let now = outcome any_kind s before in
    let next : last_of (outcome any_kind s (before ++ Slot ∷ [])) x ≡ last_of (state_step any_kind now (happening_in now Slot)) x
    = ap (λ (t : Plain AnyJob). last_of t x) (outcome-snoc any_kind any_laws s before Slot) in
    units_count s (before ++ Slot ∷ []) H x last rest (next ∙ last_step now (happening_in now Slot) x ∙ last_ran x (whole now) (row_or_none (row_in now)) (slice_get now.jobs x) ∙ is) keeps
units_count s before (Reweigh workers weights ∷ H) x last (one, rest) is keeps =
    let now = outcome any_kind s before in
    let c : Command AnyJob = Reweigh workers weights in
    let next : last_of (outcome any_kind s (before ++ c ∷ [])) x ≡ last_of (state_step any_kind now (happening_in now c)) x
    = ap (λ (t : Plain AnyJob). last_of t x) (outcome-snoc any_kind any_laws s before c) in
    units_count s (before ++ c ∷ []) H x last rest (next ∙ last_step now (happening_in now c) x ∙ last_new (slice_get now.jobs x) ∙ is) keeps

pub course_counts : (at : ℕ) (r : Run) (rows : List Fields) (x : ℕ) (last : Unit) → last_of r.state x ≡ Some last → KeepsAnswers x (commands_of (course_from at r rows).steps)
    → CountUp last (units_of x (commands_of (course_from at r rows).steps))
course_counts at r rows x last is keeps =
    units_count r.state [] (commands_of (course_from at r rows).steps) x last (course_each at r rows) (ap (λ (t : Plain AnyJob). last_of t x) (outcome-none any_kind r.state) ∙ is) keeps
