-- No slot is among a job's quanta twice.
use Rattle.std.specs.Prelude.{◌≡◌, ℕ, ◌+◌, ◌≤◌, if◌then◌else◌, Bool, true, false, List, [], ◌∷◌, ◌++◌, length, take, Option, Some, None, ⊤}
use Rattle.std.proofs.Common.{zero, suc, sym, ◌∙◌, ap, ap₂, subst, arith, length-append}
use Rattle.pfx_weights.specs.Sets.{FilledSet}
use Rattle.pfx_columns.specs.Ledgers.{Ledger}
use Rattle.pfx_choice.specs.Plans.{past}
use Rattle.pfx_choice.proofs.Planning.{past_none}
use Rattle.pfx_machine.specs.Steps.{ledger_step, from_step}
use Rattle.pfx_machine.proofs.Snoc.{rows-snoc, ledger-snoc, from-snoc}
use Rattle.pfx_weights.specs.Rows.{is_in}
use Rattle.pfx_jobs.specs.Kind.{Kind}
use Rattle.pfx_machine.specs.Plain.{Plain, whole}
use Rattle.pfx_machine.specs.Happenings.{Happening, given, taken, ran, reweighed, rows_of, ledger_after, from_after, whole_after, happening, happenings_behind, happenings}
use Rattle.pfx_machine.specs.Last.{last_that, rest_of, behind_last}
use Rattle.pfx_machine.specs.Outcome.{changes_task, job_at_start, span_of, slots_of, first_slots, quanta_of}
use Rattle.pfx_machine.specs.Rising.{RisesFrom}
use Rattle.pfx_machine.specs.declared.command.Command.{Command}
use Rattle.pfx_machine.specs.declared.command.Command.TheVariants.{Submit, Slot, Withdraw, Reweigh}

-- the slots that were run are the next ones from n on
abbrev pub Goes : {J : Type 0} → ℕ → List (Happening J) → Type 0
Goes n [] = ⊤
Goes n (given task job ∷ happened) = Goes n happened
Goes n (taken task ∷ happened) = Goes n happened
Goes n (ran slot row ∷ happened) = (slot ≡ n) × Goes (n + 1) happened
Goes n (reweighed slot set ∷ happened) = Goes n happened

goes_on : {J : Type 0} (n : ℕ) (happened : List (Happening J)) (slot : ℕ) (row : List ℕ) → Goes n happened → slot ≡ n + length (rows_of happened) → Goes n (happened ++ ran slot row ∷ [])
goes_on n [] slot row h e = (omega arith, tt)
goes_on n (given task job ∷ happened) slot row h e = goes_on n happened slot row h e
goes_on n (taken task ∷ happened) slot row h e = goes_on n happened slot row h e
goes_on n (ran other r ∷ happened) slot row h e = (h.0, goes_on (n + 1) happened slot row h.1 (omega arith))
goes_on n (reweighed other set ∷ happened) slot row h e = goes_on n happened slot row h e

goes_given : {J : Type 0} (n : ℕ) (happened : List (Happening J)) (task : ℕ) (job : J) → Goes n happened → Goes n (happened ++ given task job ∷ [])
goes_given n [] task job h = tt
goes_given n (given t j ∷ happened) task job h = goes_given n happened task job h
goes_given n (taken t ∷ happened) task job h = goes_given n happened task job h
goes_given n (ran s r ∷ happened) task job h = (h.0, goes_given (n + 1) happened task job h.1)
goes_given n (reweighed s set ∷ happened) task job h = goes_given n happened task job h

goes_taken : {J : Type 0} (n : ℕ) (happened : List (Happening J)) (task : ℕ) → Goes n happened → Goes n (happened ++ taken task ∷ [])
goes_taken n [] task h = tt
goes_taken n (given t j ∷ happened) task h = goes_taken n happened task h
goes_taken n (taken t ∷ happened) task h = goes_taken n happened task h
goes_taken n (ran s r ∷ happened) task h = (h.0, goes_taken (n + 1) happened task h.1)
goes_taken n (reweighed s set ∷ happened) task h = goes_taken n happened task h

goes_new : {J : Type 0} (n : ℕ) (happened : List (Happening J)) (slot : ℕ) (set : FilledSet) → Goes n happened → Goes n (happened ++ reweighed slot set ∷ [])
goes_new n [] slot set h = tt
goes_new n (given t j ∷ happened) slot set h = goes_new n happened slot set h
goes_new n (taken t ∷ happened) slot set h = goes_new n happened slot set h
goes_new n (ran s r ∷ happened) slot set h = (h.0, goes_new (n + 1) happened slot set h.1)
goes_new n (reweighed s t ∷ happened) slot set h = goes_new n happened slot set h

-- the slot to come is one more for each row
abbrev Counted : {J : Type 0} → Plain J → List (Happening J) → Type 0
Counted B happened = whole_after B happened ≡ whole B + length (rows_of happened)

-- a happening counts as many slots as it has rows
counts : {J : Type 0} (B : Plain J) (happened : List (Happening J)) (c : Command J) (n : ℕ) → whole_after B happened ≡ n →
    from_step (from_after B happened) (happening B happened c) + (ledger_step (ledger_after B happened) (happening B happened c)).slot ≡ n + length (rows_of (happening B happened c ∷ []))
counts B happened (Submit task job) n h = omega (arith, h)
counts B happened (Withdraw task) n h = omega (arith, h)
counts B happened Slot n h = omega (arith, h)
counts B happened (Reweigh workers weights) n h = omega (arith, h)

counted_next : {J : Type 0} (B : Plain J) (happened : List (Happening J)) (c : Command J) → Counted B happened → Counted B (happened ++ happening B happened c ∷ [])
counted_next B happened c h =
    let one : whole B + length (rows_of happened) + length (rows_of (happening B happened c ∷ [])) ≡ whole B + length (rows_of (happened ++ happening B happened c ∷ [])) =
    (let all = length-append (rows_of happened) (rows_of (happening B happened c ∷ [])) in
    let rows : length (rows_of (happened ++ happening B happened c ∷ [])) ≡ length (rows_of happened ++ rows_of (happening B happened c ∷ [])) = ap length (rows-snoc happened (happening B happened c)) in
    omega (arith, all, rows)) in
    ap₂ (λ (f : ℕ) (g : Ledger). f + g.slot) (from-snoc B happened (happening B happened c)) (ledger-snoc B happened (happening B happened c))
    ∙ (counts B happened c (whole B + length (rows_of happened)) h ∙ one)

goes_next : {J : Type 0} (B : Plain J) (happened : List (Happening J)) (c : Command J) → Goes (whole B) happened → Counted B happened → Goes (whole B) (happened ++ happening B happened c ∷ [])
goes_next B happened (Submit task job) h counted = goes_given (whole B) happened task job h
goes_next B happened (Withdraw task) h counted = goes_taken (whole B) happened task h
goes_next B happened Slot h counted = goes_on (whole B) happened _ _ h counted
goes_next B happened (Reweigh workers weights) h counted = goes_new (whole B) happened _ _ h

goes_behind : {J : Type 0} (B : Plain J) (happened : List (Happening J)) (H : List (Command J)) → Goes (whole B) happened → Counted B happened → Goes (whole B) (happenings_behind B happened H)
goes_behind B happened [] h counted = h
goes_behind B happened (c ∷ H) h counted = goes_behind B (happened ++ happening B happened c ∷ []) H (goes_next B happened c h counted) (counted_next B happened c counted)

counted_behind : {J : Type 0} (B : Plain J) (happened : List (Happening J)) (H : List (Command J)) → Counted B happened → Counted B (happenings_behind B happened H)
counted_behind B happened [] counted = counted
counted_behind B happened (c ∷ H) counted = counted_behind B (happened ++ happening B happened c ∷ []) H (counted_next B happened c counted)

counted_none : {J : Type 0} (B : Plain J) → Counted B []
counted_none B = (let none : (past B.ledger []).slot ≡ B.ledger.slot = ap (λ (g : Ledger). g.slot) (past_none B.ledger) in omega (arith, none))

pub slots_counted : {J : Type 0} (B : Plain J) (H : List (Command J)) → whole_after B (happenings B H) ≡ whole B + length (rows_of (happenings B H))
slots_counted B H = counted_behind B [] H (counted_none B)

-- the rest of what happened goes on from a later slot
record GoesLater {J : Type 0} (n : ℕ) (happened : List (Happening J)) : Type 0 where
  pub from : ℕ
  pub later : n ≤ from
  pub goes : Goes from happened

rest_goes : {J : Type 0} (n : ℕ) (o : Option (Happening J)) (passes : Bool) (h : Happening J) (happened rest : List (Happening J)) → Goes n (h ∷ happened) →
    GoesLater n rest → GoesLater n (rest_of o passes h happened rest)
rest_goes n (Some y) passes h happened rest all later = later
rest_goes n None true (given task job) happened rest all later = record { from = n; later = omega arith; goes = all }
rest_goes n None true (taken task) happened rest all later = record { from = n; later = omega arith; goes = all }
rest_goes n None true (ran slot row) happened rest all later = record { from = n + 1; later = omega arith; goes = all.1 }
rest_goes n None true (reweighed slot set) happened rest all later = record { from = n; later = omega arith; goes = all }
rest_goes n None false h happened rest all later = record { from = n; later = omega arith; goes = all }

earlier : {J : Type 0} (n m : ℕ) (happened : List (Happening J)) → n ≤ m → GoesLater m happened → GoesLater n happened
earlier n m happened le later = record { from = later.from; later = omega (arith, later.later); goes = later.goes }

span_goes : {J : Type 0} (n : ℕ) (p : Happening J → Bool) (happened : List (Happening J)) → Goes n happened → GoesLater n (behind_last p happened)
span_goes n p [] h = record { from = n; later = omega arith; goes = tt }
span_goes n p (given task job ∷ happened) h = rest_goes n (last_that p happened) (p (given task job)) (given task job) happened (behind_last p happened) h (span_goes n p happened h)
span_goes n p (taken task ∷ happened) h = rest_goes n (last_that p happened) (p (taken task)) (taken task) happened (behind_last p happened) h (span_goes n p happened h)
span_goes n p (reweighed slot set ∷ happened) h = rest_goes n (last_that p happened) (p (reweighed slot set)) (reweighed slot set) happened (behind_last p happened) h (span_goes n p happened h)
span_goes n p (ran slot row ∷ happened) h =
    rest_goes n (last_that p happened) (p (ran slot row)) (ran slot row) happened (behind_last p happened) h
    (earlier n (n + 1) (behind_last p happened) (omega arith) (span_goes (n + 1) p happened h.1))

rises_earlier : (n m : ℕ) (xs : List ℕ) → n ≤ m → RisesFrom m xs → RisesFrom n xs
rises_earlier n m [] le h = tt
rises_earlier n m (x ∷ xs) le h = (omega (arith, h.0), h.1)

slots_rise : {J : Type 0} (n task : ℕ) (happened : List (Happening J)) → Goes n happened → RisesFrom n (slots_of task happened)
slots_rise n task [] h = tt
slots_rise n task (given other job ∷ happened) h = slots_rise n task happened h
slots_rise n task (taken other ∷ happened) h = slots_rise n task happened h
slots_rise n task (reweighed slot set ∷ happened) h = slots_rise n task happened h
slots_rise n task (ran slot row ∷ happened) h = elim (is_in row task) as (λ b. RisesFrom n (if b then slot ∷ slots_of task happened else slots_of task happened)) [
  | true ↦ (omega (arith, h.0), subst (λ k. RisesFrom (k + 1) (slots_of task happened)) (sym h.0) (slots_rise (n + 1) task happened h.1))
  | false ↦ rises_earlier n (n + 1) (slots_of task happened) (omega arith) (slots_rise (n + 1) task happened h.1)
]

rises_take : (n k : ℕ) (xs : List ℕ) → RisesFrom n xs → RisesFrom n (take k xs)
rises_take n zero xs h = tt
rises_take n (suc k) [] h = tt
rises_take n (suc k) (x ∷ xs) h = (h.0, rises_take (x + 1) k xs h.1)

first_rise : {J : Type 0} (K : Kind J) (n : ℕ) (o : Option J) (slots : List ℕ) → RisesFrom n slots → RisesFrom n (first_slots K o slots)
first_rise K n None slots h = tt
first_rise K n (Some s) slots h = rises_take n (K.left s) slots h

pub quanta_rise : {J : Type 0} (K : Kind J) (B : Plain J) (H : List (Command J)) (task : ℕ) (before : Option J) → RisesFrom (whole B) (quanta_of K task before (happenings B H))
quanta_rise K B H task before =
    let happened = happenings B H in
    let span = span_goes (whole B) (changes_task task) happened (goes_behind B [] H tt (counted_none B)) in
    first_rise K (whole B) (job_at_start task before happened) (slots_of task (span_of task happened))
    (rises_earlier (whole B) span.from (slots_of task (span_of task happened)) span.later (slots_rise span.from task (span_of task happened) span.goes))
