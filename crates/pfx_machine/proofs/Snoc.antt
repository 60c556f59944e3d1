-- One more command at the end of a list: the state after it is one step of the machine on the state before it.
use Rattle.std.specs.Prelude.{◌≡◌, ◌≢◌, ℕ, ◌+◌, ◌==◌, if◌then◌else◌, Bool, true, false, List, [], ◌∷◌, ◌++◌, length, take, Option, Some, None, min, refl}
use Rattle.std.proofs.Common.{suc, sym, ◌∙◌, ap, ap₂, arith, length-append, length-take, append-nil, inl, inr, eq-eqb}
use Rattle.std.proofs.lemmas.Bool.{cond-true, cond-false, cases_lt, ne_eqb}
use Rattle.pfx_weights.specs.Rows.{is_in}
use Rattle.pfx_choice.specs.Plans.{past}
use Rattle.pfx_choice.proofs.Planning.{past_push, past_none}
use Rattle.pfx_columns.specs.Ledgers.{Ledger, start}
use Rattle.pfx_jobs.specs.Kind.{Kind, Laws}
use Rattle.pfx_jobs.specs.Steps.{times}
use Rattle.pfx_jobs.proofs.FromLaws.{left-times}
use Rattle.pfx_machine.specs.Plain.{Plain}
use Rattle.pfx_machine.specs.Happenings.{Happening, given, taken, ran, reweighed, rows_of, is_new, begun, begun_at, ledger_after, from_after, happening, happenings_behind, happenings}
use Rattle.pfx_machine.specs.Last.{last_that, rest_of, behind_last}
use Rattle.pfx_machine.specs.Outcome.{job_given, slots_of, first_slots, stepped_by, job_after, jobs_after, state_after, outcome, changes_task}
use Rattle.pfx_machine.specs.Steps.{once, once_job, job_step, jobs_step, ledger_step, from_step, state_step, happening_in}
use Rattle.pfx_machine.specs.declared.command.Command.{Command}
use Rattle.pfx_machine.specs.declared.command.Command.TheVariants.{Submit, Slot, Withdraw, Reweigh}

pub happenings-snoc : {J : Type 0} (B : Plain J) (happened : List (Happening J)) (H : List (Command J)) (c : Command J) →
    happenings_behind B happened (H ++ c ∷ []) ≡ happenings_behind B happened H ++ happening B (happenings_behind B happened H) c ∷ []
happenings-snoc B happened [] c = refl
happenings-snoc B happened (d ∷ H) c = happenings-snoc B (happened ++ happening B happened d ∷ []) H c

-- the ledger

pub rows-snoc : {J : Type 0} (happened : List (Happening J)) (h : Happening J) → rows_of (happened ++ h ∷ []) ≡ rows_of happened ++ rows_of (h ∷ [])
rows-snoc [] h = refl
rows-snoc (given task job ∷ happened) h = rows-snoc happened h
rows-snoc (taken task ∷ happened) h = rows-snoc happened h
rows-snoc (ran slot row ∷ happened) h = ap (λ rows. row ∷ rows) (rows-snoc happened h)
rows-snoc (reweighed slot set ∷ happened) h = rows-snoc happened h

-- a task's span

pub last_that-snoc : {A : Type 0} (p : A → Bool) (xs : List A) (y : A) → last_that p (xs ++ y ∷ []) ≡ (if p y then Some y else last_that p xs)
last_that-snoc p [] y = refl
last_that-snoc p (x ∷ xs) y = rw (last_that-snoc p xs y) (elim (p y) as (λ b. (elim (if b then Some y else last_that p xs) [ Some z ↦ Some z | None ↦ if p x then Some x else None ]) ≡ (if b then Some y else last_that p (x ∷ xs))) [ true ↦ refl | false ↦ refl ])

behind_at : {A : Type 0} (b : Bool) (o : Option A) (passes : Bool) (x : A) (xs rest : List A) (y : A) →
    rest_of (if b then Some y else o) passes x (xs ++ y ∷ []) (if b then [] else rest ++ y ∷ []) ≡ (if b then [] else rest_of o passes x xs rest ++ y ∷ [])
behind_at true o passes x xs rest y = refl
behind_at false (Some z) passes x xs rest y = refl
behind_at false None true x xs rest y = refl
behind_at false None false x xs rest y = refl

pub behind_last-snoc : {A : Type 0} (p : A → Bool) (xs : List A) (y : A) → behind_last p (xs ++ y ∷ []) ≡ (if p y then [] else behind_last p xs ++ y ∷ [])
behind_last-snoc p [] y = elim (p y) as (λ b. rest_of None b y [] [] ≡ (if b then [] else y ∷ [])) [ true ↦ refl | false ↦ refl ]
behind_last-snoc p (x ∷ xs) y =
    ap (λ o. rest_of o (p x) x (xs ++ y ∷ []) (behind_last p (xs ++ y ∷ []))) (last_that-snoc p xs y)
    ∙ (ap (λ r. rest_of (if p y then Some y else last_that p xs) (p x) x (xs ++ y ∷ []) r) (behind_last-snoc p xs y)
    ∙ behind_at (p y) (last_that p xs) (p x) x xs (behind_last p xs) y)

-- the epoch

-- the rows behind the last new set, by that set and what stands behind it
abbrev past_of : {J : Type 0} → Plain J → Option (Happening J) → List (Happening J) → Ledger
past_of B last behind = past (begun B.ledger last) (rows_of behind)

past_stays : {J : Type 0} (B : Plain J) (last : Option (Happening J)) (behind : List (Happening J)) (h : Happening J) → rows_of (h ∷ []) ≡ [] → past_of B last (behind ++ h ∷ []) ≡ past_of B last behind
past_stays B last behind h none = ap (past (begun B.ledger last)) (rows-snoc behind h ∙ (ap (λ r. rows_of behind ++ r) none ∙ append-nil (rows_of behind)))

past_step : {J : Type 0} (B : Plain J) (last : Option (Happening J)) (behind : List (Happening J)) (h : Happening J) →
    past_of B (if is_new h then Some h else last) (if is_new h then [] else behind ++ h ∷ []) ≡ ledger_step (past_of B last behind) h
past_step B last behind (given task job) = past_stays B last behind (given task job) refl
past_step B last behind (taken task) = past_stays B last behind (taken task) refl
past_step B last behind (ran slot row) = ap (past (begun B.ledger last)) (rows-snoc behind (ran slot row)) ∙ past_push (begun B.ledger last) (rows_of behind) row
past_step B last behind (reweighed slot set) = past_none (start set)

pub ledger-snoc : {J : Type 0} (B : Plain J) (happened : List (Happening J)) (h : Happening J) → ledger_after B (happened ++ h ∷ []) ≡ ledger_step (ledger_after B happened) h
ledger-snoc B happened h =
    ap (λ o. past_of B o (behind_last is_new (happened ++ h ∷ []))) (last_that-snoc is_new happened h)
    ∙ (ap (λ l. past_of B (if is_new h then Some h else last_that is_new happened) l) (behind_last-snoc is_new happened h)
    ∙ past_step B (last_that is_new happened) (behind_last is_new happened) h)

begun_step : {J : Type 0} (from : ℕ) (last : Option (Happening J)) (h : Happening J) → begun_at from (if is_new h then Some h else last) ≡ from_step (begun_at from last) h
begun_step from last (given task job) = refl
begun_step from last (taken task) = refl
begun_step from last (ran slot row) = refl
begun_step from last (reweighed slot set) = refl

pub from-snoc : {J : Type 0} (B : Plain J) (happened : List (Happening J)) (h : Happening J) → from_after B (happened ++ h ∷ []) ≡ from_step (from_after B happened) h
from-snoc B happened h = ap (begun_at B.from) (last_that-snoc is_new happened h) ∙ begun_step B.from (last_that is_new happened) h

slots-snoc : {J : Type 0} (task : ℕ) (happened : List (Happening J)) (h : Happening J) → slots_of task (happened ++ h ∷ []) ≡ slots_of task happened ++ slots_of task (h ∷ [])
slots-snoc task [] h = refl
slots-snoc task (given other job ∷ happened) h = slots-snoc task happened h
slots-snoc task (taken other ∷ happened) h = slots-snoc task happened h
slots-snoc task (reweighed slot set ∷ happened) h = slots-snoc task happened h
slots-snoc task (ran slot row ∷ happened) h = elim (is_in row task) as (λ b.
    (if b then slot ∷ slots_of task (happened ++ h ∷ []) else slots_of task (happened ++ h ∷ [])) ≡ (if b then slot ∷ slots_of task happened else slots_of task happened) ++ slots_of task (h ∷ [])) [
      | true ↦ ap (λ slots. slot ∷ slots) (slots-snoc task happened h)
      | false ↦ slots-snoc task happened h
    ]

-- a job

-- one more slot that serves a job is one step of the machine on it
once-times : {J : Type 0} (K : Kind J) (L : Laws K) (s : J) (n : ℕ) → times (min (K.left s) (n + 1)) K.stepped s ≡ once K (times (min (K.left s) n) K.stepped s)
once-times K L s n = elim (cases_lt n (K.left s)) [
  | inl below ↦
      let at : min (K.left s) n ≡ n = omega arith in
      let next : min (K.left s) (n + 1) ≡ suc n = omega arith in
      let more : K.left (times n K.stepped s) ≢ 0 = λ e. omega (arith, left-times K L s n (omega arith)) in
      rw (at, next) (sym (cond-false _ _ _ (ne_eqb _ _ more)))
  | inr above ↦
      let at : min (K.left s) n ≡ K.left s = omega arith in
      let next : min (K.left s) (n + 1) ≡ K.left s = omega arith in
      let none : K.left (times (K.left s) K.stepped s) ≡ 0 = omega (arith, left-times K L s (K.left s) (omega arith)) in
      rw (at, next) (sym (cond-true _ _ _ (eq-eqb _ _ none)))
]

-- a job that these slots served, from its start
abbrev served_job : {J : Type 0} → Kind J → List ℕ → Option J → Option J
served_job K slots o = stepped_by K (first_slots K o slots) o

served_job-more : {J : Type 0} (K : Kind J) (L : Laws K) (o : Option J) (slots : List ℕ) (slot : ℕ) → served_job K (slots ++ slot ∷ []) o ≡ once_job K (served_job K slots o)
served_job-more K L None slots slot = refl
served_job-more K L (Some s) slots slot =
    let before : length (take (K.left s) slots) ≡ min (K.left s) (length slots) = length-take (K.left s) slots in
    let long : length (slots ++ slot ∷ []) ≡ length slots + 1 = length-append slots (slot ∷ []) in
    let behind : length (take (K.left s) (slots ++ slot ∷ [])) ≡ min (K.left s) (length slots + 1) = length-take (K.left s) (slots ++ slot ∷ []) ∙ ap (min (K.left s)) long in
    ap (λ n. Some (times n K.stepped s)) behind ∙ (ap Some (once-times K L s (length slots)) ∙ ap (λ n. Some (once K (times n K.stepped s))) (sym before))

served_job-none : {J : Type 0} (K : Kind J) (o : Option J) → served_job K [] o ≡ o
served_job-none K None = refl
served_job-none K (Some s) =
    let slots : List ℕ = [] in
    let least : min (K.left s) 0 ≡ 0 = omega arith in
    let none : length (take (K.left s) slots) ≡ 0 = length-take (K.left s) slots ∙ least in
    ap (λ n. Some (times n K.stepped s)) none

job_at : {J : Type 0} (K : Kind J) (L : Laws K) (task : ℕ) (before : Option J) (behind : List (Happening J)) (last : Option (Happening J)) (h : Happening J) →
    served_job K (slots_of task (if changes_task task h then [] else behind ++ h ∷ [])) (job_given before (if changes_task task h then Some h else last))
    ≡ job_step K task h (served_job K (slots_of task behind) (job_given before last))
job_at K L task before behind last (given other job) = elim (other == task) as (λ b.
    served_job K (slots_of task (if b then [] else behind ++ given other job ∷ [])) (job_given before (if b then Some (given other job) else last))
    ≡ (if b then Some job else served_job K (slots_of task behind) (job_given before last))) [
      | true ↦ served_job-none K (Some job)
      | false ↦ ap (λ slots. served_job K slots (job_given before last)) (slots-snoc task behind (given other job) ∙ append-nil (slots_of task behind))
    ]
job_at K L task before behind last (taken other) = elim (other == task) as (λ b.
    served_job K (slots_of task (if b then [] else behind ++ taken other ∷ [])) (job_given before (if b then Some (taken other) else last))
    ≡ (if b then None else served_job K (slots_of task behind) (job_given before last))) [
      | true ↦ refl
      | false ↦ ap (λ slots. served_job K slots (job_given before last)) (slots-snoc task behind (taken other) ∙ append-nil (slots_of task behind))
    ]
job_at K L task before behind last (reweighed slot set) =
    ap (λ slots. served_job K slots (job_given before last)) (slots-snoc task behind (reweighed slot set) ∙ append-nil (slots_of task behind))
job_at K L task before behind last (ran slot row) =
    ap (λ slots. served_job K slots (job_given before last)) (slots-snoc task behind (ran slot row))
    ∙ (elim (is_in row task) as (λ b. served_job K (slots_of task behind ++ (if b then slot ∷ [] else [])) (job_given before last)
    ≡ (if b then once_job K (served_job K (slots_of task behind) (job_given before last)) else served_job K (slots_of task behind) (job_given before last))) [
      | true ↦ served_job-more K L (job_given before last) (slots_of task behind) slot
      | false ↦ ap (λ slots. served_job K slots (job_given before last)) (append-nil (slots_of task behind))
    ])

pub job_after-snoc : {J : Type 0} (K : Kind J) (L : Laws K) (task : ℕ) (before : Option J) (happened : List (Happening J)) (h : Happening J) →
    job_after K task before (happened ++ h ∷ []) ≡ job_step K task h (job_after K task before happened)
job_after-snoc K L task before happened h =
    ap (λ l. served_job K (slots_of task (behind_last (changes_task task) (happened ++ h ∷ []))) (job_given before l)) (last_that-snoc (changes_task task) happened h)
    ∙ (ap (λ l. served_job K (slots_of task l) (job_given before (if changes_task task h then Some h else last_that (changes_task task) happened))) (behind_last-snoc (changes_task task) happened h)
    ∙ job_at K L task before (behind_last (changes_task task) happened) (last_that (changes_task task) happened) h)

jobs-snoc : {J : Type 0} (K : Kind J) (L : Laws K) (task : ℕ) (before : List (Option J)) (happened : List (Happening J)) (h : Happening J) →
    jobs_after K task before (happened ++ h ∷ []) ≡ jobs_step K task h (jobs_after K task before happened)
jobs-snoc K L task [] happened h = refl
jobs-snoc K L task (o ∷ rest) happened h = ap₂ ◌∷◌ (job_after-snoc K L task o happened h) (jobs-snoc K L (task + 1) rest happened h)

-- the whole state

pub state-snoc : {J : Type 0} (K : Kind J) (L : Laws K) (B : Plain J) (happened : List (Happening J)) (h : Happening J) →
    state_after K B (happened ++ h ∷ []) ≡ state_step K (state_after K B happened) h
state-snoc K L B happened h =
    let numbers : B.number + length (happened ++ h ∷ []) ≡ B.number + length happened + 1 = omega (arith, length-append happened (h ∷ [])) in
    let from = from-snoc B happened h in
    let ledger = ledger-snoc B happened h in
    let jobs = jobs-snoc K L 0 B.jobs happened h in
    λ i. record { number = numbers i; from = from i; ledger = ledger i; jobs = jobs i; segment = B.segment }

happening-in : {J : Type 0} (K : Kind J) (B : Plain J) (happened : List (Happening J)) (c : Command J) → happening B happened c ≡ happening_in (state_after K B happened) c
happening-in K B happened (Submit task job) = refl
happening-in K B happened (Withdraw task) = refl
happening-in K B happened Slot = refl
happening-in K B happened (Reweigh workers weights) = refl

-- the state after one more command is one step of the machine on the state before it
pub outcome-snoc : {J : Type 0} (K : Kind J) (L : Laws K) (B : Plain J) (H : List (Command J)) (c : Command J) →
    outcome K B (H ++ c ∷ []) ≡ state_step K (outcome K B H) (happening_in (outcome K B H) c)
outcome-snoc K L B H c =
    ap (state_after K B) (happenings-snoc B [] H c)
    ∙ (state-snoc K L B (happenings B H) (happening B (happenings B H) c)
    ∙ ap (state_step K (outcome K B H)) (happening-in K B (happenings B H) c))

pub job_at_none : {J : Type 0} (K : Kind J) (task : ℕ) (o : Option J) → job_after K task o [] ≡ o
job_at_none K task o = served_job-none K o

pub jobs-none : {J : Type 0} (K : Kind J) (task : ℕ) (jobs : List (Option J)) → jobs_after K task jobs [] ≡ jobs
jobs-none K task [] = refl
jobs-none K task (o ∷ rest) = ap₂ ◌∷◌ (job_at_none K task o) (jobs-none K (task + 1) rest)
