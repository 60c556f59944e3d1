-- The rows of an acceptable list since its last new set are a plan.
use Rattle.std.specs.Prelude.{◌≡◌, if◌then◌else◌, List, [], ◌∷◌, ◌++◌, Option, Some, None}
use Rattle.std.proofs.Common.{sym, ◌∙◌, ap, refl, subst, append_assoc, append-nil, arith}
use Rattle.pfx_choice.specs.Plans.{IsPlan}
use Rattle.pfx_choice.proofs.Planning.{plan_push}
use Rattle.pfx_jobs.specs.Kind.{Kind}
use Rattle.pfx_machine.specs.Plain.{Plain}
use Rattle.pfx_machine.specs.Choosing.{row_in}
use Rattle.pfx_machine.specs.Last.{last_that, behind_last}
use Rattle.pfx_machine.specs.Happenings.{Happening, rows_of, row_or_none, is_new, begun, happening, happenings}
use Rattle.pfx_machine.specs.Outcome.{outcome}
use Rattle.pfx_machine.specs.Refusals.{refusal, command_fault}
use Rattle.pfx_machine.specs.Sessions.{AllAccepted, IsAcceptable}
use Rattle.pfx_machine.specs.declared.command.Command.{Command}
use Rattle.pfx_machine.specs.declared.command.Command.TheVariants.{Submit, Slot, Withdraw, Reweigh}
use Rattle.pfx_machine.proofs.Keeping.{chosen_is, slot_row, below_limit}
use Rattle.pfx_machine.proofs.Rowing.{row_chosen}
use Rattle.pfx_machine.proofs.Snoc.{happenings-snoc, rows-snoc, last_that-snoc, behind_last-snoc}

-- the rows since the last new set are a plan from its start
abbrev pub Planned : {J : Type 0} → Plain J → List (Happening J) → Type 0
Planned B happened = IsPlan (begun B.ledger (last_that is_new happened)) (rows_of (behind_last is_new happened))

-- a plan, by the last new set and what stands behind it
abbrev pub PlannedBy : {J : Type 0} → Plain J → Option (Happening J) → List (Happening J) → Type 0
PlannedBy B last behind = IsPlan (begun B.ledger last) (rows_of behind)

same_rows : {J : Type 0} (B : Plain J) (last : Option (Happening J)) (behind : List (Happening J)) (h : Happening J) → rows_of (h ∷ []) ≡ [] → PlannedBy B last behind → PlannedBy B last (behind ++ h ∷ [])
same_rows B last behind h none plan =
    subst (IsPlan (begun B.ledger last)) (sym (rows-snoc behind h ∙ (ap (λ r. rows_of behind ++ r) none ∙ append-nil (rows_of behind)))) plan

plan_by : {J : Type 0} (K : Kind J) (B : Plain J) (before : List (Command J)) (c : Command J) → Planned B (happenings B before) → refusal K (outcome K B before) c ≡ None
    → PlannedBy B (if is_new (happening B (happenings B before) c) then Some (happening B (happenings B before) c) else last_that is_new (happenings B before))
    (if is_new (happening B (happenings B before) c) then [] else behind_last is_new (happenings B before) ++ happening B (happenings B before) c ∷ [])
plan_by K B before (Submit task job) plan accepted = same_rows B (last_that is_new (happenings B before)) (behind_last is_new (happenings B before)) (happening B (happenings B before) (Submit task job)) refl plan
plan_by K B before (Withdraw task) plan accepted = same_rows B (last_that is_new (happenings B before)) (behind_last is_new (happenings B before)) (happening B (happenings B before) (Withdraw task)) refl plan
plan_by K B before Slot plan accepted =
    let s = outcome K B before in
    let happened = happenings B before in
    let is = slot_row (row_in s) (below_limit s.number (command_fault K s Slot) accepted).1 in
    let rows = rows_of (behind_last is_new happened) in
    let g = begun B.ledger (last_that is_new happened) in
    subst (IsPlan g) (sym (rows-snoc (behind_last is_new happened) (happening B happened Slot)))
    (plan_push g rows (row_or_none (row_in s)) plan (chosen_is s.ledger (row_or_none (row_in s)) (row_chosen s (row_or_none (row_in s)) is)))
plan_by K B before (Reweigh workers weights) plan accepted = λ i l. absurd (omega (arith, l))

plan_more : {J : Type 0} (K : Kind J) (B : Plain J) (before : List (Command J)) (c : Command J) → Planned B (happenings B before) → refusal K (outcome K B before) c ≡ None
    → Planned B (happenings B (before ++ c ∷ []))
plan_more K B before c plan accepted =
    let happened = happenings B before in
    let h = happening B happened c in
    let by = plan_by K B before c plan accepted in
    let one = subst (λ l. PlannedBy B l (if is_new h then [] else behind_last is_new happened ++ h ∷ [])) (sym (last_that-snoc is_new happened h)) by in
    let two : Planned B (happened ++ h ∷ []) = subst (λ l. PlannedBy B (last_that is_new (happened ++ h ∷ [])) l) (sym (behind_last-snoc is_new happened h)) one in
    subst (Planned B) (sym (happenings-snoc B [] before c)) two

rows_behind : {J : Type 0} (K : Kind J) (B : Plain J) (before H : List (Command J)) → Planned B (happenings B before) → AllAccepted K B before H → Planned B (happenings B (before ++ H))
rows_behind K B before [] plan all = subst (λ xs. Planned B (happenings B xs)) (sym (append-nil before)) plan
rows_behind K B before (c ∷ H) plan all =
    subst (λ xs. Planned B (happenings B xs)) (append_assoc before (c ∷ []) H) (rows_behind K B (before ++ c ∷ []) H (plan_more K B before c plan all.0) all.1)

pub rows_chosen : {J : Type 0} (K : Kind J) (B : Plain J) (H : List (Command J)) → IsAcceptable K B H → Planned B (happenings B H)
rows_chosen K B H all = rows_behind K B [] H (λ i l. absurd (omega arith)) all
