-- A list of commands of which some are refused, one more command at a time.
use Rattle.std.specs.Prelude.{◌≡◌, List, [], ◌∷◌, ◌++◌, Option, Some, None, Result, Ok, Err, OnErr, map, refl}
use Rattle.std.proofs.Common.{sym, ◌∙◌, ap, ap₂, append_assoc, append-nil}
use Rattle.pfx_jobs.specs.Kind.{Kind}
use Rattle.pfx_machine.specs.Plain.{Plain}
use Rattle.pfx_machine.specs.Outcome.{outcome}
use Rattle.pfx_machine.specs.Refusals.{refusal, reply}
use Rattle.pfx_machine.specs.Runs.{with_accepted, accepted_behind, accepted, answer_by, answer, answers_behind, answers}
use Rattle.pfx_machine.specs.Sessions.{AllAccepted, IsAcceptable, replies_behind, replies}
use Rattle.pfx_machine.specs.declared.command.Command.{Command}
use Rattle.pfx_machine.specs.declared.faults.MachineFault.{MachineFault}
use Rattle.pfx_machine.specs.declared.command.Reply.{Reply}
use Rattle.pfx_machine.proofs.SessionLemmas.{acceptable-snoc}

pub accepted-snoc : {J : Type 0} (K : Kind J) (B : Plain J) (before H : List (Command J)) (c : Command J) →
    accepted_behind K B before (H ++ c ∷ []) ≡ with_accepted (accepted_behind K B before H) c (refusal K (outcome K B (accepted_behind K B before H)) c)
accepted-snoc K B before [] c = refl
accepted-snoc K B before (d ∷ H) c = accepted-snoc K B (with_accepted before d (refusal K (outcome K B before) d)) H c

pub answers-snoc : {J : Type 0} (K : Kind J) (B : Plain J) (before H : List (Command J)) (c : Command J) →
    answers_behind K B before (H ++ c ∷ []) ≡ answers_behind K B before H ++ answer K (outcome K B (accepted_behind K B before H)) c ∷ []
answers-snoc K B before [] c = refl
answers-snoc K B before (d ∷ H) c = ap (λ t. answer K (outcome K B before) d ∷ t) (answers-snoc K B (with_accepted before d (refusal K (outcome K B before) d)) H c)

with_acceptable : {J : Type 0} (K : Kind J) (B : Plain J) (before : List (Command J)) (c : Command J) (o : Option MachineFault) → refusal K (outcome K B before) c ≡ o →
    IsAcceptable K B before → IsAcceptable K B (with_accepted before c o)
with_acceptable K B before c None is all = acceptable-snoc K B before c all is
with_acceptable K B before c (Some fault) is all = all

acceptable_behind : {J : Type 0} (K : Kind J) (B : Plain J) (before H : List (Command J)) → IsAcceptable K B before → IsAcceptable K B (accepted_behind K B before H)
acceptable_behind K B before [] all = all
acceptable_behind K B before (c ∷ H) all = acceptable_behind K B (with_accepted before c (refusal K (outcome K B before) c)) H (with_acceptable K B before c (refusal K (outcome K B before) c) refl all)

pub accepted_acceptable : {J : Type 0} (K : Kind J) (B : Plain J) (H : List (Command J)) → IsAcceptable K B (accepted K B H)
accepted_acceptable K B H = acceptable_behind K B [] H tt

-- one command more of a run that has answered a beginning of the list, the state being the outcome of what was accepted

pub run_next : {J : Type 0} (K : Kind J) (B : Plain J) (yielded : List (Command J)) (c : Command J) (old new : Plain J) →
    old ≡ outcome K B (accepted K B yielded) →
    ((H : List (Command J)) → old ≡ outcome K B H → new ≡ outcome K B (with_accepted H c (refusal K old c))) →
    new ≡ outcome K B (accepted K B (yielded ++ c ∷ []))
run_next K B yielded c old new is step =
    step (accepted K B yielded) is
    ∙ ap (outcome K B) (ap (λ s. with_accepted (accepted K B yielded) c (refusal K s c)) is ∙ sym (accepted-snoc K B [] yielded c))

pub answer_next : {J : Type 0} (K : Kind J) (B : Plain J) (yielded : List (Command J)) (c : Command J) (old : Plain J) (given more : List (Result Reply MachineFault)) (said : Result Reply MachineFault) →
    old ≡ outcome K B (accepted K B yielded) → given ≡ answers K B yielded → said ≡ answer K old c → more ≡ given ++ said ∷ [] → more ≡ answers K B (yielded ++ c ∷ [])
answer_next K B yielded c old given more said is before now pushed =
    pushed ∙ (ap₂ (λ xs x. xs ++ x ∷ []) before (now ∙ ap (λ s. answer K s c) is) ∙ sym (answers-snoc K B [] yielded c))

pub split_next : {A : Type 0} (all yielded : List A) (x : A) (rest left : List A) → all ≡ yielded ++ rest → rest ≡ x ∷ left → all ≡ (yielded ++ x ∷ []) ++ left
split_next all yielded x rest left is step = is ∙ (ap (λ xs. yielded ++ xs) step ∙ sym (append_assoc yielded (x ∷ []) left))

pub on_err : {T E : Type 0} (r : Result T E) (P : Type 0) → P → OnErr r P
on_err (Ok x) P h = tt
on_err (Err e) P h = h

-- a list that is acceptable is accepted whole, and each command is answered by its reply

accepted_whole : {J : Type 0} (K : Kind J) (B : Plain J) (before H : List (Command J)) → AllAccepted K B before H → accepted_behind K B before H ≡ before ++ H
accepted_whole K B before [] all = sym (append-nil before)
accepted_whole K B before (c ∷ H) all =
    ap (λ o. accepted_behind K B (with_accepted before c o) H) all.0
    ∙ (accepted_whole K B (before ++ c ∷ []) H all.1 ∙ append_assoc before (c ∷ []) H)

answered_whole : {J : Type 0} (K : Kind J) (B : Plain J) (before H : List (Command J)) → AllAccepted K B before H →
    answers_behind K B before H ≡ map Ok (replies_behind K B before H)
answered_whole K B before [] all = refl
answered_whole K B before (c ∷ H) all =
    ap₂ ◌∷◌ (ap (answer_by (reply (outcome K B before) c)) all.0)
    (ap (λ o. answers_behind K B (with_accepted before c o) H) all.0 ∙ answered_whole K B (before ++ c ∷ []) H all.1)

pub acceptable_whole : {J : Type 0} (K : Kind J) (B : Plain J) (H : List (Command J)) → IsAcceptable K B H → accepted K B H ≡ H
acceptable_whole K B H all = accepted_whole K B [] H all

pub acceptable_answers : {J : Type 0} (K : Kind J) (B : Plain J) (H : List (Command J)) → IsAcceptable K B H → answers K B H ≡ map Ok (replies K B H)
acceptable_answers K B H all = answered_whole K B [] H all
