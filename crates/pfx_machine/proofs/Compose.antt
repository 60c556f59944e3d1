-- The outcome of a list from the outcome of another is the outcome of both, one after the other.
use Rattle.std.specs.Prelude.{◌≡◌, ◌+◌, List, [], ◌∷◌, ◌++◌}
use Rattle.std.proofs.Common.{sym, ◌∙◌, ap, add-zero, append_assoc, append-nil}
use Rattle.pfx_choice.proofs.Planning.{past_none}
use Rattle.pfx_jobs.specs.Kind.{Kind, Laws}
use Rattle.pfx_machine.specs.Plain.{Plain}
use Rattle.pfx_machine.specs.Outcome.{outcome}
use Rattle.pfx_machine.specs.Steps.{state_step, happening_in}
use Rattle.pfx_machine.specs.declared.command.Command.{Command}
use Rattle.pfx_machine.proofs.Snoc.{outcome-snoc, jobs-none}

-- the machine's steps, one after the other
abbrev pub stepped : {J : Type 0} → Kind J → Plain J → List (Command J) → Plain J
stepped K s [] = s
stepped K s (c ∷ G) = stepped K (state_step K s (happening_in s c)) G

pub outcome-append : {J : Type 0} (K : Kind J) (L : Laws K) (B : Plain J) (H G : List (Command J)) → outcome K B (H ++ G) ≡ stepped K (outcome K B H) G
outcome-append K L B H [] = ap (outcome K B) (append-nil H)
outcome-append K L B H (c ∷ G) =
    ap (outcome K B) (sym (append_assoc H (c ∷ []) G)) ∙ (outcome-append K L B (H ++ c ∷ []) G ∙ ap (λ s. stepped K s G) (outcome-snoc K L B H c))

pub outcome-none : {J : Type 0} (K : Kind J) (s : Plain J) → outcome K s [] ≡ s
outcome-none K s =
    let number : s.number + 0 ≡ s.number = add-zero s.number in
    let ledger = past_none s.ledger in
    let jobs = jobs-none K 0 s.jobs in
    λ i. record { number = number i; from = s.from; ledger = ledger i; jobs = jobs i; segment = s.segment }

pub outcome-outcome : {J : Type 0} (K : Kind J) (L : Laws K) (B : Plain J) (H G : List (Command J)) → outcome K (outcome K B H) G ≡ outcome K B (H ++ G)
outcome-outcome K L B H G =
    outcome-append K L (outcome K B H) [] G ∙ (ap (λ s. stepped K s G) (outcome-none K (outcome K B H)) ∙ sym (outcome-append K L B H G))
