-- Acceptable lists, one command after the other.
use Rattle.std.specs.Prelude.{◌≡◌, ◌+◌, ◌<◌, ◌≤◌, ℕ, List, [], ◌∷◌, ◌++◌, length, None, refl}
use Rattle.std.proofs.Common.{zero, suc, get_or, drop, sym, ◌∙◌, ap, subst, append_assoc, arith}
use Rattle.pfx_jobs.specs.Kind.{Kind, Laws}
use Rattle.pfx_machine.specs.Outcome.{outcome}
use Rattle.pfx_machine.specs.Plain.{Plain}
use Rattle.pfx_machine.specs.Refusals.{refusal}
use Rattle.pfx_machine.specs.Sessions.{AllAccepted, IsAcceptable}
use Rattle.pfx_machine.specs.declared.command.Command.{Command}
use Rattle.pfx_machine.proofs.Compose.{outcome-none, outcome-outcome}

module _ {J : Type 0} (K : Kind J) (L : Laws K) where
  pub unbase : (s : Plain J) (before more H : List (Command J)) → AllAccepted K (outcome K s before) more H → AllAccepted K s (before ++ more) H
  unbase s before more [] h = tt
  unbase s before more (c ∷ H) h = (
    subst (λ t. refusal K t c ≡ None) (outcome-outcome K L s before more) h.0,
    subst (λ xs. AllAccepted K s xs H) (sym (append_assoc before more (c ∷ []))) (unbase s before (more ++ c ∷ []) H h.1),
  )

  rebase : (s : Plain J) (before more H : List (Command J)) → AllAccepted K s (before ++ more) H → AllAccepted K (outcome K s before) more H
  rebase s before more [] h = tt
  rebase s before more (c ∷ H) h =
      (subst (λ t. refusal K t c ≡ None) (sym (outcome-outcome K L s before more)) h.0, rebase s before (more ++ c ∷ []) H (subst (λ xs. AllAccepted K s xs H) (append_assoc before more (c ∷ [])) h.1))

  module _ (s : Plain J) (c : Command J) (H : List (Command J)) where
    pub acceptable-cons : refusal K s c ≡ None → IsAcceptable K (outcome K s (c ∷ [])) H → IsAcceptable K s (c ∷ H)
    acceptable-cons accepted h = (subst (λ t. refusal K t c ≡ None) (sym (outcome-none K s)) accepted, unbase s (c ∷ []) [] H h)

    pub acceptable-first : IsAcceptable K s (c ∷ H) → refusal K s c ≡ None
    acceptable-first h = subst (λ t. refusal K t c ≡ None) (outcome-none K s) h.0

    pub acceptable-rest : IsAcceptable K s (c ∷ H) → IsAcceptable K (outcome K s (c ∷ [])) H
    acceptable-rest h = rebase s (c ∷ []) [] H h.1

    pub outcome-cons : outcome K (outcome K s (c ∷ [])) H ≡ outcome K s (c ∷ H)
    outcome-cons = outcome-outcome K L s (c ∷ []) H

pub drop_at : {A : Type 0} (xs : List A) (i : ℕ) (x d : A) → x ≡ get_or xs i d → i < length xs → drop i xs ≡ x ∷ drop (i + 1) xs
drop_at [] i x d is within = absurd (omega arith)
drop_at (y ∷ xs) zero x d is within = ap (λ z. z ∷ xs) (sym is)
drop_at (y ∷ xs) (suc i) x d is within =
    let next : i + 1 ≡ suc i = omega arith in
    drop_at xs i x d is (omega arith) ∙ ap (λ k. x ∷ drop k xs) next ∙ ap (λ k. x ∷ drop k (y ∷ xs)) (behind i)
  where
    behind : (k : ℕ) → suc (suc k) ≡ suc k + 1
    behind k = omega arith

pub drop_all : {A : Type 0} (xs : List A) (i : ℕ) → length xs ≤ i → drop i xs ≡ []
drop_all [] zero past = refl
drop_all [] (suc i) past = refl
drop_all (y ∷ xs) zero past = absurd (omega arith)
drop_all (y ∷ xs) (suc i) past = drop_all xs i (omega arith)
