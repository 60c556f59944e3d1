-- Of lists of commands: numbers, fronts, what is accepted.
use Rattle.std.specs.Prelude.{◌≡◌, ℕ, ◌+◌, ◌≤◌, List, [], ◌∷◌, ◌++◌, length, take, drop, refl}
use Rattle.std.proofs.Common.{zero, suc, sym, ◌∙◌, ap, subst, arith, append_assoc, append-nil}
use Rattle.std.proofs.lemmas.List.{take-append-drop, length-take-le, length-drop}
use Rattle.std.proofs.Math.Seq.{take-add}
use Rattle.pfx_jobs.specs.Kind.{Kind, Laws}
use Rattle.pfx_machine.specs.Plain.{Plain}
use Rattle.pfx_machine.specs.Outcome.{outcome}
use Rattle.pfx_machine.specs.Refusals.{refusal}
use Rattle.pfx_machine.specs.Sessions.{AllAccepted, IsAcceptable}
use Rattle.pfx_machine.specs.declared.command.Command.{Command}
use Rattle.pfx_machine.proofs.Compose.{outcome-outcome}
use Rattle.pfx_events_world.specs.Events.{Begins}

pub number_of : {J : Type 0} (K : Kind J) (L : Laws K) (B : Plain J) (H : List (Command J)) → (outcome K B H).number ≡ B.number + length H
number_of K L B [] = refl
number_of K L B (c ∷ H) = ap (λ (s : Plain _). s.number) (sym (outcome-outcome K L B (c ∷ []) H)) ∙ (number_of K L (outcome K B (c ∷ [])) H ∙ omega arith)

pub number_at : {J : Type 0} (K : Kind J) (L : Laws K) (B : Plain J) (H : List (Command J)) (k : ℕ) → k ≤ length H → (outcome K B (take k H)).number ≡ B.number + k
number_at K L B H k h = omega (arith, number_of K L B (take k H), length-take-le k H h)

module _ {J : Type 0} where
  pub take-take : (i k : ℕ) (xs : List (Command J)) → i ≤ k → take i (take k xs) ≡ take i xs
  take-take zero k xs h = refl
  take-take (suc i) zero xs h = absurd (omega arith)
  take-take (suc i) (suc k) [] h = refl
  take-take (suc i) (suc k) (x ∷ xs) h = ap (λ t. x ∷ t) (take-take i k xs (omega arith))

  pub begins_all : (xs : List (Command J)) → Begins xs xs
  begins_all xs = ([], append-nil xs)

  pub begins_take : (i : ℕ) (xs : List (Command J)) → Begins (take i xs) xs
  begins_take i xs = (drop i xs, take-append-drop i xs)

  pub begins_takes : (i k : ℕ) (xs : List (Command J)) → i ≤ k → Begins (take i xs) (take k xs)
  begins_takes i k xs h = subst (λ l. Begins l (take k xs)) (take-take i k xs h) (begins_take i (take k xs))

  pub begins_on : (xs ys zs : List (Command J)) → Begins xs ys → Begins ys zs → Begins xs zs
  begins_on xs ys zs a b = (a.0 ++ b.0, sym (append_assoc xs a.0 b.0) ∙ (ap (λ l. l ++ b.0) a.1 ∙ b.1))

  -- the front of an accepted list, and what stands behind it
  pub front_accepted : (K : Kind J) (B : Plain J) (before H G : List (Command J)) → AllAccepted K B before (H ++ G) → AllAccepted K B before H
  front_accepted K B before [] G all = tt
  front_accepted K B before (c ∷ H) G all = (all.0, front_accepted K B (before ++ c ∷ []) H G all.1)

  pub take_accepted : (K : Kind J) (B : Plain J) (H : List (Command J)) (k : ℕ) → IsAcceptable K B H → IsAcceptable K B (take k H)
  take_accepted K B H k all = front_accepted K B [] (take k H) (drop k H) (subst (λ l. AllAccepted K B [] l) (sym (take-append-drop k H)) all)

  behind_accepted : (K : Kind J) (B : Plain J) (before H G : List (Command J)) → AllAccepted K B before (H ++ G) → AllAccepted K B (before ++ H) G
  behind_accepted K B before [] G all = subst (λ l. AllAccepted K B l G) (sym (append-nil before)) all
  behind_accepted K B before (c ∷ H) G all = subst (λ l. AllAccepted K B l G) (append_assoc before (c ∷ []) H) (behind_accepted K B (before ++ c ∷ []) H G all.1)

  -- accepted behind H is accepted from the state after H
  from_there : (K : Kind J) (L : Laws K) (B : Plain J) (H mid G : List (Command J)) → AllAccepted K B (H ++ mid) G → AllAccepted K (outcome K B H) mid G
  from_there K L B H mid [] all = tt
  from_there K L B H mid (c ∷ G) all = (
    ap (λ s. refusal K s c) (outcome-outcome K L B H mid) ∙ all.0,
    from_there K L B H (mid ++ c ∷ []) G (subst (λ l. AllAccepted K B l G) (append_assoc H mid (c ∷ [])) all.1),
  )

  -- the next n of them are accepted from the state before them
  pub next_accepted : (K : Kind J) (L : Laws K) (B : Plain J) (H : List (Command J)) (t n : ℕ) → IsAcceptable K B H →
      IsAcceptable K (outcome K B (take t H)) (take n (drop t H))
  next_accepted K L B H t n all =
      let two = subst (λ l. AllAccepted K B [] l) (take-add t n H) (take_accepted K B H (t + n) all) in
      from_there K L B (take t H) [] (take n (drop t H)) (subst (λ l. AllAccepted K B l (take n (drop t H))) (sym (append-nil (take t H))) (behind_accepted K B [] (take t H) (take n (drop t H)) two))

  -- what stands behind a front is accepted from the state after it
  pub behind_there : (K : Kind J) (L : Laws K) (B : Plain J) (H G : List (Command J)) → IsAcceptable K B (H ++ G) → IsAcceptable K (outcome K B H) G
  behind_there K L B H G all = from_there K L B H [] G (subst (λ l. AllAccepted K B l G) (sym (append-nil H)) (behind_accepted K B [] H G all))

  pub next_outcome : (K : Kind J) (L : Laws K) (B : Plain J) (H : List (Command J)) (t n : ℕ) →
      outcome K (outcome K B (take t H)) (take n (drop t H)) ≡ outcome K B (take (t + n) H)
  next_outcome K L B H t n = outcome-outcome K L B (take t H) (take n (drop t H)) ∙ ap (outcome K B) (sym (take-add t n H))

  pub next_long : (H : List (Command J)) (t n : ℕ) → t + n ≤ length H → length (take n (drop t H)) ≡ n
  next_long H t n h = length-take-le n (drop t H) (omega (arith, length-drop t H))
