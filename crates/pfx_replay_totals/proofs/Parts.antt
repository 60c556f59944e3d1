-- The slots of parts of a history.
use Rattle.std.proofs.Common.{◌≡◌, ◌∙◌, List, [], ◌∷◌, ◌++◌, refl, ap, sym, append_assoc}
use Rattle.pfx_jobs.specs.Kind.{Kind}
use Rattle.pfx_machine.specs.Plain.{Plain}
use Rattle.pfx_record.specs.Records.{Recorded}
use Rattle.pfx_replay_totals.specs.States.{next_state, ran_by, reached, slots_behind}

module _ {J : Type 0} (K : Kind J) where
  pub slots_of_parts : (s : Plain J) (xs ys : List (Recorded J)) → slots_behind K s (xs ++ ys) ≡ slots_behind K s xs ++ slots_behind K (reached K s xs) ys
  slots_of_parts s [] ys = refl
  slots_of_parts s (one ∷ xs) ys = ap (λ ss. ran_by K s one ++ ss) (slots_of_parts (next_state K s one) xs ys) ∙ sym (append_assoc (ran_by K s one) (slots_behind K (next_state K s one) xs) (slots_behind K (reached K (next_state K s one) xs) ys))

  pub reached_by_parts : (s : Plain J) (xs ys : List (Recorded J)) → reached K s (xs ++ ys) ≡ reached K (reached K s xs) ys
  reached_by_parts s [] ys = refl
  reached_by_parts s (one ∷ xs) ys = reached_by_parts (next_state K s one) xs ys
