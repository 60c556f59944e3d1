-- A history agrees, or something in it differs first, and never both.
use Rattle.std.proofs.Common.{◌≡◌, ◌∙◌, ℕ, Bool, true, false, List, [], ◌∷◌, ◌++◌, Option, Some, None, Result, Ok, Err, map, refl, sym, ap, subst, append_assoc}
use Rattle.std.specs.Prelude.{if◌then◌else◌}
use Rattle.pfx_choice.specs.declared.faults.ChoiceFault.{ChoiceFault}
use Rattle.pfx_jobs.specs.Kind.{Kind, Laws}
use Rattle.pfx_kinds.specs.declared.units.Unit.{Unit}
use Rattle.pfx_machine.specs.Choosing.{row_in}
use Rattle.pfx_machine.specs.Happenings.{row_or_none}
use Rattle.pfx_machine.specs.Outcome.{outcome}
use Rattle.pfx_machine.specs.Plain.{Plain}
use Rattle.pfx_machine.specs.Refusals.{refusal, slot_fault}
use Rattle.pfx_machine.specs.declared.faults.MachineFault.{MachineFault}
use Rattle.pfx_machine.specs.declared.faults.MachineFault.TheVariants.{NumberLimit}
use Rattle.pfx_machine.proofs.Compose.{outcome-none}
use Rattle.pfx_record.specs.Records.{Recorded, submitted, ran, withdrawn, reweighed, tasks_of}
use Rattle.pfx_record.specs.declared.record.Place.{Place}
use Rattle.pfx_record_redo.specs.Recording.{place_of, record_of}
use Rattle.pfx_replay.specs.Commands.{command_of, commands_of, is_next}
use Rattle.pfx_replay.specs.Verdicts.{IsWrong}
use Rattle.pfx_replay.specs.declared.verdict.Difference.{Difference}
use Rattle.pfx_replay.specs.declared.verdict.Difference.TheVariants.{Row, State, Answer, Checkpoint}
use Rattle.pfx_replay.proofs.Following.{outcome-cons}
use Rattle.pfx_replay_audit.specs.Marks.{Agree, IsFirst, IsNextWrong, IsWrongAt, behind}
use Rattle.pfx_replay_audit.proofs.Folding.{Parts, parts_of}

places_in : {J : Type 0} → Recorded J → List (Place J)
places_in (submitted t job) = []
places_in (ran row) = row
places_in (withdrawn t) = []
places_in (reweighed m ws) = []

same_row : {J : Type 0} (xs ys : List (Place J)) → ran xs ≡ ran ys → xs ≡ ys
unfolding places_in
same_row xs ys e = ap places_in e

tasks_back : {J : Type 0} (K : Kind J) (jobs : List (Option J)) (xs : List ℕ) → tasks_of (map (place_of K jobs) xs) ≡ xs
tasks_back K jobs [] = refl
tasks_back K jobs (x ∷ xs) = ap (λ l. x ∷ l) (tasks_back K jobs xs)

row_there : (b : Bool) (r : Result (List ℕ) ChoiceFault) → (if b then slot_fault r else Some NumberLimit) ≡ None → r ≡ Ok (row_or_none r)
row_there true (Ok row) none = refl
row_there true (Err fault) none = cc
row_there false r none = cc

module _ {J : Type 0} (K : Kind J) (L : Laws K) (unit : J → Option Unit) (marks : List (Plain J)) where
  -- a record that is that of its command isn't wrong
  right : (what : Difference) (t : Plain J) (one : Recorded J) → refusal K t (command_of one) ≡ None → one ≡ record_of K t (command_of one) → is_next unit t one ≡ true → IsWrong K unit what t one → ⊥
  right Row t one accepted recorded next (row, is, other) =
      let own = subst (λ (x : Recorded J). x ≡ record_of K t (command_of x)) is recorded in
      let places : row ≡ map (place_of K t.jobs) (row_or_none (row_in t)) = same_row row (map (place_of K t.jobs) (row_or_none (row_in t))) own in
      let tasks : tasks_of row ≡ row_or_none (row_in t) = ap tasks_of places ∙ tasks_back K t.jobs (row_or_none (row_in t)) in
      let runs = subst (λ (x : Recorded J). refusal K t (command_of x) ≡ None) is accepted in
      other (row_there _ (row_in t) runs ∙ ap (λ l. Ok l) (sym tasks))
  right State t one accepted recorded next (row, is, there, other) = other (recorded ∙ ap (λ x. record_of K t (command_of x)) is)
  right Answer t one accepted recorded next wrong = cc
  right Checkpoint t one accepted recorded next wrong = absurd wrong

  parts_at : (s : Plain J) (xs : List (Recorded J)) (one : Recorded J) (rest : List (Recorded J)) → Agree K unit marks s (xs ++ one ∷ rest) → Parts K L unit marks (behind K s xs) one rest
  parts_at s [] one rest agree = subst (λ t. Parts K L unit marks t one rest) (sym (outcome-none K s)) (parts_of K L unit marks s one rest agree)
  parts_at s (x ∷ xs) one rest agree =
      let p = parts_of K L unit marks s x (xs ++ one ∷ rest) agree in
      subst (λ t. Parts K L unit marks t one rest) (outcome-cons K L unit s x p.accepted p.recorded p.next (commands_of xs)) (parts_at (outcome K s (command_of x ∷ [])) xs one rest p.rest)

  next_right : (what : Difference) (s : Plain J) (xs front rest : List (Recorded J)) (n : ℕ) → xs ≡ front ++ rest → Agree K unit marks s xs → IsNextWrong K unit marks what (behind K s front) rest n → ⊥
  next_right what s xs front rest n whole agree w =
      let here : xs ≡ front ++ w.one ∷ w.rest = whole ∙ ap (λ l. front ++ l) w.next in
      let p = parts_at s front w.one w.rest (subst (λ l. Agree K unit marks s l) here agree) in
      right what (behind K s front) w.one p.accepted p.recorded p.next w.wrong

  pub never_both : (s : Plain J) (xs : List (Recorded J)) → Agree K unit marks s xs → (what : Difference) (n : ℕ) → IsFirst K unit marks what s xs n → ⊥
  never_both s xs agree Row n h = next_right Row s xs h.front h.rest n h.whole agree h.wrong
  never_both s xs agree State n h = next_right State s xs h.front h.rest n h.whole agree h.wrong
  never_both s xs agree Answer n h = next_right Answer s xs h.front h.rest n h.whole agree h.wrong
  never_both s xs agree Checkpoint n h = h.wrong.unmet (agree.met h.front h.rest h.whole)

  next_wrong : (what : Difference) (t : Plain J) (xs ys : List (Recorded J)) (n : ℕ) → IsNextWrong K unit marks what t xs n → IsNextWrong K unit marks what t (xs ++ ys) n
  next_wrong what t xs ys n w = record { one = w.one; rest = w.rest ++ ys; next = ap (λ l. l ++ ys) w.next; met = w.met; wrong = w.wrong; number = w.number }

  wrong_more : (what : Difference) (t : Plain J) (xs ys : List (Recorded J)) (n : ℕ) → IsWrongAt K unit marks what t xs n → IsWrongAt K unit marks what t (xs ++ ys) n
  wrong_more Row t xs ys n w = next_wrong Row t xs ys n w
  wrong_more State t xs ys n w = next_wrong State t xs ys n w
  wrong_more Answer t xs ys n w = next_wrong Answer t xs ys n w
  wrong_more Checkpoint t xs ys n w = w

  pub first_in_front : (s : Plain J) (xs ys : List (Recorded J)) (what : Difference) (n : ℕ) → IsFirst K unit marks what s xs n → IsFirst K unit marks what s (xs ++ ys) n
  first_in_front s xs ys what n h = record {
    front = h.front;
    rest = h.rest ++ ys;
    whole = ap (λ l. l ++ ys) h.whole ∙ append_assoc h.front h.rest ys;
    follow = h.follow;
    met = h.met;
    wrong = wrong_more what (behind K s h.front) h.rest ys n h.wrong;
  }
