-- Records one after the other, and the marks.
use Rattle.std.specs.Prelude.{◌≡◌, ◌<◌, ◌+◌, ℕ, Option, List, [], ◌∷◌, ◌++◌, length, map, true, None, refl, Result, IfOk}
use Rattle.std.specs.declared.alloc.AllocError.{AllocError}
use Rattle.std.proofs.Common.{get_or, drop, sym, ◌∙◌, ap, subst, arith}
use Rattle.std.proofs.lemmas.List.{get_or-map, length-map}
use Rattle.std.proofs.lemmas.Result.{IfOk-weaker}
use Rattle.pfx_jobs.specs.Kind.{Kind, Laws}
use Rattle.pfx_kinds.specs.declared.units.Unit.{Unit}
use Rattle.pfx_machine.specs.Outcome.{outcome}
use Rattle.pfx_machine.specs.Plain.{Plain}
use Rattle.pfx_machine.specs.Refusals.{refusal}
use Rattle.pfx_machine.proofs.Compose.{outcome-none}
use Rattle.pfx_record.specs.Records.{Recorded}
use Rattle.pfx_record_redo.specs.Recording.{record_of}
use Rattle.pfx_replay.specs.Commands.{command_of, commands_of, is_next}
use Rattle.pfx_replay.specs.Judged.{GivesOne}
use Rattle.pfx_replay.specs.Stated.{plain_of}
use Rattle.pfx_replay.specs.Verdicts.{IsWrong}
use Rattle.pfx_replay.specs.declared.jobs.PlainState.{PlainState}
use Rattle.pfx_replay.specs.declared.judged.Judged.{Judged}
use Rattle.pfx_replay.specs.declared.judged.Judged.TheVariants.{Agrees, Differs}
use Rattle.pfx_replay.specs.declared.verdict.Difference.{Difference}
use Rattle.pfx_replay.specs.declared.verdict.Difference.TheVariants.{Row, State, Answer, Checkpoint}
use Rattle.pfx_replay.proofs.Following.{follow-cons, follow-none, outcome-cons}
use Rattle.pfx_replay_audit.specs.Marks.{Agree, Gives, GivesMet, IsFirst, IsMet, IsWrongAt, Meets, behind}

module _ {J : Type 0} (K : Kind J) (L : Laws K) (unit : J → Option Unit) (marks : List (Plain J)) where
  -- what is known of one record at a state that meets the marks
  module _ (s : Plain J) (one : Recorded J) (is_accepted : refusal K s (command_of one) ≡ None) (is_recorded : one ≡ record_of K s (command_of one)) (follows : is_next unit s one ≡ true) (met : Meets marks s) where
    abbrev next : Plain J
    next = outcome K s (command_of one ∷ [])

    met_none : Meets marks (behind K s [])
    met_none = subst (λ t. Meets marks t) (sym (outcome-none K s)) met

    met_next : (x : Recorded J) (front : List (Recorded J)) → one ≡ x → Meets marks (behind K next front) → Meets marks (behind K s (x ∷ front))
    met_next x front same h = subst (λ y. Meets marks (outcome K s (command_of y ∷ commands_of front))) same
        (subst (λ t. Meets marks t) (outcome-cons K L unit s one is_accepted is_recorded follows (commands_of front)) h)

    met_all : (records : List (Recorded J)) → ((front rest : List (Recorded J)) → records ≡ front ++ rest → Meets marks (behind K next front)) → (front rest : List (Recorded J)) → one ∷ records ≡ front ++ rest → Meets marks (behind K s front)
    met_all records h [] rest e = met_none
    met_all records h (x ∷ front) rest e = met_next x front (ap (λ l. get_or l 0 one) e) (h front rest (ap (λ l. drop 1 l) e))

    met_before : (records : List (Recorded J)) → ((before more : List (Recorded J)) (y : Recorded J) → records ≡ before ++ y ∷ more → Meets marks (behind K next before)) → (before more : List (Recorded J)) (y : Recorded J) → one ∷ records ≡ before ++ y ∷ more → Meets marks (behind K s before)
    met_before records h [] more y e = met_none
    met_before records h (x ∷ before) more y e = met_next x before (ap (λ l. get_or l 0 one) e) (h before more y (ap (λ l. drop 1 l) e))

    pub first_cons : (what : Difference) (records : List (Recorded J)) (n : ℕ) → IsFirst K unit marks what next records n → IsFirst K unit marks what s (one ∷ records) n
    first_cons what records n h = record {
      front = one ∷ h.front;
      rest = h.rest;
      whole = ap (λ xs. one ∷ xs) h.whole;
      follow = follow-cons K L unit s one is_accepted is_recorded follows h.front h.follow;
      met = met_before h.front h.met;
      wrong = subst (λ t. IsWrongAt K unit marks what t h.rest n) (outcome-cons K L unit s one is_accepted is_recorded follows (commands_of h.front)) h.wrong;
    }

    pub agree_cons : (records : List (Recorded J)) → Agree K unit marks next records → Agree K unit marks s (one ∷ records)
    agree_cons records h = record {
      follow = follow-cons K L unit s one is_accepted is_recorded follows records h.follow;
      met = met_all records h.met;
    }

    pub gives_cons : (records : List (Recorded J)) (v : Judged J) → Gives K unit marks next records v → Gives K unit marks s (one ∷ records) v
    gives_cons records (Agrees t) h = (agree_cons records h.0, h.1 ∙ outcome-cons K L unit s one is_accepted is_recorded follows (commands_of records))
    gives_cons records (Differs n what) h = first_cons what records n h

  met_here : (s : Plain J) → Meets marks s → (front rest : List (Recorded J)) → [] ≡ front ++ rest → Meets marks (behind K s front)
  met_here s met [] rest e = subst (λ t. Meets marks t) (sym (outcome-none K s)) met
  met_here s met (x ∷ front) rest e = cc

  not_before : (s : Plain J) (before more : List (Recorded J)) (y : Recorded J) → [] ≡ before ++ y ∷ more → Meets marks (behind K s before)
  not_before s [] more y e = cc
  not_before s (x ∷ before) more y e = cc

  pub agree_none : (s : Plain J) → Meets marks s → Agree K unit marks s []
  agree_none s met = record { follow = follow-none K L unit s; met = met_here s met }

  -- no records more
  pub gives_none : (s : Plain J) (t : PlainState J) → Meets marks s → plain_of t ≡ s → Gives K unit marks s [] (Agrees t)
  gives_none s t met is = (agree_none s met, is ∙ sym (outcome-none K s))

  -- something is wrong at once
  pub gives_wrong : (s : Plain J) (records : List (Recorded J)) (n : ℕ) (what : Difference) → IsWrongAt K unit marks what s records n → Gives K unit marks s records (Differs n what)
  gives_wrong s records n what wrong = record {
    front = [];
    rest = records;
    whole = refl;
    follow = follow-none K L unit s;
    met = not_before s;
    wrong = subst (λ t. IsWrongAt K unit marks what t records n) (sym (outcome-none K s)) wrong;
  }

  -- the state isn't what a mark is, whatever follows
  pub unmet : (s : Plain J) (records : List (Recorded J)) → (Meets marks s → ⊥) → IsWrongAt K unit marks Checkpoint s records s.number
  unmet s records h = record { unmet = h; number = refl }

-- a mark, by its place
pub met_at : {J : Type 0} (s : Plain J) (marks : List (PlainState J)) (i : ℕ) (d : PlainState J) → i < length marks → Meets (map plain_of marks) s → IsMet s (plain_of (get_or marks i d))
met_at s marks i d within h =
    subst (λ m. IsMet s m) (get_or-map plain_of marks i d (plain_of d) within) (h i (plain_of d) (omega (arith, within, length-map marks plain_of)))

-- what a replay says of a record at a state that meets the marks
pub judged_met : {J : Type 0} (K : Kind J) (L : Laws K) (unit : J → Option Unit) (marks : List (Plain J)) (s : Plain J) (one : Recorded J) (result : Result (Judged J) AllocError) → Meets marks s → IfOk result (GivesOne K unit s one) → IfOk result (GivesMet K unit marks s one)
judged_met {J} K L unit marks s one result met given = IfOk-weaker result _ _ by given
  where
    wrong : (what : Difference) (n : ℕ) (rest : List (Recorded J)) → n ≡ s.number + 1 → IsWrong K unit what s one → IsWrongAt K unit marks what s (one ∷ rest) n
    wrong Row n rest is h = record { one = one; rest = rest; next = refl; met = met; wrong = h; number = is }
    wrong State n rest is h = record { one = one; rest = rest; next = refl; met = met; wrong = h; number = is }
    wrong Answer n rest is h = record { one = one; rest = rest; next = refl; met = met; wrong = h; number = is }
    wrong Checkpoint n rest is h = absurd h

    by : (v : Judged J) → GivesOne K unit s one v → GivesMet K unit marks s one v
    by (Agrees t) h = (met, h)
    by (Differs n what) h = λ rest. wrong what n rest h.0 h.1
