-- Records one after the other.
use Rattle.std.specs.Prelude.{◌≡◌, ◌+◌, if◌then◌else◌, Bool, true, false, ℕ, Option, List, [], ◌∷◌, length, map, ◌<◌, ◌≤◌, Some, None, IsTrue, refl}
use Rattle.std.proofs.Common.{zero, suc, get_or, drop, sym, ◌∙◌, ap, ap₂, subst, inr, arith}
use Rattle.std.proofs.lemmas.Option.{none-some}
use Rattle.pfx_jobs.specs.Kind.{Kind, Laws}
use Rattle.pfx_kinds.specs.declared.units.Unit.{Unit}
use Rattle.pfx_machine.specs.Outcome.{outcome}
use Rattle.pfx_machine.specs.Plain as machine
use Rattle.pfx_machine.specs.Refusals.{refusal}
use Rattle.pfx_machine.specs.declared.command.Command.{Command}
use Rattle.pfx_machine.proofs.Compose.{outcome-none, outcome-outcome}
use Rattle.pfx_record.specs.Records.{Recorded, plain}
use Rattle.pfx_record.specs.declared.record.Record.{Record}
use Rattle.pfx_record_redo.specs.Applying.{after_record, applied, is_right}
use Rattle.pfx_record_redo.specs.Recording.{record_of}
use Rattle.pfx_record_redo.proofs.Outcomes.{outcome-one, record_outcome, records_outcome}
use Rattle.pfx_record_redo.proofs.States.{applied_behind}
use Rattle.pfx_machine.specs.Plain.{IsState}
use Rattle.pfx_replay.specs.Commands.{Follow, AreNext, command_of, commands_of, is_next}
use Rattle.pfx_replay.specs.Judged.{GivesAll}
use Rattle.pfx_replay.specs.Stated.{plain_of}
use Rattle.pfx_replay.specs.Verdicts.{History, IsFirst, IsVerdict, IsWrong, Leads}
use Rattle.pfx_replay.specs.declared.jobs.PlainState.{PlainState}
use Rattle.pfx_replay.specs.declared.judged.Judged.{Judged}
use Rattle.pfx_replay.specs.declared.judged.Judged.TheVariants.{Agrees, Differs}
use Rattle.pfx_replay.specs.declared.verdict.Difference.{Difference}
use Rattle.pfx_replay.specs.declared.verdict.Difference.TheVariants.{Row, State, Answer, Checkpoint}
use Rattle.pfx_replay.specs.declared.verdict.Verdict.TheVariants as verdict
use Rattle.pfx_replay.proofs.Sessions as sessions

module _ {J : Type 0} (K : Kind J) (L : Laws K) (unit : J → Option Unit) where
  -- what is known of one record at a state
  module _ (s : machine.Plain J) (one : Recorded J) (is_accepted : refusal K s (command_of one) ≡ None) (is_recorded : one ≡ record_of K s (command_of one)) (follows : is_next unit s one ≡ true) where
    abbrev pub next : machine.Plain J
    next = outcome K s (command_of one ∷ [])

    next-cons : (records : List (Recorded J)) → AreNext K unit next records → AreNext K unit s (one ∷ records)
    unfolding AreNext
    next-cons records h = (follows, h)

    pub follow-cons : (records : List (Recorded J)) → Follow K unit next records → Follow K unit s (one ∷ records)
    follow-cons records h = record {
      acceptable = sessions.acceptable-cons K L s (command_of one) (commands_of records) is_accepted h.acceptable;
      recorded = ap₂ (λ x xs. x ∷ xs) is_recorded h.recorded;
      next = next-cons records h.next;
    }

    pub outcome-cons : (H : List (Command J)) → outcome K next H ≡ outcome K s (command_of one ∷ H)
    outcome-cons H = outcome-outcome K L s (command_of one ∷ []) H

    pub number-next : next.number ≡ s.number + 1
    number-next = ap (λ (t : machine.Plain J). t.number) (outcome-one K L s (command_of one))

    first-cons : (what : Difference) (records : List (Recorded J)) (n : ℕ) → IsFirst K unit what next records n → IsFirst K unit what s (one ∷ records) n
    first-cons what records n h = record {
      agreed = one ∷ h.agreed;
      one = h.one;
      rest = h.rest;
      whole = ap (λ xs. one ∷ xs) h.whole;
      follow = follow-cons h.agreed h.follow;
      number = omega (arith, h.number, number-next);
      wrong = subst (λ t. IsWrong K unit what t h.one) (outcome-cons (commands_of h.agreed)) h.wrong;
    }

    pub gives-cons : (records : List (Recorded J)) (v : Judged J) → GivesAll K unit next records v → GivesAll K unit s (one ∷ records) v
    gives-cons records (Agrees t) h = (follow-cons records h.0, h.1 ∙ outcome-cons (commands_of records))
    gives-cons records (Differs n what) h = first-cons what records n h

    pub applied-cons : (records : List (Recorded J)) (t : machine.Plain J) → applied K (after_record s one) records ≡ Some t → applied K next records ≡ Some t
    applied-cons records t h = subst (λ x. applied K x records ≡ Some t) (ap (after_record s) is_recorded ∙ record_outcome K L s (command_of one)) h

  next-none : (s : machine.Plain J) → AreNext K unit s []
  unfolding AreNext
  next-none s = tt

  pub follow-none : (s : machine.Plain J) → Follow K unit s []
  follow-none s = record { acceptable = tt; recorded = refl; next = next-none s }

  pub gives-none : (s : machine.Plain J) (t : PlainState J) → plain_of t ≡ s → GivesAll K unit s [] (Agrees t)
  gives-none s t is = (follow-none s, is ∙ sym (outcome-none K s))

  pub gives-wrong : (s : machine.Plain J) (one : Recorded J) (records : List (Recorded J)) (n : ℕ) (what : Difference) → n ≡ s.number + 1 → IsWrong K unit what s one → GivesAll K unit s (one ∷ records) (Differs n what)
  gives-wrong s one records n what number wrong = record {
    agreed = [];
    one = one;
    rest = records;
    whole = refl;
    follow = follow-none s;
    number = omega (arith, number);
    wrong = subst (λ t. IsWrong K unit what t one) (sym (outcome-none K s)) wrong;
  }

-- what is wrong first behind a checkpoint that the records before lead to
pub first_then : {J : Type 0} (K : Kind J) (unit : J → Option Unit) (h : History J) → Leads K unit h → (what : Difference) (n : ℕ) → IsFirst K unit what h.checkpoint h.behind n → IsVerdict K unit h (verdict.Differs n what)
first_then K unit h leads Row n is = inr (leads, is)
first_then K unit h leads State n is = inr (leads, is)
first_then K unit h leads Answer n is = inr (leads, is)
first_then K unit h leads Checkpoint n is = absurd is.wrong

-- the number after records
pub follow_number : {J : Type 0} (K : Kind J) (L : Laws K) (unit : J → Option Unit) (s : machine.Plain J) (records : List (Recorded J)) → IsState s → Follow K unit s records → (outcome K s (commands_of records)).number ≡ s.number + length records
follow_number K L unit s records state h =
    let t = outcome K s (commands_of records) in
    let run : applied K s records ≡ Some t = ap (applied K s) h.recorded ∙ records_outcome K L s (commands_of records) state h.acceptable in
    (applied_behind K s t records run).number

-- one record more is taken over if it is right
pub applied_by : {J : Type 0} (K : Kind J) (s t : machine.Plain J) (one : Recorded J) (records : List (Recorded J)) (b : Bool) → is_right K s one ≡ b → (if b then applied K (after_record s one) records else None) ≡ Some t →
    IsTrue (is_right K s one) × (applied K (after_record s one) records ≡ Some t)
applied_by K s t one records true is h = (is, h)
applied_by K s t one records false is h = absurd (none-some t h)

-- the records from a place on
pub split : {J : Type 0} (records : List (Record J)) (i : ℕ) (x d : Record J) → x ≡ get_or records i d → i < length records → map plain (drop i records) ≡ plain x ∷ map plain (drop (i + 1) records)
split [] i x d is within = absurd (omega arith)
split (y ∷ records) zero x d is within = ap (λ z. plain z ∷ map plain records) (sym is)
split (y ∷ records) (suc i) x d is within =
    let next : i + 1 ≡ suc i = omega arith in
    split records i x d is (omega arith) ∙ ap (λ k. plain x ∷ map plain (drop k records)) next ∙ ap (λ k. plain x ∷ map plain (drop k (y ∷ records))) (behind i)
  where
    behind : (k : ℕ) → suc (suc k) ≡ suc k + 1
    behind k = omega arith

pub none_left : {J : Type 0} (records : List (Record J)) (i : ℕ) → length records ≤ i → map plain (drop i records) ≡ []
none_left [] zero past = refl
none_left [] (suc i) past = refl
none_left (y ∷ records) zero past = absurd (omega arith)
none_left (y ∷ records) (suc i) past = none_left records i (omega arith)
