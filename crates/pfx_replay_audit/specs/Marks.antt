-- Records after a state, and states that are recorded elsewhere with their numbers: marks.
use Rattle.std.specs.Prelude.{◌≡◌, ℕ, ◌+◌, List, ◌∷◌, ◌++◌, Option, All}
use Rattle.pfx_jobs.specs.Kind.{Kind}
use Rattle.pfx_kinds.specs.declared.units.Unit.{Unit}
use Rattle.pfx_machine.specs.Outcome.{outcome}
use Rattle.pfx_machine.specs.Plain.{Plain}
use Rattle.pfx_record.specs.Records.{Recorded}
use Rattle.pfx_replay.specs.Commands.{Follow, commands_of}
use Rattle.pfx_replay.specs.Judged.{GivesOne}
use Rattle.pfx_replay.specs.Stated.{plain_of}
use Rattle.pfx_replay.specs.Verdicts.{IsWrong}
use Rattle.pfx_replay.specs.declared.judged.Judged.{Judged}
use Rattle.pfx_replay.specs.declared.judged.Judged.TheVariants.{Agrees, Differs}
use Rattle.pfx_replay.specs.declared.verdict.Difference.{Difference}
use Rattle.pfx_replay.specs.declared.verdict.Difference.TheVariants.{Row, State, Answer, Checkpoint}

-- the state behind the commands of these records
abbrev pub behind : {J : Type 0} → Kind J → Plain J → List (Recorded J) → Plain J
behind K s records = outcome K s (commands_of records)

-- a mark with the state's number is the state
abbrev pub IsMet : {J : Type 0} → Plain J → Plain J → Type 0
IsMet s mark = mark.number ≡ s.number → mark ≡ s

-- each mark is met
abbrev pub Meets : {J : Type 0} → List (Plain J) → Plain J → Type 0
Meets marks s = All (IsMet s) marks

module _ {J : Type 0} (K : Kind J) (unit : J → Option Unit) (marks : List (Plain J)) where
  -- From a state on the records are those of their commands, as a replay wants them; and the marks are met wherever one of the records ends, and
  -- at the state itself.
  pub record Agree (s : Plain J) (records : List (Recorded J)) : Type 0 where
    pub follow : Follow K unit s records
    pub met : (front rest : List (Recorded J)) → records ≡ front ++ rest → Meets marks (behind K s front)

  -- the record that comes next is wrong at a state, and has this number
  pub record IsNextWrong (what : Difference) (t : Plain J) (records : List (Recorded J)) (n : ℕ) : Type 0 where
    pub one : Recorded J
    pub rest : List (Recorded J)
    pub next : records ≡ one ∷ rest
    pub met : Meets marks t
    pub wrong : IsWrong K unit what t one
    pub number : n ≡ t.number + 1

  -- the state isn't what a mark of its number is
  pub record IsUnmet (t : Plain J) (n : ℕ) : Type 0 where
    pub unmet : Meets marks t → ⊥
    pub number : n ≡ t.number

  -- what is wrong at a state with these records behind it: a record's row, its states or its answer, or the state itself
  abbrev pub IsWrongAt : Difference → Plain J → List (Recorded J) → ℕ → Type 0
  IsWrongAt Row t records n = IsNextWrong Row t records n
  IsWrongAt State t records n = IsNextWrong State t records n
  IsWrongAt Answer t records n = IsNextWrong Answer t records n
  IsWrongAt Checkpoint t records n = IsUnmet t n

  -- The first number at which records after a state, or a mark, are wrong: before it all is as it is to be.
  pub record IsFirst (what : Difference) (s : Plain J) (records : List (Recorded J)) (n : ℕ) : Type 0 where
    pub front : List (Recorded J)
    pub rest : List (Recorded J)
    pub whole : records ≡ front ++ rest
    pub follow : Follow K unit s front
    pub met : (before more : List (Recorded J)) (one : Recorded J) → front ≡ before ++ one ∷ more → Meets marks (behind K s before)
    pub wrong : IsWrongAt what (behind K s front) rest n

  -- all agree, and this is the state behind the records; or this is the first that doesn't
  abbrev pub Gives : Plain J → List (Recorded J) → Judged J → Type 0
  Gives s records (Agrees t) = Agree s records × (plain_of t ≡ behind K s records)
  Gives s records (Differs n what) = IsFirst what s records n

  -- of one record and the state before it: the state is met, and the record is that of its command; or one of them is wrong, whatever follows
  abbrev pub GivesMet : Plain J → Recorded J → Judged J → Type 0
  GivesMet s one (Agrees t) = Meets marks s × GivesOne K unit s one (Agrees t)
  GivesMet s one (Differs n what) = (rest : List (Recorded J)) → IsWrongAt what s (one ∷ rest) n
