-- What a plain reading of a store's records finds.
use Rattle.std.specs.Prelude.{◌≡◌, ◌≢◌, ◌⊎◌, ℕ, ◌+◌, false, List, ◌∷◌, ◌++◌, length, Option, Ok}
use Rattle.pfx_jobs.specs.Kind.{Kind}
use Rattle.pfx_kinds.specs.declared.units.Unit.{Unit}
use Rattle.pfx_machine.specs.Plain.{Plain}
use Rattle.pfx_machine.specs.Choosing.{row_in}
use Rattle.pfx_machine.specs.Outcome.{outcome}
use Rattle.pfx_machine.specs.declared.command.Command.TheVariants.{Slot}
use Rattle.pfx_record.specs.Records.{Recorded, ran, tasks_of}
use Rattle.pfx_record.specs.declared.record.Place.{Place}
use Rattle.pfx_record_redo.specs.Recording.{record_of}
use Rattle.pfx_replay.specs.Commands.{Follow, commands_of, is_next}
use Rattle.pfx_replay.specs.declared.verdict.Difference.{Difference}
use Rattle.pfx_replay.specs.declared.verdict.Difference.TheVariants.{Row, State, Answer, Checkpoint}
use Rattle.pfx_replay.specs.declared.verdict.Verdict.{Verdict}
use Rattle.pfx_replay.specs.declared.verdict.Verdict.TheVariants.{Agrees, Differs}

-- What a store's file records: a state, the records after it that lead to a checkpoint, what that checkpoint holds, and
-- the records after the checkpoint.
pub record History (J : Type 0) : Type 0 where
  pub start : Plain J
  pub before : List (Recorded J)
  pub checkpoint : Plain J
  pub behind : List (Recorded J)

module _ {J : Type 0} (K : Kind J) (unit : J → Option Unit) where
  -- A record of a slot, at a state: its row isn't PF's, or none is; its row is PF's, and a state of a job is none after
  -- the row's quanta. A record of an answer: its unit isn't the next one that its task was given.
  abbrev pub IsWrong : Difference → Plain J → Recorded J → Type 0
  IsWrong Row s one = (row : List (Place J)) × (one ≡ ran row) × (row_in s ≢ Ok (tasks_of row))
  IsWrong State s one = (row : List (Place J)) × (one ≡ ran row) × (row_in s ≡ Ok (tasks_of row)) × (one ≢ record_of K s Slot)
  IsWrong Answer s one = is_next unit s one ≡ false
  IsWrong Checkpoint s one = ⊥

  -- The first record that is wrong, of those after a state, has this number: those before it are those of their commands.
  pub record IsFirst (what : Difference) (s : Plain J) (records : List (Recorded J)) (n : ℕ) : Type 0 where
    pub agreed : List (Recorded J)
    pub one : Recorded J
    pub rest : List (Recorded J)
    pub whole : records ≡ agreed ++ one ∷ rest
    pub follow : Follow K unit s agreed
    pub number : n ≡ s.number + length agreed + 1
    pub wrong : IsWrong what (outcome K s (commands_of agreed)) one

  -- the records lead to what the checkpoint holds
  pub record Leads (h : History J) : Type 0 where
    pub follow : Follow K unit h.start h.before
    pub checkpoint : h.checkpoint ≡ outcome K h.start (commands_of h.before)

  abbrev pub IsFirstIn : Difference → History J → ℕ → Type 0
  IsFirstIn what h number = IsFirst what h.start h.before number ⊎ (Leads h × IsFirst what h.checkpoint h.behind number)

  -- All records are those of their commands, each answer is of the next unit, and the checkpoint holds the commands' outcome; or this is the first number
  -- where that isn't so, and what differs there.
  abbrev pub IsVerdict : History J → Verdict → Type 0
  IsVerdict h (Agrees number) = Leads h × Follow K unit h.checkpoint h.behind × (number ≡ h.checkpoint.number + length h.behind)
  IsVerdict h (Differs number Row) = IsFirstIn Row h number
  IsVerdict h (Differs number State) = IsFirstIn State h number
  IsVerdict h (Differs number Answer) = IsFirstIn Answer h number
  IsVerdict h (Differs number Checkpoint) = Follow K unit h.start h.before × (h.checkpoint ≢ outcome K h.start (commands_of h.before))
      × (number ≡ h.checkpoint.number)
