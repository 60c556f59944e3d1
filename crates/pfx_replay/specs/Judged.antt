-- What was found of records after a state.
use Rattle.std.specs.Prelude.{◌≡◌, ℕ, ◌+◌, true, List, [], ◌∷◌, Option, None}
use Rattle.pfx_jobs.specs.Kind.{Kind}
use Rattle.pfx_kinds.specs.declared.units.Unit.{Unit}
use Rattle.pfx_machine.specs.Outcome.{outcome}
use Rattle.pfx_machine.specs.Plain.{Plain}
use Rattle.pfx_machine.specs.Refusals.{refusal}
use Rattle.pfx_record.specs.Records.{Recorded}
use Rattle.pfx_record_redo.specs.Recording.{record_of}
use Rattle.pfx_replay.specs.Commands.{Follow, command_of, commands_of, is_next}
use Rattle.pfx_replay.specs.Stated.{plain_of}
use Rattle.pfx_replay.specs.Verdicts.{IsFirst, IsWrong}
use Rattle.pfx_replay.specs.declared.judged.Judged.{Judged}
use Rattle.pfx_replay.specs.declared.judged.Judged.TheVariants.{Agrees, Differs}

module _ {J : Type 0} (K : Kind J) (unit : J → Option Unit) where
  -- of one record: it is that of its command, which is accepted, an answer of the next unit if it is one, and this is the outcome; or it is wrong
  abbrev pub GivesOne : Plain J → Recorded J → Judged J → Type 0
  GivesOne s one (Agrees t) = (refusal K s (command_of one) ≡ None) × (one ≡ record_of K s (command_of one)) × (is_next unit s one ≡ true) × (plain_of t ≡ outcome K s (command_of one ∷ []))
  GivesOne s one (Differs number what) = (number ≡ s.number + 1) × IsWrong K unit what s one

  -- of records: they are those of their commands, and this is the outcome; or the first that is wrong has this number
  abbrev pub GivesAll : Plain J → List (Recorded J) → Judged J → Type 0
  GivesAll s records (Agrees t) = Follow K unit s records × (plain_of t ≡ outcome K s (commands_of records))
  GivesAll s records (Differs number what) = IsFirst K unit what s records number
