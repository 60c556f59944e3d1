-- What a fold of a log's blocks finds.
use Rattle.std.specs.Prelude.{◌≡◌, List, Option}
use Rattle.pfx_jobs.specs.Kind.{Kind}
use Rattle.pfx_kinds.specs.declared.units.Unit.{Unit}
use Rattle.pfx_log.specs.Logs.{Block}
use Rattle.pfx_machine.specs.Plain.{Plain}
use Rattle.pfx_record.specs.Records.{Recorded}
use Rattle.pfx_replay_audit.specs.Blocks.{IsRead}
use Rattle.pfx_replay_audit.specs.Marks.{Agree, IsFirst, behind}
use Rattle.pfx_replay_audit.specs.declared.folded.Folded.{Folded}
use Rattle.pfx_replay_audit.specs.declared.folded.Folded.TheVariants.{Agrees, Differs}

module _ {J : Type 0} (K : Kind J) (unit : J → Option Unit) (marks : List (Plain J)) (told : Plain J → List (Recorded J) → Type 0) where
  -- A block's records agree and lead to the state, and this was told of them; or the first of them that differs, or of the marks, has the
  -- number.
  abbrev pub GivesBlock : Plain J → Block → Folded (Plain J) → Type 0
  GivesBlock s block (Agrees t) = (read : List (Recorded J)) × IsRead K s block read t × Agree K unit marks s read × (t ≡ behind K s read) × told s read
  GivesBlock s block (Differs n what) = (read : List (Recorded J)) × (t : Plain J) × IsRead K s block read t × IsFirst K unit marks what s read n
