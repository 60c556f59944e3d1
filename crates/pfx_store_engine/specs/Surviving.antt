-- What survives of a list of commands, as they were accepted.
use Rattle.std.specs.Prelude.{◌≡◌, ◌<◌, ◌≤◌, ℕ, List, length}
use Rattle.pfx_disk.specs.Disk.{View}
use Rattle.pfx_store.specs.Groups.{AreRecordsOf, alone}
use Rattle.pfx_store.specs.Groups as groups
use Rattle.pfx_machine.specs.Plain.{Plain}
use Rattle.pfx_machine.specs.Outcome.{outcome}
use Rattle.pfx_machine.specs.declared.command.Command.{Command}
use Rattle.pfx_machine.specs.declared.command.Reply.{Reply}
use Rattle.pfx_store_engine.specs.Promises.{AreAnswered, slots_for}
use Rattle.pfx_record.specs.Records as recorded
use Rattle.pfx_jobs.specs.Kind.{Kind}

-- these Slots were run one after the other from the state on, so many at the most, and these are their records
pub record AreRun {J : Type 0} (K : Kind J) (s : Plain J) (count : ℕ) (said : List (ℕ × Reply)) (records : List (recorded.Recorded J)) (new : Plain J) : Type 0 where
  pub some : 0 < length said
  pub few : length said ≤ count
  pub answered : AreAnswered K s said
  pub recorded : AreRecordsOf K s (slots_for said) records
  pub state : new ≡ outcome K s (slots_for said)

-- the frames of commands that are accepted one after the other, from a state on
abbrev pub frames_of : {J : Type 0} → Kind J → Plain J → List (Command J) → List (List ℕ)
frames_of K s H = groups.frames_of K s (alone H)

-- the image is recovered to the outcome of a beginning of these commands, n of them at least
abbrev pub Survives : {J : Type 0} → Kind J → Plain J → List (Command J) → ℕ → List ℕ → Type 0
Survives K start H n image = groups.Survives K start (alone H) n image

-- If n of these commands at least survive in each image since some moment, they do so after the call too, in each image
-- since that moment; there may be more of them then.
abbrev pub KeepsAll : {J : Type 0} → Kind J → Plain J → List (Command J) → List (Command J) → View → View → Type 0
KeepsAll K start H more old new = groups.KeepsAll K start (alone H) (alone more) old new
