-- Commands that are kept in groups, each in a frame of its own, and what survives of them.
use Rattle.std.specs.Prelude.{◌≡◌, ℕ, ◌+◌, ◌<◌, ◌≤◌, List, [], ◌∷◌, ◌++◌, length, map, take, Ok, ⊤}
use Rattle.pfx_disk.specs.Disk.{View}
use Rattle.pfx_record_redo.specs.Recording.{records_of}
use Rattle.pfx_store_format.specs.Format.{format}
use Rattle.pfx_jobs.specs.Kind.{Kind}
use Rattle.pfx_machine.specs.Plain.{Plain}
use Rattle.pfx_machine.specs.Outcome.{outcome}
use Rattle.pfx_machine.specs.Batches.{AreCommon, IsBatchable}
use Rattle.pfx_machine.specs.Sessions.{IsAcceptable}
use Rattle.pfx_machine.specs.declared.command.Command.{Command}
use Rattle.pfx_record.specs.Batches.{batch_bytes}
use Rattle.pfx_record.specs.Records as recorded
use Rattle.pfx_store_image.specs.Recovery.{recovered}

-- all commands of groups, in their order
abbrev pub joined : {J : Type 0} → List (List (Command J)) → List (Command J)
joined [] = []
joined (group ∷ groups) = group ++ joined groups

-- each has 1 to 16 commands, and a Reweigh is alone in its group
abbrev pub AreSmall : {J : Type 0} → List (List (Command J)) → Type 0
AreSmall [] = ⊤
AreSmall (group ∷ groups) = (0 < length group) × (length group ≤ 16) × IsBatchable group × AreSmall groups

-- each command in a group of its own
abbrev pub alone : {J : Type 0} → List (Command J) → List (List (Command J))
alone H = map (λ c. c ∷ []) H

-- the frame of a group of commands after a state
abbrev pub frame_of : {J : Type 0} → Kind J → Plain J → List (Command J) → List ℕ
frame_of K s group = batch_bytes K (record { first = s.number + 1; records = records_of K s group })

-- the frames of groups, each after those before it
abbrev pub frames_of : {J : Type 0} → Kind J → Plain J → List (List (Command J)) → List (List ℕ)
frames_of K s [] = []
frames_of K s (group ∷ groups) = frame_of K s group ∷ frames_of K (outcome K s group) groups

module _ {J : Type 0} (K : Kind J) where
  -- the commands are accepted one after the other from the state on, none of them is a Reweigh, and these are their records
  pub record AreRecordsOf (s : Plain J) (H : List (Command J)) (records : List (recorded.Recorded J)) : Type 0 where
    pub accepted : IsAcceptable K s H
    pub common : AreCommon H
    pub of : records ≡ records_of K s H

  -- the commands are accepted one after the other from the state on, they may be a batch, and these are their records
  pub record AreKeptAs (s : Plain J) (H : List (Command J)) (records : List (recorded.Recorded J)) : Type 0 where
    pub accepted : IsAcceptable K s H
    pub may : IsBatchable H
    pub of : records ≡ records_of K s H

  -- the image is recovered to the outcome of the first of these groups, n of them at least
  pub record Survives (start : Plain J) (groups : List (List (Command J))) (n : ℕ) (image : List ℕ) : Type 0 where
    pub count : ℕ
    pub at_least : n ≤ count
    pub at_most : count ≤ length groups
    pub recovered : recovered (format K) image ≡ Ok (outcome K start (joined (take count groups)))

  -- If n of these groups at least survive in each image since some moment, they do so after the call too, in each image
  -- since that moment; there may be a group more then.
  abbrev pub KeepsAll : Plain J → List (List (Command J)) → List (List (Command J)) → View → View → Type 0
  KeepsAll start groups more old new = (c n : ℕ) → c ≤ old.clock
      → ((image : List ℕ) → old.since c image → Survives start groups n image)
      → (image : List ℕ) → new.since c image → Survives start more n image
