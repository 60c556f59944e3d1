-- What a store is given of new weights beside their record.
use Rattle.std.specs.Prelude.{◌≡◌, ℕ, List, [], ◌∷◌, Option, Some, None}
use Rattle.pfx_machine.specs.Batches.{IsCommon}
use Rattle.pfx_machine.specs.Plain.{Plain}
use Rattle.pfx_machine.specs.Reweighing.{new_set}
use Rattle.pfx_machine.specs.declared.command.Command.{Command}
use Rattle.pfx_machine.specs.declared.command.Command.TheVariants.{Reweigh}
use Rattle.pfx_record.specs.Records as recorded
use Rattle.pfx_store.specs.Groups.{AreKeptAs, AreRecordsOf}
use Rattle.pfx_weights.specs.Sets.{FilledSet}
use Rattle.pfx_jobs.specs.Kind.{Kind}

-- a command is a Reweigh and this is the set that it puts in force at a state, or it is another, and there is none
abbrev pub IsRenewalFor : {J : Type 0} → Plain J → Command J → Option FilledSet → Type 0
IsRenewalFor s c None = IsCommon c
IsRenewalFor s c (Some set) = (m : ℕ) × (weights : List (ℕ × ℕ)) × (c ≡ Reweigh m weights) × (set ≡ new_set s.ledger.set m weights)

-- these are the records of commands that are accepted one after the other from a state on, none of which is a Reweigh, and there is no
-- set; or the one record is that of a Reweigh that is accepted there, and this is the set that it puts in force
abbrev pub IsKeepable : {J : Type 0} → Kind J → Plain J → List (recorded.Recorded J) → Option FilledSet → Type 0
IsKeepable {J = J} K s records None = (G : List (Command J)) × AreRecordsOf K s G records
IsKeepable K s records (Some set) = (m : ℕ) × (weights : List (ℕ × ℕ)) × AreKeptAs K s (Reweigh m weights ∷ []) records × (set ≡ new_set s.ledger.set m weights)
