-- What comes of a command that is tried.
use Rattle.std.specs.Prelude.{◌≡◌, ◌⊎◌, Bool, false, List, [], ◌∷◌, ◌++◌, Option, None, Some}
use Rattle.pfx_jobs.specs.Kind.{Kind}
use Rattle.pfx_machine.specs.Plain.{Plain}
use Rattle.pfx_machine.specs.Outcome.{outcome}
use Rattle.pfx_machine.specs.Refusals.{TakesMemory, reply}
use Rattle.pfx_machine.specs.declared.command.Command.{Command}
use Rattle.pfx_machine.specs.declared.command.Command.TheVariants.{Slot}
use Rattle.pfx_record.specs.Records.{plain}
use Rattle.pfx_record_redo.specs.Recording.{record_of}
use Rattle.pfx_book_slot.specs.Dealt.{Dealt, AllBack}
use Rattle.pfx_book.specs.Notes.{refused_at}
use Rattle.pfx_book.specs.declared.faults.BookFault.{BookFault}
use Rattle.pfx_book.specs.declared.faults.BookFault.TheVariants as bookfault
use Rattle.pfx_book.specs.declared.trying.Tried.{Tried}
use Rattle.pfx_book.specs.declared.trying.Tried.TheVariants.{Done, Refused, NoMemory}

abbrev pub Tries : {J : Type 0} → Kind J → Bool → Plain J → Command J → Plain J → Tried J → Type 0
Tries {J = J} K full s c t (Done copy said entry) = (copy ≡ c) × (refused_at full K s c ≡ None) × (said ≡ reply s c) × (plain entry ≡ record_of K s c)
    × ((B : Plain J) → (H : List (Command J)) → s ≡ outcome K B H → t ≡ outcome K B (H ++ c ∷ []))
Tries K full s c t (Refused copy fault) = (copy ≡ c) × (refused_at full K s c ≡ Some fault) × (t ≡ s)
Tries K full s c t NoMemory = (t ≡ s) × (full ≡ false) × TakesMemory c

-- why no slot was opened: an allocation failed, for a session that isn't full, or the session refuses one
abbrev pub StaysUnopened : {J : Type 0} → Kind J → Bool → Plain J → BookFault → Type 0
StaysUnopened K full s why = ((why ≡ bookfault.NoMemory) × (full ≡ false)) ⊎ (refused_at full K s Slot ≡ Some why)

-- a slot is open, and all its results are back
abbrev pub IsReady : {J : Type 0} → Option (Dealt J) → Type 0
IsReady None = ⊥
IsReady (Some o) = AllBack o.back
