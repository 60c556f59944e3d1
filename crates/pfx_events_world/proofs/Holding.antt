-- What holds of a world after each event.
use Rattle.std.specs.Prelude.{◌≡◌, ◌⊎◌, ℕ, ◌+◌, ◌≤◌, Bool, true, false, List, [], ◌∷◌, ◌++◌, length, take, Option, Some, None, slice_get}
use Rattle.pfx_jobs.specs.Kind.{Kind}
use Rattle.pfx_machine.specs.Plain.{Plain, IsState}
use Rattle.pfx_machine.specs.Slots.{Deal, deals_in}
use Rattle.pfx_machine.specs.Choosing.{row_in}
use Rattle.pfx_machine.specs.Happenings.{row_or_none}
use Rattle.pfx_machine.specs.Refusals.{refusal}
use Rattle.pfx_machine.specs.Sessions.{IsAcceptable}
use Rattle.pfx_machine.specs.declared.command.Command.TheVariants.{Slot}
use Rattle.pfx_disk.specs.Stop.{Act, Left}
use Rattle.pfx_events_world.specs.Setting.{Setting, StandsFor, Settled, Leads}
use Rattle.pfx_events_world.specs.World.{World, state_at}
use Rattle.pfx_events_world.specs.Session.{Opened}
use Rattle.pfx_events_world.specs.Events.{Begins, state_of}
use Rattle.pfx_events_world.specs.Claims.{IsReceipted}

module _ {J : Type 0} where
  -- what is back is what its quantum makes
  abbrev pub RightBack : Kind J → List (Deal J) → List (Option J) → Type 0
  RightBack K [] [] = Unit {0}
  RightBack K (d ∷ quanta) (None ∷ back) = RightBack K quanta back
  RightBack K (d ∷ quanta) (Some r ∷ back) = (r ≡ K.stepped d.before) × RightBack K quanta back
  RightBack K _ _ = ⊥

  pub record IsOpen (S : Setting J) (s : Plain J) (o : Opened J) : Type 0 where
    pub free : refusal S.kind s Slot ≡ None
    pub row_is : o.row ≡ row_or_none (row_in s)
    pub quanta_are : o.quanta ≡ deals_in S.kind s o.row
    pub back_right : RightBack S.kind o.quanta o.back

  -- calls are under way, or done: where they began, which of them are done
  pub record Works (S : Setting J) (start : List ℕ) (done coming : List Act) (place : S.Parts) (before after : Plain J) : Type 0 where
    pub base : List Act
    pub gone : List Act
    pub from : S.Parts
    pub settled : Settled S start base before from
    pub leads : Leads S before from (gone ++ coming) after place
    pub done_is : base ++ gone ≡ done

  -- no more calls come
  pub record Spent (S : Setting J) (start : List ℕ) (done coming : List Act) (before after : Plain J) : Type 0 where
    pub none : coming ≡ []
    pub each : (image : List ℕ) → Left start done image → StandsFor S image before ⊎ StandsFor S image after

  abbrev pub DiskIs : (S : Setting J) → Bool → List ℕ → List Act → List Act → S.Parts → Plain J → Plain J → Type 0
  DiskIs S true start done coming place before after = Spent S start done coming before after
  DiskIs S false start done coming place before after = Works S start done coming place before after

  pub record Holds (S : Setting J) (B : Plain J) (w : World S) : Type 0 where
    pub acceptable : IsAcceptable S.kind B w.book.accepted
    pub fair : (k : ℕ) → k ≤ length w.book.accepted → IsState (state_at S B w.book.accepted k)
    pub state_is : w.book.state ≡ state_of S B w
    pub slot_ok : (o : Opened J) → w.book.opened ≡ Some o → IsOpen S w.book.state o
    pub made_right : (k : ℕ) (m : Deal J × J) → slice_get w.made k ≡ Some m → m.1 ≡ S.kind.stepped m.0.before
    pub taken_in : w.book.taken ≤ length w.book.accepted
    pub kept_in : w.kept ≤ w.book.taken
    pub marked_in : w.book.marked ≤ w.kept
    pub published_in : Begins w.published (take w.kept w.book.accepted)
    pub readers_in : (reader : ℕ) → Begins (w.readers reader) (take w.kept w.book.accepted)
    pub receipts_in : (n : ℕ) → IsReceipted n w.book.receipts → n ≤ B.number + w.book.marked
    pub disk : DiskIs S w.broken w.start w.done w.coming w.place (state_at S B w.book.accepted w.kept) (state_at S B w.book.accepted w.book.taken)
    pub rest : w.broken ≡ false → w.coming ≡ [] → w.kept ≡ w.book.taken
