-- What the book keeps, and what each of its calls does to it.
use Rattle.std.specs.Prelude.{◌≡◌, ℕ, ◌+◌, Bool, true, false, cond}
use Rattle.std.specs.Prelude.{List, [], ◌∷◌, ◌++◌, take, map, Option, Some, None, slice_get, slice_set}
use Rattle.pfx_machine.specs.Plain.{Plain}
use Rattle.pfx_weights.specs.Rows.{is_in}
use Rattle.pfx_columns.specs.Ledgers.{after}
use Rattle.pfx_machine.specs.Choosing.{row_in}
use Rattle.pfx_jobs.specs.Kind.{Kind}
use Rattle.pfx_machine.specs.Happenings.{row_or_none}
use Rattle.pfx_machine.specs.Steps.{state_step, happening_in}
use Rattle.pfx_machine.specs.Slots.{Deal, deals_in}
use Rattle.pfx_machine.specs.Refusals.{refusal}
use Rattle.pfx_machine.specs.declared.command.Command.{Command}
use Rattle.pfx_machine.specs.declared.command.Command.TheVariants.{Submit, Slot, Withdraw, Reweigh}

-- a slot that was opened: its row and quanta, and the results that are back
pub record Opened (J : Type 0) : Type 0 where
  pub row : List ℕ
  pub quanta : List (Deal J)
  pub back : List (Option J)

-- the book: what it accepted, its state and open slot, and what the flusher took and marked
pub record Session (J : Type 0) : Type 0 where
  pub accepted : List (Command J)
  -- the book's own state, moved by one step at a time
  pub state : Plain J
  pub opened : Option (Opened J)
  -- how many of the accepted commands were taken, how many are marked, and since when
  pub taken : ℕ
  pub marked : ℕ
  pub marked_at : ℕ
  pub receipts : List (ℕ × ℕ)
  -- the flusher has given up
  pub halted : Bool

module _ {J : Type 0} where
  -- a Submit, a Withdraw or a Reweigh: taken at once, with no quanta to run
  abbrev pub IsQuick : Command J → Type 0
  IsQuick (Submit task job) = Unit {0}
  IsQuick (Withdraw task) = Unit {0}
  IsQuick Slot = ⊥
  IsQuick (Reweigh workers weights) = Unit {0}

  -- each quantum has its result
  abbrev pub AllBack : List (Option J) → Type 0
  AllBack [] = Unit {0}
  AllBack (None ∷ back) = ⊥
  AllBack (Some j ∷ back) = AllBack back

  -- a slot is opened: its row, its quanta
  abbrev pub opening_of : Kind J → Plain J → Opened J
  opening_of K s =
      let row = row_or_none (row_in s) in
      let quanta = deals_in K s row in
      record { row = row; quanta = quanta; back = map (λ d. None) quanta }

  -- a result put at its place of the open slot
  abbrev pub given_in : ℕ → J → Opened J → Opened J
  given_in place r o = record { row = o.row; quanta = o.quanta; back = slice_set o.back place (Some r) }

  -- the same, if a slot is open
  abbrev pub back_in : ℕ → J → Option (Opened J) → Option (Opened J)
  back_in place r None = None
  back_in place r (Some o) = Some (given_in place r o)

  -- the results that are back are written into the jobs
  abbrev pub given_back : List (Deal J) → List (Option J) → List (Option J) → List (Option J)
  given_back (d ∷ quanta) (Some r ∷ back) jobs = given_back quanta back (slice_set jobs d.task (Some r))
  given_back _ _ jobs = jobs

  -- the open slot joins: one number, one slot, its row, its results
  abbrev pub sealed_in : Plain J → Option (Opened J) → Plain J
  sealed_in s None = s
  sealed_in s (Some o) = record {
    number = s.number + 1;
    from = s.from;
    ledger = after s.ledger (is_in o.row);
    jobs = given_back o.quanta o.back s.jobs;
    segment = s.segment;
  }

  -- a book that has accepted nothing yet
  abbrev pub new_session : Plain J → Session J
  new_session B = record { accepted = []; state = B; opened = None; taken = 0; marked = 0; marked_at = 0; receipts = []; halted = false }

  -- when the book takes a command at once: no slot is open, the flusher goes on, and the command isn't refused
  abbrev pub MayAsk : Kind J → Session J → Command J → Type 0
  MayAsk K b c = IsQuick c × (b.opened ≡ None) × (b.halted ≡ false) × (refusal K b.state c ≡ None)

  -- when it opens a slot
  abbrev pub MayBegin : Kind J → Session J → Type 0
  MayBegin K b = (b.opened ≡ None) × (b.halted ≡ false) × (refusal K b.state Slot ≡ None)

  -- this quantum is the open slot's at this place, and its result isn't back
  abbrev pub MayGive : Session J → ℕ → Deal J → Type 0
  MayGive b place d = (o : Opened J) × (b.opened ≡ Some o) × (slice_get o.quanta place ≡ Some d) × (slice_get o.back place ≡ Some None)

  -- when the open slot may join the accepted commands: all results are back
  abbrev pub MaySeal : Session J → Type 0
  MaySeal b = (o : Opened J) × (b.opened ≡ Some o) × AllBack o.back

  -- a command is taken at once
  abbrev pub asked : Kind J → Command J → Session J → Session J
  asked K c b = record b { accepted = b.accepted ++ c ∷ []; state = state_step K b.state (happening_in b.state c) }

  -- a slot is opened
  abbrev pub begun : Kind J → Session J → Session J
  begun K b = record b { opened = Some (opening_of K b.state) }

  -- a result comes back
  abbrev pub gave : ℕ → J → Session J → Session J
  gave place r b = record b { opened = back_in place r b.opened }

  -- the open slot joins the accepted commands
  abbrev pub sealed : Session J → Session J
  sealed b = record b { accepted = b.accepted ++ Slot ∷ []; state = sealed_in b.state b.opened; opened = None }

  -- the open slot is given up, and the book is as before it
  abbrev pub abandoned : Session J → Session J
  abandoned b = record b { opened = None }

  -- the flusher takes n more of the accepted commands
  abbrev pub took : ℕ → Session J → Session J
  took n b = record b { taken = b.taken + n }

  -- all that was taken is marked as durable, from this clock on
  abbrev pub marked_now : ℕ → Session J → Session J
  marked_now clock b = record b { marked = b.taken; marked_at = clock }

  -- once the sync of an open has gone through, what was left counts as marked
  abbrev pub marked_if : Bool → ℕ → Session J → Session J
  marked_if opening clock b = record b { marked = cond opening b.taken b.marked; marked_at = cond opening clock b.marked_at }

  -- a receipt for this number, with the clock of the mark
  abbrev pub receipted : ℕ → Session J → Session J
  receipted n b = record b { receipts = (n, b.marked_at) ∷ b.receipts }

  -- the flusher gives up, and the book takes nothing more
  abbrev pub gave_up : Session J → Session J
  gave_up b = record b { halted = true }

  -- a stop leaves the first k commands, with the state that recovery found
  abbrev pub cut : ℕ → Plain J → Session J → Session J
  cut k s b = record {
    accepted = take k b.accepted;
    state = s;
    opened = None;
    taken = k;
    marked = b.marked;
    marked_at = b.marked_at;
    receipts = b.receipts;
    halted = false;
  }
