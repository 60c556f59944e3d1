-- What a book shows: the book of the world's events, its entries, and who is there.
use Rattle.std.specs.Prelude.{ℕ, ◌+◌, ◌<◌, List, [], length, map, Option, None, option_map, is_some, Bool, false}
use Rattle.pfx_fault.specs.declared.fields.Cause.{Cause}
use Rattle.pfx_jobs.specs.Kind.{Kind}
use Rattle.pfx_machine.specs.Plain.{Plain}
use Rattle.pfx_book_slot.specs.Dealt.{Dealt}
use Rattle.pfx_events_world.specs.Session.{Session, Opened, new_session}
use Rattle.pfx_book.specs.declared.note.Note.{Note}
use Rattle.pfx_book.specs.Notes.{commands_of, receipts_of}

-- the state of no book
abbrev pub nowhere : {J : Type 0} → Plain J
nowhere = record { number = 0; from = 0; ledger = record { set = record { workers = 0; real = 0; hyper = 0; weights = [] }; slot = 0; allocs = [] }; jobs = []; segment = 0 }

-- the events' book; the session, each entry with its pass's number; how many passes there are; the pass whose slot is open; why
-- the flusher gave up, if it did; and whether no more is accepted
pub record Register (J : Type 0) : Type 0 where
  pub session : Session J
  pub history : List (ℕ × Note J)
  pub passes : ℕ
  pub opener : ℕ
  pub failure : Option Cause
  pub shut : Bool

module _ {J : Type 0} where
  -- a book that begins at a state, which is marked with this clock
  abbrev pub new_register : Plain J → ℕ → Register J
  new_register B clock =
      record { session = record (new_session B) { marked_at = clock }; history = []; passes = 0; opener = 0; failure = None; shut = false }

  -- the open slot as the events see it: of each result its job's state
  abbrev pub shown : Kind J → Dealt J → Opened J
  shown K o = record { row = o.row; quanta = o.quanta; back = map (option_map (λ d. K.stepped d.before)) o.back }

  -- a command more may be accepted and not yet marked: there are at most 64 of them
  abbrev pub HasRoom : Session J → Type 0
  HasRoom b = length b.accepted < b.marked + 64

  -- what a book shows, by what it keeps
  abbrev pub register : Kind J → List (ℕ × Note J) → Plain J → Option (Dealt J) → ℕ → ℕ → ℕ → ℕ → ℕ → Option Cause → Bool → Register J
  register K history state slot taken marked clock passes opener failure shut = record {
    session = record {
      accepted = commands_of history;
      state = state;
      opened = option_map (shown K) slot;
      taken = taken;
      marked = marked;
      marked_at = clock;
      receipts = receipts_of history;
      halted = is_some failure;
    };
    history = history;
    passes = passes;
    opener = opener;
    failure = failure;
    shut = shut;
  }
