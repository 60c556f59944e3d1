-- The events of the world: what may happen next, and what it does.
use Rattle.std.specs.Prelude.{◌≡◌, ◌≢◌, ℕ, ◌+◌, ◌-◌, ◌<◌, ◌≤◌, ◌==◌, Bool, true, false, cond}
use Rattle.std.specs.Prelude.{List, [], ◌∷◌, ◌++◌, length, take, drop, Option, Some, None, slice_get}
use Rattle.pfx_jobs.specs.Kind.{Kind}
use Rattle.pfx_machine.specs.Plain.{Plain}
use Rattle.pfx_machine.specs.Slots.{Deal}
use Rattle.pfx_machine.specs.Outcome.{outcome}
use Rattle.pfx_machine.specs.declared.command.Command.{Command}
use Rattle.pfx_disk.specs.Stop.{Act, Sync}
use Rattle.pfx_disk.specs.CallsMade.{with_failed}
use Rattle.pfx_events_world.specs.Calls.{MayLeave}
use Rattle.pfx_events_world.specs.Setting.{Setting}
use Rattle.pfx_events_world.specs.World.{World, state_at}
use Rattle.pfx_machine.specs.Batches.{IsBatchable}
use Rattle.pfx_events_world.specs.Session.{Opened, MayAsk, MayBegin, MayGive, MaySeal}
use Rattle.pfx_events_world.specs.Session.{asked, begun, gave, sealed, abandoned, took, marked_now, marked_if, receipted, gave_up, cut}

-- what the book, the flusher, the disk, the board and its readers do, one step at a time, and a stop
pub data Event (J : Type 0) : Type 0 where
  Ask : Command J → Event J  -- a Submit or Withdraw
  Begin : Event J  -- a Slot is opened
  Step : ℕ → Event J  -- a quantum of the open slot is run
  Give : ℕ → ℕ → Event J  -- one of the results made comes back, to this place
  Seal : Event J  -- the open slot joins the accepted commands
  Abandon : Event J  -- the open slot is given up
  Take : ℕ → Event J  -- the flusher takes so many commands
  Tend : Event J  -- the flusher begins a step of the checkpoint in progress
  Device : Bool → Event J  -- the first call to come goes through, or fails
  Publish : Event J  -- the board shows what was taken
  Mark : Event J  -- what was taken counts as durable
  Fail : Event J  -- the flusher gives up
  Receipt : ℕ → Event J  -- of this number
  Look : ℕ → ℕ → Event J  -- a reader sees the first so many of the published commands
  Stop : List ℕ → Event J  -- with this image

module _ {J : Type 0} where
  -- the second list begins with the first
  abbrev pub Begins : List (Command J) → List (Command J) → Type 0
  Begins xs ys = (rest : List (Command J)) × (xs ++ rest ≡ ys)

  -- the outcome of the accepted commands
  abbrev pub state_of : (S : Setting J) → Plain J → World S → Plain J
  state_of S B w = outcome S.kind B w.book.accepted

  -- the next n of the accepted commands after the taken ones
  abbrev pub next_of : (S : Setting J) → World S → ℕ → List (Command J)
  next_of S w n = take n (drop w.book.taken w.book.accepted)

  -- the flusher waits for nothing: no call is to come
  pub record IsIdle (S : Setting J) (w : World S) : Type 0 where
    pub none : w.coming ≡ []
    pub whole : w.broken ≡ false
    pub goes_on : w.book.halted ≡ false

  -- when an event may happen
  abbrev pub MayHappen : (S : Setting J) → Plain J → World S → Event J → Type 0
  MayHappen S B w (Ask c) = MayAsk S.kind w.book c
  MayHappen S B w Begin = MayBegin S.kind w.book
  MayHappen S B w (Step k) = (o : Opened J) × (d : Deal J) × (w.book.opened ≡ Some o) × (slice_get o.quanta k ≡ Some d)
  MayHappen S B w (Give k place) = (m : Deal J × J) × (slice_get w.made k ≡ Some m) × MayGive w.book place m.0
  MayHappen S B w Seal = MaySeal w.book
  MayHappen S B w Abandon = Unit {0}
  MayHappen S B w (Take n) = IsIdle S w × (w.book.marked ≡ w.book.taken) × (0 < n) × (n ≤ 16) × (w.book.taken + n ≤ length w.book.accepted) × IsBatchable (next_of S w n)
  MayHappen S B w Tend = IsIdle S w × (w.book.marked ≡ w.book.taken) × (S.tends w.place ≢ [])
  MayHappen S B w (Device ok) = (w.coming ≢ []) × (w.book.halted ≡ false)
  MayHappen S B w Publish = IsIdle S w
  MayHappen S B w Mark = IsIdle S w × (w.published ≡ take w.book.taken w.book.accepted)
  MayHappen S B w Fail = Unit {0}
  MayHappen S B w (Receipt n) = n ≤ B.number + w.book.marked
  MayHappen S B w (Look reader n) = Begins (w.readers reader) (take n w.published)
  MayHappen S B w (Stop image) = MayLeave w.start w.done w.coming image

  -- a quantum is run once more, and its result is among those made
  abbrev pub run_once : Kind J → Option (Deal J) → List (Deal J × J) → List (Deal J × J)
  run_once K None made = made
  run_once K (Some d) made = (d, K.stepped d.before) ∷ made

  -- the k-th quantum of the open slot is run once more
  abbrev pub made_by : Kind J → ℕ → Option (Opened J) → List (Deal J × J) → List (Deal J × J)
  made_by K k None made = made
  made_by K k (Some o) made = run_once K (slice_get o.quanta k) made

  -- a result that was made comes back to its place in the book
  abbrev pub give_one : (S : Setting J) → World S → ℕ → Option (Deal J × J) → World S
  give_one S w place None = w
  give_one S w place (Some m) = record w { book = gave place m.1 w.book }

  -- the flusher takes n commands, and the calls that append them are to come
  abbrev pub taking : (S : Setting J) → Plain J → World S → ℕ → World S
  taking S B w n = record w {
    book = took n w.book;
    coming = S.calls w.place (state_at S B w.book.accepted w.book.taken) (next_of S w n);
    place = S.moved w.place (state_at S B w.book.accepted w.book.taken) (next_of S w n);
  }

  -- the first call to come went through
  abbrev pub called : (S : Setting J) → World S → List Act → World S
  called S w [] = w
  called S w (act ∷ []) = record w {
    coming = [];
    done = w.done ++ act ∷ [];
    clock = w.clock + 1;
    kept = w.book.taken;
    opening = false;
    book = marked_if w.opening (w.clock + 1) w.book;
  }
  called S w (act ∷ next ∷ coming) = record w { coming = next ∷ coming; done = w.done ++ act ∷ []; clock = w.clock + 1 }

  -- the first call to come failed
  abbrev pub missed : (S : Setting J) → World S → List Act → World S
  missed S w [] = w
  missed S w (act ∷ coming) = record w { coming = []; done = with_failed w.done act; clock = w.clock + 1; broken = true }

  -- the first call to come went through, or failed
  abbrev pub device : (S : Setting J) → World S → Bool → World S
  device S w true = called S w w.coming
  device S w false = missed S w w.coming

  -- a stop, and the start after it: only what recovery finds is left
  abbrev pub stopped : (S : Setting J) → Plain J → World S → List ℕ → Option (Plain J × S.Parts) → World S
  stopped S B w image None = record w { book = gave_up w.book; coming = []; start = image; done = []; broken = true }
  stopped S B w image (Some found) = record {
    book = cut (found.0.number - B.number) found.0 w.book;
    made = [];
    kept = found.0.number - B.number;
    coming = Sync ∷ [];
    opening = true;
    place = found.1;
    start = image;
    done = [];
    clock = w.clock;
    broken = false;
    published = take (found.0.number - B.number) w.book.accepted;
    readers = λ reader. take (found.0.number - B.number) w.book.accepted;
  }

  -- the world after an event
  abbrev pub happens : (S : Setting J) → Plain J → World S → Event J → World S
  happens S B w (Ask c) = record w { book = asked S.kind c w.book }
  happens S B w Begin = record w { book = begun S.kind w.book }
  happens S B w (Step k) = record w { made = made_by S.kind k w.book.opened w.made }
  happens S B w (Give k place) = give_one S w place (slice_get w.made k)
  happens S B w Seal = record w { book = sealed w.book }
  happens S B w Abandon = record w { book = abandoned w.book }
  happens S B w (Take n) = taking S B w n
  happens S B w Tend = record w { coming = S.tends w.place; place = S.tended w.place }
  happens S B w (Device ok) = device S w ok
  happens S B w Publish = record w { published = take w.book.taken w.book.accepted }
  happens S B w Mark = record w { book = marked_now w.clock w.book }
  happens S B w Fail = record w { book = gave_up w.book; coming = []; broken = true }
  happens S B w (Receipt n) = record w { book = receipted n w.book }
  happens S B w (Look reader n) = record w { readers = λ r. cond (r == reader) (take n w.published) (w.readers r) }
  happens S B w (Stop image) = stopped S B w image (S.recovered image)

  -- a whole list of events
  abbrev pub run : (S : Setting J) → Plain J → World S → List (Event J) → World S
  run S B w [] = w
  run S B w (e ∷ es) = run S B (happens S B w e) es

  -- each of these events may happen where it comes
  abbrev pub CanRun : (S : Setting J) → Plain J → World S → List (Event J) → Type 0
  CanRun S B w [] = Unit {0}
  CanRun S B w (e ∷ es) = MayHappen S B w e × CanRun S B (happens S B w e) es
