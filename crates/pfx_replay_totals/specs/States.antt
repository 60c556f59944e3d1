-- What slots gave to tasks, from the states before them and the records of what ran.
use Rattle.std.specs.Prelude.{ℕ, ◌+◌, List, [], ◌∷◌, ◌++◌, map, slice_get}
use Rattle.std.specs.List.{range_with_len}
use Rattle.pfx_columns.specs.Lags.{lag_of}
use Rattle.pfx_columns.specs.Ledgers.{task}
use Rattle.pfx_jobs.specs.Kind.{Kind}
use Rattle.pfx_machine.specs.Jobs.{is_busy}
use Rattle.pfx_machine.specs.Outcome.{outcome}
use Rattle.pfx_machine.specs.Plain.{Plain, whole}
use Rattle.pfx_record.specs.Records.{Recorded, submitted, ran, withdrawn, reweighed, tasks_of}
use Rattle.pfx_replay.specs.Commands.{command_of}
use Rattle.pfx_weights.specs.Rows.{is_in, one}
use Rattle.pfx_replay_totals.specs.Slots.{Slot}
use Rattle.pfx_replay_totals.specs.declared.share.SlotShare.{SlotShare}

module _ {J : Type 0} (K : Kind J) where
  -- a task's share of a slot with this row: whether it had an open job is a matter of the state before, and its lag is that behind the slot
  abbrev pub share_in : Plain J → List ℕ → ℕ → SlotShare
  share_in s row x = record {
    e = (task s.ledger x).e;
    p = (task s.ledger x).p;
    got = is_in row x;
    busy = is_busy K (slice_get s.jobs x);
    lag = lag_of (task s.ledger x).e (task s.ledger x).p ((task s.ledger x).alloc + one (is_in row x)) (s.ledger.slot + 1);
  }

  abbrev pub slot_in : Plain J → List ℕ → Slot
  slot_in s row = record { at = whole s; since = s.from; shares = map (share_in s row) (range_with_len 0 s.ledger.set.real) }

  -- the slot that a record ran at a state, if it did
  abbrev pub ran_by : Plain J → Recorded J → List Slot
  ran_by s (submitted task job) = []
  ran_by s (ran row) = slot_in s (tasks_of row) ∷ []
  ran_by s (withdrawn task) = []
  ran_by s (reweighed workers weights) = []

  -- the state behind a record's command, and behind those of some records, one after the other
  abbrev pub next_state : Plain J → Recorded J → Plain J
  next_state s one = outcome K s (command_of one ∷ [])

  abbrev pub reached : Plain J → List (Recorded J) → Plain J
  reached s [] = s
  reached s (one ∷ records) = reached (next_state s one) records

  -- the slots that these records ran, each at the state behind those before it
  abbrev pub slots_behind : Plain J → List (Recorded J) → List Slot
  slots_behind s [] = []
  slots_behind s (one ∷ records) = ran_by s one ++ slots_behind (next_state s one) records
