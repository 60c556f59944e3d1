-- Worked rows: a run of a small store, with a job, a slot, a checkpoint's step, receipts, a stop within a call, and on from there.
use Rattle.std.specs.Prelude.{◌≡◌, ℕ, zero, suc, ◌+◌, ◌-◌, List, [], ◌∷◌, ◌++◌, length, take, slice_index, Option, Some, None, Ok, refl}
use Rattle.std.proofs.Common.{true, false, inl, arith, inr}
use Rattle.pfx_choice.specs.PfRows.{chosen}
use Rattle.pfx_disk.specs.Disk.{Torn}
use Rattle.pfx_disk.specs.Stop.{Act, Sync, Write}
use Rattle.pfx_jobs.specs.Kind.{Kind}
use Rattle.pfx_machine.specs.Outcome.{outcome}
use Rattle.pfx_machine.specs.Plain.{Plain, empty}
use Rattle.pfx_machine.specs.Slots.{deal}
use Rattle.pfx_machine.specs.declared.command.Command.{Command}
use Rattle.pfx_machine.specs.declared.command.Command.TheVariants.{Submit, Slot}
use Rattle.pfx_symbols.specs.Symbols.{substring_at}
use Rattle.pfx_weights.specs.Sets.{FilledSet}
use Rattle.pfx_events_world.specs.Events.{Event, Ask, Begin, Step, Give, Seal, Take, Tend, Device, Publish, Mark, Receipt, Look, Stop, run, CanRun, Fail, Abandon}
use Rattle.pfx_events_world.specs.Session.{Opened}
use Rattle.pfx_events_world.specs.Setting.{Setting}
use Rattle.pfx_events_world.specs.World.{World, new_world}
use Rattle.pfx_events_world.proofs.Worked.{can_join}

-- three tasks of 2/3 on two workers
abbrev pub thirds : FilledSet
thirds = record { workers = 2; real = 3; hyper = 3; weights = (2, 3) ∷ (2, 3) ∷ (2, 3) ∷ [] }

-- jobs whose states are how many steps are left
abbrev pub down : Kind ℕ
down = record { left = λ n. n; stepped = λ n. n - 1; spelling = λ n. []; decoded = λ bytes. None }

first_row : chosen (empty {J = ℕ} thirds 8192).ledger ≡ Ok (0 ∷ 1 ∷ [])
unfolding substring_at
first_row = refl

abbrev pub begin : Plain ℕ
begin = empty thirds 8192

-- a job of three steps for task 0, a slot, and the job of task 1
abbrev pub commands : List (Command ℕ)
commands = Submit 0 3 ∷ Slot ∷ Submit 1 5 ∷ []

-- A store of one byte, which says how many of these commands it has. Each append is a turn too, and leaves a checkpoint's
-- step to come, which writes the byte behind it.
abbrev pub counts : ℕ → Plain ℕ
counts n = outcome down begin (take n commands)

abbrev small_tends : ℕ → List Act
small_tends zero = []
small_tends (suc p) = Write 1 (suc p ∷ []) ∷ Sync ∷ []

abbrev pub small : Setting ℕ
small = record {
  kind = down;
  Parts = ℕ;
  stands = λ image s p. s ≡ counts (slice_index image 0);
  whole = λ image s p. s ≡ counts (slice_index image 0);
  recovered = λ image. Some (counts (slice_index image 0), 0);
  calls = λ p s batch. Write 0 ((s.number + length batch) ∷ []) ∷ Sync ∷ [];
  moved = λ p s batch. p + 1;
  tends = small_tends;
  tended = λ p. p - 1;
}

abbrev pub at_first : World small
at_first = new_world small begin (0 ∷ 0 ∷ []) 0

-- a command is asked, taken, appended by two calls, published, marked and receipted
abbrev one_command : List (Event ℕ)
one_command = Ask (Submit 0 3) ∷ Take 1 ∷ Device true ∷ Device true ∷ Publish ∷ Mark ∷ Receipt 1 ∷ []

one_can : CanRun small begin at_first one_command
one_can = (
  (tt, refl, refl, refl),
  (
    (record { none = refl; whole = refl; goes_on = refl }, refl, omega arith, omega arith, omega arith, tt),
    (
      (λ none. cc, refl),
      (
        (λ none. cc, refl),
        (
          record { none = refl; whole = refl; goes_on = refl },
          ((record { none = refl; whole = refl; goes_on = refl }, refl), (omega arith, tt)),
        ),
      ),
    ),
  ),
)

-- the receipt has the clock of the mark
one_receipt : (run small begin at_first one_command).book.receipts ≡ (1, 2) ∷ []
one_receipt = refl

one_published : (run small begin at_first one_command).published ≡ Submit 0 3 ∷ []
one_published = refl

abbrev behind_one : World small
behind_one = run small begin at_first one_command

-- the slot that is opened behind it: tasks 0 and 1 run, and of the two only task 0 has a job
abbrev first_slot : List (Option ℕ) → Opened ℕ
first_slot back = record { row = 0 ∷ 1 ∷ []; quanta = deal 2 0 0 3 ∷ []; back = back }

-- the slot is opened, its quantum run and given back, and the slot is sealed, while a step of the checkpoint goes through; then
-- it is appended, marked and receipted, and a reader sees both commands
abbrev one_slot : List (Event ℕ)
one_slot = Begin ∷ Step 0 ∷ Tend ∷ Device true ∷ Give 0 0 ∷ Device true ∷ Seal ∷ Take 1 ∷ Device true ∷ Device true ∷ Publish ∷ Mark ∷ Receipt 2 ∷ Look 7 2 ∷ []

slot_can : CanRun small begin behind_one one_slot
unfolding substring_at
slot_can = (
  (refl, refl, refl),
  (
    (first_slot (None ∷ []), deal 2 0 0 3, refl, refl),
    (
      (record { none = refl; whole = refl; goes_on = refl }, refl, λ none. cc),
      (
        (λ none. cc, refl),
        (
          ((deal 2 0 0 3, 2), refl, (first_slot (None ∷ []), refl, refl, refl)),
          (
            (λ none. cc, refl),
            (
              (first_slot (Some 2 ∷ []), refl, tt),
              (
                (record { none = refl; whole = refl; goes_on = refl }, refl, omega arith, omega arith, omega arith, tt),
                (
                  (λ none. cc, refl),
                  (
                    (λ none. cc, refl),
                    (
                      record { none = refl; whole = refl; goes_on = refl },
                      ((record { none = refl; whole = refl; goes_on = refl }, refl), (omega arith, ((Submit 0 3 ∷ Slot ∷ [], refl), tt))),
                    ),
                  ),
                ),
              ),
            ),
          ),
        ),
      ),
    ),
  ),
)

abbrev behind_slot : World small
behind_slot = run small begin behind_one one_slot

-- the job of task 0 has made one of its three steps, both receipts stand, and the reader sees both commands
slot_state : behind_slot.book.state.jobs ≡ Some 2 ∷ None ∷ None ∷ []
unfolding substring_at
slot_state = refl

slot_receipts : behind_slot.book.receipts ≡ (2, 6) ∷ (1, 2) ∷ []
unfolding substring_at
slot_receipts = refl

slot_seen : behind_slot.readers 7 ≡ Submit 0 3 ∷ Slot ∷ []
unfolding substring_at
slot_seen = refl

-- A third command is taken, and a stop comes within the sync of its append, with the command. The next start syncs, and
-- what was left is marked.
abbrev one_stop : List (Event ℕ)
one_stop = Ask (Submit 1 5) ∷ Take 1 ∷ Device true ∷ Stop (3 ∷ 1 ∷ []) ∷ Device true ∷ Receipt 3 ∷ []

stop_can : CanRun small begin behind_slot one_stop
unfolding substring_at
stop_can = (
  (tt, refl, refl, refl),
  (
    (record { none = refl; whole = refl; goes_on = refl }, refl, omega arith, omega arith, omega arith, tt),
    ((λ none. cc, refl), (inr refl, ((λ none. cc, refl), (omega arith, tt)))),
  ),
)

-- the commands are those of before, the state is their outcome, and the receipts stand
stop_accepted : (run small begin behind_slot one_stop).book.accepted ≡ commands
unfolding substring_at
stop_accepted = refl

stop_jobs : (run small begin behind_slot one_stop).book.state.jobs ≡ Some 2 ∷ Some 5 ∷ None ∷ []
unfolding substring_at
stop_jobs = refl

stop_receipts : (run small begin behind_slot one_stop).book.receipts ≡ (3, 8) ∷ (2, 6) ∷ (1, 2) ∷ []
unfolding substring_at
stop_receipts = refl

-- all of it is one run
whole_can : CanRun small begin at_first (one_command ++ (one_slot ++ one_stop))
whole_can = can_join small begin at_first one_command (one_slot ++ one_stop) one_can
    (can_join small begin behind_one one_slot one_stop slot_can stop_can)

-- another run begins at the image that is left
another : Some (counts 3, 0) ≡ small.recovered (3 ∷ 1 ∷ [])
another = refl

-- The sync of an append fails: no call is to come, and a stop may leave the byte as it was. Then the command is gone, and no
-- receipt was given for it.
abbrev one_failure : List (Event ℕ)
one_failure = Ask (Submit 0 3) ∷ Take 1 ∷ Device true ∷ Device false ∷ Fail ∷ []

failure_coming : (run small begin at_first one_failure).coming ≡ []
failure_coming = refl

failure_kept : (run small begin at_first one_failure).kept ≡ 0
failure_kept = refl

not_written : Torn 0 1 (0 ∷ 0 ∷ []) (0 ∷ 0 ∷ [])
not_written = record { no_shorter = omega arith; no_longer = omega arith; elsewhere = λ i inside out. refl }

failure_can : CanRun small begin at_first (one_failure ++ Stop (0 ∷ 0 ∷ []) ∷ [])
failure_can = (
  (tt, refl, refl, refl),
  (
    (record { none = refl; whole = refl; goes_on = refl }, refl, omega arith, omega arith, omega arith, tt),
    ((λ none. cc, refl), ((λ none. cc, refl), (tt, (inl (0 ∷ 0 ∷ [], refl, not_written), tt)))),
  ),
)

failure_accepted : (run small begin at_first (one_failure ++ Stop (0 ∷ 0 ∷ []) ∷ [])).book.accepted ≡ []
failure_accepted = refl

failure_receipts : (run small begin at_first (one_failure ++ Stop (0 ∷ 0 ∷ []) ∷ [])).book.receipts ≡ []
failure_receipts = refl

-- a slot that is given up leaves the book as it was
given_up : (run small begin at_first (Begin ∷ Abandon ∷ [])).book ≡ at_first.book
given_up = refl
