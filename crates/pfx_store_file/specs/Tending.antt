-- The steps of a checkpoint in progress.
use Rattle.std.specs.Prelude.{◌≡◌, ℕ, ◌+◌, ◌-◌, ◌/◌, nat_lt, Bool, true, false, if◌then◌else◌}
use Rattle.pfx_store_image.specs.declared.head.TheConstants.{SEGMENT_HEAD}
use Rattle.pfx_store_image.specs.Store.{Parts, finished, turned_at}
use Rattle.pfx_store_file.specs.Checkpoints.{in_progress}
use Rattle.pfx_store_file.specs.Fitting.{HasRoom, IsEmpty}
use Rattle.pfx_store_file.specs.declared.places.Places.{Places}
use Rattle.pfx_store_file.specs.declared.progress.Checkpoint.{Checkpoint}
use Rattle.pfx_store_file.specs.declared.progress.Checkpoint.TheVariants.{Ended, Pending, Writing}
use Rattle.pfx_store_file.specs.declared.checkpoint.TheConstants.{PIECE}
use Rattle.pfx_store_file.specs.declared.checkpoint.Tended.{Tended}
use Rattle.pfx_store_file.specs.declared.checkpoint.Tended.TheVariants.{Nothing, Closed, Piece, Finished}

-- the step that comes next, of a checkpoint whose body is so long
abbrev pub step_of : ℕ → Checkpoint → Tended
step_of body Ended = Nothing
step_of body Pending = Closed
step_of body (Writing done) = if nat_lt done body then Piece else Finished

-- the step that comes next in a file with these places
abbrev pub next_step : Places → Tended
next_step places = step_of places.sizes.body places.checkpoint

-- how many calls of the disk a step takes
abbrev pub calls_of : Tended → ℕ
calls_of Nothing = 0
calls_of Closed = 2
calls_of Piece = 1
calls_of Finished = 3

-- how many pieces n bytes are written in
abbrev pub pieces : ℕ → ℕ
pieces n = (n + (PIECE - 1)) / PIECE

-- how many steps are to come until the checkpoint in progress has ended: the first, the pieces and the last
abbrev pub steps_of : ℕ → Checkpoint → ℕ
steps_of body Ended = 0
steps_of body Pending = 2 + pieces body
steps_of body (Writing done) = 1 + pieces (body - done)

-- how many are to come in a file with these places
abbrev pub steps_left : Places → ℕ
steps_left places = steps_of places.sizes.body places.checkpoint

-- how many calls of the disk they take
abbrev pub calls_to_end : ℕ → Checkpoint → ℕ
calls_to_end body Ended = 0
calls_to_end body Pending = 5 + pieces body
calls_to_end body (Writing done) = 3 + pieces (body - done)

-- how many calls they take in a file with these places
abbrev pub calls_left : Places → ℕ
calls_left places = calls_to_end places.sizes.body places.checkpoint

-- how many it takes to append a frame of n bytes: four if it fits, else those of the steps to come, of a turn, and four
abbrev pub append_calls : ℕ → Places → ℕ
append_calls n places = if nat_lt (places.gate + n) places.end then 4 else 10 + calls_left places

-- how many a turn takes: none if it isn't lawful
abbrev pub turn_calls : Places → ℕ
turn_calls places = if in_progress places.checkpoint then 0
    else (if nat_lt (places.end + SEGMENT_HEAD) (places.gate + places.sizes.segment) then 6 else 0)

-- after a turn: the segment that frames go to has none, and the checkpoint in progress has all its steps to come
pub record IsTurned (places : Places) : Type 0 where
  pub pending : places.checkpoint ≡ Pending
  pub empty : IsEmpty places

-- frames go where they went
pub record StaysPut (old new : Places) : Type 0 where
  pub segment : new.segment ≡ old.segment
  pub gate : new.gate ≡ old.gate
  pub end : new.end ≡ old.end

-- the next frame's gate lies n bytes on, and all else is as it was: what was done of the checkpoint in progress too
pub record MovesOn (n : ℕ) (old new : Places) : Type 0 where
  pub gate : new.gate ≡ old.gate + n
  pub end : new.end ≡ old.end
  pub area : new.area ≡ old.area
  pub segment : new.segment ≡ old.segment
  pub checkpoint : new.checkpoint ≡ old.checkpoint
  pub area_open : new.area_open ≡ old.area_open
  pub segment_open : new.segment_open ≡ old.segment_open

-- after a turn and a frame of n bytes: that frame alone is in its segment, and the checkpoint has all its steps to come
pub record IsTurnedBefore (n : ℕ) (places : Places) : Type 0 where
  pub pending : places.checkpoint ≡ Pending
  pub gate : places.end + SEGMENT_HEAD + n ≡ places.gate + places.sizes.segment

-- how a frame of n bytes moves the places, whether it fits or not
pub record TakesFrame (n : ℕ) (old new : Places) : Type 0 where
  pub room : HasRoom n old → MovesOn n old new
  pub full : ¬ HasRoom n old → IsTurnedBefore n new

-- a frame of n bytes moved the places so, and the file was turned for it exactly if it had no room
pub record FindsRoom (turned : Bool) (n : ℕ) (old new : Places) : Type 0 where
  pub takes : TakesFrame n old new
  pub there : turned ≡ false → HasRoom n old
  pub full : turned ≡ true → ¬ HasRoom n old

-- the parts, if the checkpoint in progress has ended, if there was one
abbrev pub settled : {S : Type 0} → Parts S → Parts S
settled p = if p.turned then finished p else p

-- the parts, if it may have ended
abbrev pub settled_unless : {S : Type 0} → Bool → Parts S → Parts S
settled_unless still p = if still then p else settled p

-- the parts, if room was made for n bytes at this state: the same, if there was room; else turned, after the end of
-- the checkpoint in progress
abbrev pub made_room : {S : Type 0} → ℕ → Places → Parts S → S → Parts S
made_room n places p s = if nat_lt (places.gate + n) places.end then p else turned_at (settled p) s
