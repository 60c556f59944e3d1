-- The calls of the acts of a store's file, one after the other, and the file after them.
use Rattle.std.specs.Prelude.{ℕ, zero, suc, ◌+◌, ◌-◌, min, nat_lt, if◌then◌else◌}
use Rattle.std.specs.Prelude.{List, [], ◌∷◌, ◌++◌, length, take, drop, Bool, true, false}
use Rattle.pfx_disk.specs.Stop.{Act, Write}
use Rattle.pfx_segment.specs.Acts.{put_acts, close_acts, open_acts}
use Rattle.pfx_store_image.specs.Codec.{Codec}
use Rattle.pfx_store_image.specs.Layout.{segment_end}
use Rattle.pfx_store_image.specs.Store.{next_gate, with_frame, turned_at, finished}
use Rattle.pfx_store_file.specs.declared.checkpoint.TheConstants.{PIECE}
use Rattle.pfx_store_file.specs.Checkpoints.{is_begun, written}
use Rattle.pfx_store_file.specs.Files.{File, area_of, segment_of}
use Rattle.pfx_store_file.specs.declared.progress.Checkpoint.TheVariants.{Ended, Pending, Writing}

module _ {H S : Type 0} (K : Codec H S) where
  -- how long the next piece of the checkpoint in progress is
  abbrev pub piece_len : File H S → ℕ
  piece_len f = min ((K.layout f.head).body - written f.checkpoint) PIECE

  -- that piece, written after those before it
  abbrev pub piece_acts : File H S → List ℕ → List Act
  piece_acts f spelling = Write (area_of K f + 1 + written f.checkpoint) (take (piece_len f) (drop (written f.checkpoint) spelling)) ∷ []

  -- the next step of the checkpoint in progress, whose body is spelled so: closed, a piece, finished
  abbrev pub tend_acts : File H S → List ℕ → List Act
  tend_acts f spelling = if f.parts.turned
      then (if is_begun f.checkpoint
      then (if nat_lt (written f.checkpoint) (K.layout f.head).body then piece_acts f spelling else open_acts (area_of K f))
      else close_acts (area_of K f) f.area_open)
      else []

  -- the file after its first step
  abbrev pub closed_file : File H S → File H S
  closed_file f = record f { area_open = false; checkpoint = Writing 0 }

  -- after a piece
  abbrev pub pieced_file : File H S → File H S
  pieced_file f = record f { checkpoint = Writing (written f.checkpoint + piece_len f) }

  -- after its last step
  abbrev pub finished_file : File H S → File H S
  finished_file f = record f { parts = finished f.parts; area_open = true; segment_open = true; checkpoint = Ended }

  -- after the next step, whichever that is
  abbrev pub tended_file : File H S → File H S
  tended_file f = if f.parts.turned
      then (if is_begun f.checkpoint
      then (if nat_lt (written f.checkpoint) (K.layout f.head).body then pieced_file f else finished_file f)
      else closed_file f)
      else f

  -- so many steps of it
  abbrev pub steps_acts : ℕ → File H S → List ℕ → List Act
  steps_acts zero f spelling = []
  steps_acts (suc n) f spelling = tend_acts f spelling ++ steps_acts n (tended_file f) spelling

  -- the file after them
  abbrev pub stepped_file : ℕ → File H S → File H S
  stepped_file zero f = f
  stepped_file (suc n) f = stepped_file n (tended_file f)

  -- all of them: never more than two and one for each byte
  abbrev pub end_acts : File H S → List ℕ → List Act
  end_acts f spelling = steps_acts (2 + (K.layout f.head).body) f spelling

  -- the file with no checkpoint in progress
  abbrev pub ended_file : File H S → File H S
  ended_file f = stepped_file (2 + (K.layout f.head).body) f

  -- a turn at a state, with these bytes behind the gate
  abbrev pub turn_acts : File H S → List ℕ → List Act
  turn_acts f start = close_acts (segment_of K f) f.segment_open ++ put_acts (segment_of K f) start

  -- the file after a turn
  abbrev pub turned_file : File H S → S → File H S
  turned_file f s = record f { parts = turned_at f.parts s; checkpoint = Pending }

  -- where the next frame's gate stands
  abbrev pub gate_of : File H S → ℕ
  gate_of f = next_gate K f.head f.parts

  -- a frame of n bytes fits into its segment, with the closed gate behind it
  abbrev pub has_room : File H S → ℕ → Bool
  has_room f n = nat_lt (gate_of f + n) (segment_end (K.layout f.head) f.parts.segment)

  -- the file with one more frame
  abbrev pub framed_file : File H S → List ℕ → File H S
  framed_file f frame = record f { parts = with_frame f.parts frame }

  -- room made for a frame of n bytes: if there is none the checkpoint in progress is ended, and the file turned
  abbrev pub room_acts : ℕ → File H S → List ℕ → List ℕ → List Act
  room_acts n f spelling start = if has_room f n then [] else (end_acts f spelling ++ turn_acts (ended_file f) start)

  -- the file with that room
  abbrev pub roomy_file : ℕ → File H S → S → File H S
  roomy_file n f s = if has_room f n then f else turned_file (ended_file f) s

  -- an append of a frame: room made, and these bytes put behind the frame's gate
  abbrev pub append_acts : File H S → S → List ℕ → List ℕ → List ℕ → List Act
  append_acts f s spelling start bytes =
      room_acts (length bytes) f spelling start ++ put_acts (gate_of (roomy_file (length bytes) f s)) bytes

  -- the file after it
  abbrev pub appended_file : File H S → S → List ℕ → List ℕ → File H S
  appended_file f s bytes frame = framed_file (roomy_file (length bytes) f s) frame
