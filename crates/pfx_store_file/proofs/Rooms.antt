-- The calls of an append, if there is room and if there is none.
use Rattle.std.specs.Prelude.{◌≡◌, ℕ, ◌+◌, if◌then◌else◌, List, [], ◌++◌, length, true, false}
use Rattle.std.proofs.Common.{ap, arith, ⊎_elim}
use Rattle.std.proofs.lemmas.Bool.{cases_lt, lt-ltb, le-ltb}
use Rattle.pfx_segment.specs.Acts.{put_acts}
use Rattle.pfx_store_image.specs.Codec.{Codec}
use Rattle.pfx_store_image.specs.Layout.{segment_end}
use Rattle.pfx_store_file.specs.Fitting.{HasRoom}
use Rattle.pfx_store_file.specs.declared.places.Places.{Places}
use Rattle.pfx_store_file.specs.Files.{File, AreOf}
use Rattle.pfx_store_file.specs.Acts.{end_acts, ended_file, turn_acts, turned_file, gate_of, has_room, framed_file, append_acts, appended_file}

module _ {H S : Type 0} (K : Codec H S) (f : File H S) (s : S) (spelling start bytes : List ℕ) (places : Places) (are : AreOf K f places) where
  room_is : HasRoom (length bytes) places → has_room K f (length bytes) ≡ true
  room_is room = lt-ltb (gate_of K f + length bytes) (segment_end (K.layout f.head) f.parts.segment) (omega (arith, room, are.are.gate, are.are.end))

  full_is : ¬ HasRoom (length bytes) places → has_room K f (length bytes) ≡ false
  full_is none = le-ltb (gate_of K f + length bytes) (segment_end (K.layout f.head) f.parts.segment) (⊎_elim (λ room. absurd (none (omega (arith, room, are.are.gate, are.are.end)))) (λ full. full) (cases_lt (gate_of K f + length bytes) (segment_end (K.layout f.head) f.parts.segment)))

  pub there_acts : HasRoom (length bytes) places → append_acts K f s spelling start bytes ≡ put_acts (gate_of K f) bytes
  there_acts room = ap (λ b. (if b then [] else (end_acts K f spelling ++ turn_acts K (ended_file K f) start)) ++ put_acts (gate_of K (if b then f else turned_file K (ended_file K f) s)) bytes) (room_is room)

  pub full_acts : ¬ HasRoom (length bytes) places → append_acts K f s spelling start bytes ≡ (end_acts K f spelling ++ turn_acts K (ended_file K f) start) ++ put_acts (gate_of K (turned_file K (ended_file K f) s)) bytes
  full_acts none = ap (λ b. (if b then [] else (end_acts K f spelling ++ turn_acts K (ended_file K f) start)) ++ put_acts (gate_of K (if b then f else turned_file K (ended_file K f) s)) bytes) (full_is none)

  pub there_file : (next : List ℕ) → HasRoom (length bytes) places → appended_file K f s bytes next ≡ framed_file K f next
  there_file next room = ap (λ b. framed_file K (if b then f else turned_file K (ended_file K f) s) next) (room_is room)

  pub full_file : (next : List ℕ) → ¬ HasRoom (length bytes) places → appended_file K f s bytes next ≡ framed_file K (turned_file K (ended_file K f) s) next
  full_file next none = ap (λ b. framed_file K (if b then f else turned_file K (ended_file K f) s) next) (full_is none)
