-- Room made first and a frame appended then: the calls of both, one behind the other, are those of an append.
use Rattle.std.specs.Prelude.{◌≡◌, ℕ, ◌+◌, nat_lt, if◌then◌else◌, List, [], ◌++◌, length, Bool, true, false, refl}
use Rattle.std.proofs.Common.{sym, ◌∙◌, ap, append_assoc}
use Rattle.pfx_store_image.specs.Codec.{Codec}
use Rattle.pfx_store_image.specs.Layout.{segment_at, segment_end}
use Rattle.pfx_segment.specs.Acts.{put_acts}
use Rattle.pfx_segment.specs.Frames.{size}
use Rattle.pfx_store_file.specs.Acts.{tend_acts, end_acts, ended_file, turn_acts, turned_file, gate_of, has_room, framed_file, append_acts, appended_file}
use Rattle.pfx_store_file.specs.Files.{File}
use Rattle.pfx_store_file.proofs.Ends.{Kept, stepped_kept, has_ended, none_acts, none_left_then}

module _ {H S : Type 0} (K : Codec H S) where
  -- the spelling of a checkpoint's body matters only if one is in progress
  module _ (f : File H S) (one two : List ℕ) (same : f.parts.turned ≡ true → one ≡ two) where
    tend_by : (b : Bool) → f.parts.turned ≡ b → tend_acts K f one ≡ tend_acts K f two
    tend_by true turned = ap (tend_acts K f) (same turned)
    tend_by false single = (none_acts K f one single).0 ∙ sym (none_acts K f two single).0

    pub tend_same : tend_acts K f one ≡ tend_acts K f two
    tend_same = tend_by f.parts.turned refl

    end_by : (b : Bool) → f.parts.turned ≡ b → end_acts K f one ≡ end_acts K f two
    end_by true turned = ap (end_acts K f) (same turned)
    end_by false single = (none_left_then K (2 + (K.layout f.head).body) f one single).0 ∙ sym (none_left_then K (2 + (K.layout f.head).body) f two single).0

    pub end_same : end_acts K f one ≡ end_acts K f two
    end_same = end_by f.parts.turned refl

  module _ (s : S) (start bytes next : List ℕ) (f : File H S) where
    abbrev n : ℕ
    n = length bytes

    there_acts : (spelling : List ℕ) → has_room K f n ≡ true → append_acts K f s spelling start bytes ≡ put_acts (gate_of K f) bytes
    there_acts spelling room = ap (λ b. (if b then [] else (end_acts K f spelling ++ turn_acts K (ended_file K f) start)) ++ put_acts (gate_of K (if b then f else turned_file K (ended_file K f) s)) bytes) room

    full_acts : (spelling : List ℕ) → has_room K f n ≡ false → append_acts K f s spelling start bytes ≡ (end_acts K f spelling ++ turn_acts K (ended_file K f) start) ++ put_acts (gate_of K (turned_file K (ended_file K f) s)) bytes
    full_acts spelling full = ap (λ b. (if b then [] else (end_acts K f spelling ++ turn_acts K (ended_file K f) start)) ++ put_acts (gate_of K (if b then f else turned_file K (ended_file K f) s)) bytes) full

    full_file : has_room K f n ≡ false → appended_file K f s bytes next ≡ framed_file K (turned_file K (ended_file K f) s) next
    full_file full = ap (λ b. framed_file K (if b then f else turned_file K (ended_file K f) s) next) full

  module _ (f : File H S) where
    abbrev e : File H S
    e = ended_file K f

    kept : Kept K f (ended_file K f)
    kept = stepped_kept K (2 + (K.layout f.head).body) f

    -- the end of a checkpoint leaves the room for frames
    room_same : (n : ℕ) → has_room K (ended_file K f) n ≡ has_room K f n
    room_same n =
        ap (λ (h : H). nat_lt (segment_at (K.layout h) e.parts.segment + 9 + size e.parts.frames + n) (segment_end (K.layout h) e.parts.segment)) kept.head
        ∙ (ap (λ (b : Bool). nat_lt (segment_at (K.layout f.head) b + 9 + size e.parts.frames + n) (segment_end (K.layout f.head) b)) kept.segment
        ∙ ap (λ (l : List (List ℕ)). nat_lt (segment_at (K.layout f.head) f.parts.segment + 9 + size l + n) (segment_end (K.layout f.head) f.parts.segment)) kept.frames)

    module _ (s : S) (spelling other start bytes next : List ℕ) where
      none_more : end_acts K e other ≡ []
      none_more = (none_left_then K (2 + (K.layout (ended_file K f).head).body) (ended_file K f) other (has_ended K f)).0

      ended_still : ended_file K e ≡ e
      ended_still = (none_left_then K (2 + (K.layout (ended_file K f).head).body) (ended_file K f) other (has_ended K f)).1

      joined_by : (b : Bool) → has_room K f (length bytes) ≡ b →
          ((if b then [] else end_acts K f spelling) ++ append_acts K (if b then f else e) s other start bytes ≡ append_acts K f s spelling start bytes)
          × (appended_file K (if b then f else e) s bytes next ≡ appended_file K f s bytes next)
      joined_by true room = (there_acts s start bytes next f other room ∙ sym (there_acts s start bytes next f spelling room), refl)
      joined_by false full =
          let full_then : has_room K e (length bytes) ≡ false = room_same (length bytes) ∙ full in (
            ap (λ l. end_acts K f spelling ++ l) (full_acts s start bytes next e other full_then
                ∙ (ap (λ l. (l ++ turn_acts K (ended_file K e) start) ++ put_acts (gate_of K (turned_file K (ended_file K e) s)) bytes) none_more
                ∙ ap (λ (g : File H S). turn_acts K g start ++ put_acts (gate_of K (turned_file K g s)) bytes) ended_still))
                ∙ (sym (append_assoc (end_acts K f spelling) (turn_acts K e start) (put_acts (gate_of K (turned_file K e s)) bytes))
                ∙ sym (full_acts s start bytes next f spelling full)),
            full_file s start bytes next e full_then ∙ (ap (λ (g : File H S). framed_file K (turned_file K g s) next) ended_still ∙ sym (full_file s start bytes next f full)),
          )

      pub joined_acts : (if has_room K f (length bytes) then [] else end_acts K f spelling) ++ append_acts K (if has_room K f (length bytes) then f else e) s other start bytes ≡ append_acts K f s spelling start bytes
      joined_acts = (joined_by (has_room K f (length bytes)) refl).0

      pub joined_file : appended_file K (if has_room K f (length bytes) then f else e) s bytes next ≡ appended_file K f s bytes next
      joined_file = (joined_by (has_room K f (length bytes)) refl).1
