-- A store's file, after each of its acts.
use Rattle.std.specs.Prelude.{◌≡◌, ℕ, ◌+◌, List, [], ◌++◌, length, Bool, true, false, if◌then◌else◌, Option, Some, Vec, refl}
use Rattle.std.specs.declared.alloc.Global.{Global}
use Rattle.std.proofs.Common.{sym, ◌∙◌, ap, ap₂, subst, arith, ⊎_elim}
use Rattle.std.proofs.lemmas.Bool.{cases_lt, lt-ltb, le-ltb}
use Rattle.pfx_checkpoint.specs.Whole.{whole_bytes}
use Rattle.pfx_disk.specs.CallsMade.{HasMade, HasBrokenOff, HasKeptTo}
use Rattle.pfx_disk.specs.Disk.{View}
use Rattle.pfx_disk.specs.Stop.{Act}
use Rattle.pfx_store_format.specs.Areas.{read_area}
use Rattle.pfx_store_format.specs.Format.{format}
use Rattle.pfx_store_format.proofs.Keeping.{read_of}
use Rattle.pfx_store_header.specs.Headers.{Header}
use Rattle.pfx_jobs.specs.Kind.{Kind}
use Rattle.pfx_machine.specs.Plain.{Plain}
use Rattle.pfx_store_image.specs.Layout.{segment_end}
use Rattle.pfx_store_recover.specs.Finding.{IsOpened}
use Rattle.pfx_store_image.specs.Store.{Parts, IsStore}
use Rattle.pfx_store_file.specs.Acts.{tend_acts, tended_file, end_acts, ended_file, turn_acts, turned_file, gate_of, has_room, roomy_file, framed_file, append_acts, appended_file}
use Rattle.pfx_store_file.specs.Files.{AreOf, file_in}
use Rattle.pfx_segment.specs.Acts.{put_acts}
use Rattle.pfx_store_file.specs.Fitting.{HasRoom}
use Rattle.pfx_store_file.specs.Tending.{FindsRoom}
use Rattle.pfx_store_file.specs.declared.places.Places.{Places}
use Rattle.pfx_store_file.proofs.Ends.{tended_kept}
use Rattle.pfx_store_file.proofs.Joins.{tend_same, end_same}
use Rattle.pfx_store.specs.Files.{FileOf, HasFile, spelled, start_of, behind_of, appending, appended, tending, turning, file_found, recovered_file}
use Rattle.pfx_store.specs.Standing.{IsBehind}
use Rattle.pfx_store.specs.Working.{SpellsTurn}

-- what stands behind a frame's gate is that
pub behind_same : (frame bytes : List ℕ) → IsBehind frame bytes → behind_of frame ≡ bytes
behind_same frame bytes is = ap behind_of is.1 ∙ sym is.2.split

-- a file's body is one that is the same
pub has_spelled : {J : Type 0} (K : Kind J) (f : FileOf J) (places : Places) (a b : List ℕ) → a ≡ b → HasFile K f places b → HasFile K f places a
has_spelled K f places a b same has = subst (λ (l : List ℕ). HasFile K f places l) (sym same) has

module _ {J : Type 0} (K : Kind J) (f : FileOf J) (places : Places) (body : List ℕ) (has : HasFile K f places body) where
  tends_so : tend_acts (format K) f body ≡ tending K f
  tends_so = tend_same (format K) f body (spelled K f) has.spells

  ends_so : end_acts (format K) f body ≡ end_acts (format K) f (spelled K f)
  ends_so = end_same (format K) f body (spelled K f) has.spells

  -- a step of the checkpoint
  module _ (old new : View) where
    pub tend_made : HasMade (tend_acts (format K) f body) old new → HasMade (tending K f) old new
    tend_made made = subst (λ l. HasMade l old new) tends_so made

    pub tend_broken : HasBrokenOff (tend_acts (format K) f body) old new → HasBrokenOff (tending K f) old new
    tend_broken broken = subst (λ l. HasBrokenOff l old new) tends_so broken

    pub tend_within : HasKeptTo (tend_acts (format K) f body) old new → HasKeptTo (tending K f) old new
    tend_within within = subst (λ l. HasKeptTo l old new) tends_so within

  pub tend_file : (after : Places) → AreOf (format K) (tended_file (format K) f) after → HasFile K (tended_file (format K) f) after body
  tend_file after are = let kept = tended_kept (format K) f in record {
    are = are;
    spells = λ turned. has.spells (kept.turned turned) ∙ ap (whole_bytes K) (sym kept.middle);
  }

  -- room for a frame of n bytes
  module _ (n : ℕ) where
    room_is : HasRoom n places → has_room (format K) f n ≡ true
    room_is room = let g = has.are.are.gate in let e = has.are.are.end in
        lt-ltb (gate_of (format K) f + n) (segment_end ((format K).layout f.head) f.parts.segment) (omega (arith, room, g, e))

    full_is : ¬ HasRoom n places → has_room (format K) f n ≡ false
    full_is none = let g = has.are.are.gate in let e = has.are.are.end in
        le-ltb (gate_of (format K) f + n) (segment_end ((format K).layout f.head) f.parts.segment)
        (⊎_elim (λ room. absurd (none (omega (arith, room, g, e)))) (λ full. full) (cases_lt (gate_of (format K) f + n) (segment_end ((format K).layout f.head) f.parts.segment)))

  -- A frame appended.
  module _ (s : Plain J) (frame start bytes : List ℕ) (starts : start ≡ start_of s) (behind : bytes ≡ behind_of frame) where
    appends_so : append_acts (format K) f s body start bytes ≡ appending K f s frame
    appends_so =
        ap₂ (λ b e. append_acts (format K) f s body b e) starts behind
        ∙ ap (λ l. (if has_room (format K) f (length (behind_of frame)) then [] else (l ++ turn_acts (format K) (ended_file (format K) f) (start_of s)))
        ++ put_acts (gate_of (format K) (roomy_file (format K) (length (behind_of frame)) f s)) (behind_of frame)) ends_so

    module _ (old new : View) where
      pub append_made : HasMade (append_acts (format K) f s body start bytes) old new → HasMade (appending K f s frame) old new
      append_made made = subst (λ l. HasMade l old new) appends_so made

      pub append_broken : HasBrokenOff (append_acts (format K) f s body start bytes) old new → HasBrokenOff (appending K f s frame) old new
      append_broken broken = subst (λ l. HasBrokenOff l old new) appends_so broken

      pub append_within : HasKeptTo (append_acts (format K) f s body start bytes) old new → HasKeptTo (appending K f s frame) old new
      append_within within = subst (λ l. HasKeptTo l old new) appends_so within

    module _ (other : List ℕ) where
      -- the body of the checkpoint in progress is as it was, if there was room, and else the state's
      abbrev Spelled : FileOf J → Type 0
      Spelled g = g.parts.turned ≡ true → other ≡ whole_bytes K g.parts.middle

      spelled_by : (turned : Bool) → (turned ≡ false → HasRoom (length (behind_of frame)) places) → (turned ≡ true → ¬ HasRoom (length (behind_of frame)) places) →
          SpellsTurn K turned s body other → Spelled (appended K f s frame)
      spelled_by false there full spells = subst (λ b. Spelled (framed_file (format K) (if b then f else turned_file (format K) (ended_file (format K) f) s) frame))
          (sym (room_is (length (behind_of frame)) (there refl))) (λ turned. spells.same refl ∙ has.spells turned)
      spelled_by true there full spells = subst (λ b. Spelled (framed_file (format K) (if b then f else turned_file (format K) (ended_file (format K) f) s) frame))
          (sym (full_is (length (behind_of frame)) (full refl))) (λ turned. spells.spelled refl)

      pub append_file : (turned : Bool) (after : Places) → FindsRoom turned (length bytes) places after → SpellsTurn K turned s body other →
          AreOf (format K) (appended_file (format K) f s bytes frame) after → HasFile K (appended K f s frame) after other
      append_file turned after finds spells are =
          let found = subst (λ (l : List ℕ). FindsRoom turned (length l) places after) behind finds in
          record {
            are = subst (λ (l : List ℕ). AreOf (format K) (appended_file (format K) f s l frame) after) behind are;
            spells = spelled_by turned found.there found.full spells;
          }

  -- a turn
  module _ (s : Plain J) (start : List ℕ) (starts : start ≡ start_of s) (old new : View) where
    pub turn_made : HasMade (turn_acts (format K) f start) old new → HasMade (turning K f s) old new
    turn_made made = subst (λ b. HasMade (turn_acts (format K) f b) old new) starts made

    pub turn_broken : HasBrokenOff (turn_acts (format K) f start) old new → HasBrokenOff (turning K f s) old new
    turn_broken broken = subst (λ b. HasBrokenOff (turn_acts (format K) f b) old new) starts broken

    pub turn_within : HasKeptTo (turn_acts (format K) f start) old new → HasKeptTo (turning K f s) old new
    turn_within within = subst (λ b. HasKeptTo (turn_acts (format K) f b) old new) starts within

-- if the bytes of a checkpoint area are read as a state, they are that state's
module _ {J : Type 0} (K : Kind J) (h : Header) (p : Parts (Plain J)) (s : Plain J) (body image : List ℕ) where
  pub body_same : IsStore (format K) h p s image → read_area K h body ≡ Some p.middle → body ≡ whole_bytes K p.middle
  body_same store read = sym (read_of K h body p.middle read).spelled

-- a store that was opened has the file that is found
pub opened_file : {J : Type 0} (K : Kind J) (h : Header) (bytes : List ℕ) (places : Places) (s : Plain J) (middle : Option (Vec ℕ Global)) (body : List ℕ) (disk : View) →
    (o : IsOpened (format K) h bytes places s middle disk) → (o.parts.turned ≡ true → read_area K h body ≡ Some o.parts.middle) →
    (f : FileOf J) × (recovered_file K bytes ≡ Some (s, f)) × HasFile K f places body
opened_file K h bytes places s middle body disk o reads = (
  file_in (format K) bytes h o.parts,
  ap (file_found K bytes) o.found,
  record {
    are = o.file;
    spells = λ turned. let holds = o.holds body in
        body_same K h o.parts s body disk.contents (holds.images disk.contents holds.honest.here).store (reads turned);
  },
)
