-- The checkpoint's steps, all of them, and an append, as chains of calls.
use Rattle.std.proofs.Common.{◌≡◌, ⊎_elim, ℕ, zero, suc, ◌+◌, ◌≤◌, ◌<◌, List, [], ◌∷◌, ◌++◌, length, refl, sym, ◌∙◌, ap, subst, arith, length-append, true, false, not, Some}
use Rattle.std.specs.Prelude.{nat_lt}
use Rattle.std.proofs.lemmas.Bool.{ltb-true, ltb-false, true≢false}
use Rattle.pfx_disk.specs.Stop.{Act}
use Rattle.pfx_disk.specs.declared.gates.TheConstants.{GATE_OPEN}
use Rattle.pfx_segment.specs.Frames.{IsFrame, size}
use Rattle.pfx_store_image.specs.Codec.{Codec, Laws}
use Rattle.pfx_store_image.specs.Layout.{segment_at, segment_end}
use Rattle.pfx_store_image.specs.Store.{Parts, IsStore, next_gate, turned_at, finished}
use Rattle.pfx_store_image.proofs.Regions.{area_inside, segment_inside}
use Rattle.pfx_store_file.specs.Checkpoints.{is_begun, written}
use Rattle.pfx_store_file.specs.Holding.{IsStart}
use Rattle.pfx_events_acts.specs.Files.{IsFile, IsWhole}
use Rattle.pfx_segment.specs.Acts.{put_acts, close_acts, open_acts}
use Rattle.pfx_store_file.specs.Files.{File, area_of, segment_of}
use Rattle.pfx_store_file.specs.Acts.{piece_acts, tend_acts, closed_file, pieced_file, finished_file, tended_file, steps_acts, stepped_file, end_acts, ended_file, turn_acts, turned_file, gate_of, has_room, framed_file, append_acts, appended_file, roomy_file}
use Rattle.pfx_store_file.proofs.Ends.{by_if₂, Kept, tended_kept, stepped_kept, has_ended}
use Rattle.pfx_events_acts.proofs.Chains.{Chain, chain_then, chain_none, chain_with, chain_write}
use Rattle.pfx_events_acts.proofs.Gating.{put_chain, close_chain, open_chain}
use Rattle.pfx_events_acts.proofs.Filing.{known_shut, append_any, append_whole, shut_any, shut_whole, turn_any, turned_whole, close_any, close_whole, piece_file, piece_whole, finish_inside, finish_stand, finish_any, finish_whole}

module _ {H S : Type 0} (K : Codec H S) where
  -- what is spelled is the body of the checkpoint in progress
  abbrev pub Spells : File H S → List ℕ → Type 0
  Spells f spelling = f.parts.turned ≡ true → (K.read_state f.head spelling ≡ Some f.parts.middle) × (length spelling ≡ (K.layout f.head).body)

  spells_on : (f g : File H S) (spelling : List ℕ) → Kept K f g → Spells f spelling → Spells g spelling
  spells_on f g spelling kept spells turned =
      let was = spells (kept.turned turned) in
      (subst (λ h. K.read_state h spelling ≡ Some g.parts.middle) (sym kept.head) (subst (λ m. K.read_state f.head spelling ≡ Some m) (sym kept.middle) was.0), was.1 ∙ ap (λ h. (K.layout h).body) (sym kept.head))

module _ {H S : Type 0} (K : Codec H S) (laws : Laws K) (D : List ℕ → Type 0) where
  -- the images of a file
  abbrev pub Goes : File H S → S → List ℕ → List Act → File H S → S → List ℕ → Type 0
  Goes f s spelling calls g t next = Chain D (IsFile K s f) (IsWhole K spelling s f) calls (IsFile K t g) (IsWhole K next t g)

  module _ (s : S) (one : (h : H) (p : Parts S) (x : List ℕ) → IsStore K h p s x → D x) where
    within : (f : File H S) (x : List ℕ) → IsFile K s f x → D x
    within f x is = one f.head f.parts x is.store

    file : (f : File H S) (spelling x : List ℕ) → IsWhole K spelling s f x → IsFile K s f x
    file f spelling x is = is.file

    area_there : (f : File H S) (spelling x : List ℕ) → IsWhole K spelling s f x → area_of K f < length x
    area_there f spelling x is = omega (arith, is.file.store.long, area_inside (K.layout f.head) (not f.parts.area))

    closes : (f : File H S) (spelling next : List ℕ) → f.parts.turned ≡ true → Goes f s spelling (close_acts (area_of K f) f.area_open) (closed_file K f) s next
    closes f spelling next turned = close_chain D (IsFile K s f) (IsWhole K spelling s f) (IsFile K s (closed_file K f)) (IsWhole K next s (closed_file K f)) (area_of K f)
        (within f) (within (closed_file K f)) (λ x w. w.file) f.area_open (area_there f spelling)
        (λ x y is closing. one f.head f.parts y (close_any K laws f s turned x y is closing))
        (λ x y is closing shut. close_whole K laws f s turned spelling next x y is closing shut)
        (λ x is shut. known_shut f.area_open (area_of K f) x is.file.area_gate shut)

    pieces : (f : File H S) (spelling : List ℕ) → f.parts.turned ≡ true → is_begun f.checkpoint ≡ true → Spells K f spelling → written f.checkpoint < (K.layout f.head).body → Goes f s spelling (piece_acts K f spelling) (pieced_file K f) s spelling
    pieces f spelling turned begun spells less = chain_with D (IsFile K s f) (IsWhole K spelling s f) (IsFile K s (pieced_file K f)) (IsWhole K spelling s (pieced_file K f)) (piece_acts K f spelling) (λ x was.
        let shut = (was.file.begun begun).1 in
        let long = (spells turned).1 in
        chain_write D (IsFile K s f) (IsWhole K spelling s f) (IsFile K s (pieced_file K f)) (IsWhole K spelling s (pieced_file K f)) _ _ (within f) (within (pieced_file K f))
        (λ x y is torn. piece_file K laws f s turned spelling begun shut long less x y is torn)
        (λ x is. piece_whole K laws f s turned spelling begun shut long less x is))

    finishes : (f : File H S) (spelling next : List ℕ) → f.parts.turned ≡ true → is_begun f.checkpoint ≡ true → Spells K f spelling → (K.layout f.head).body ≤ written f.checkpoint → Goes f s spelling (open_acts (area_of K f)) (finished_file K f) s next
    finishes f spelling next turned begun spells whole = chain_with D (IsFile K s f) (IsWhole K spelling s f) (IsFile K s (finished_file K f)) (IsWhole K next s (finished_file K f)) (open_acts (area_of K f)) (λ x was.
        let shut = (was.file.begun begun).1 in
        let read = (spells turned).0 in
        let long = (spells turned).1 in
        open_chain D (IsFile K s f) (IsWhole K spelling s f) (IsFile K s (finished_file K f)) (IsWhole K next s (finished_file K f)) (area_of K f) (within f) (within (finished_file K f)) (λ x w. w.file)
        spelling (λ x w. w.file)
        (λ x is. finish_inside K laws f s turned spelling begun shut read long whole x is)
        (λ x is. finish_stand K laws f s turned spelling begun shut read long whole x is)
        (λ x z is appended. ⊎_elim (λ still. one f.head f.parts z still) (λ done. one f.head (finished f.parts) z done) (finish_any K laws f s turned spelling begun shut read long whole x z is appended))
        (λ x z is appended opened. finish_whole K laws f s turned spelling begun shut read long whole next x z is appended opened))

    stays : (f : File H S) (spelling : List ℕ) → Goes f s spelling [] f s spelling
    stays f spelling = chain_none D (IsFile K s f) (IsWhole K spelling s f) (within f)

    -- one step of the checkpoint in progress
    pub tends : (f : File H S) (spelling : List ℕ) → Spells K f spelling → Goes f s spelling (tend_acts K f spelling) (tended_file K f) s spelling
    tends f spelling spells =
        by_if₂ (λ calls g. Goes f s spelling calls g s spelling) f.parts.turned _ [] _ f
        (λ turned. by_if₂ (λ calls g. Goes f s spelling calls g s spelling) (is_begun f.checkpoint) _ (close_acts (area_of K f) f.area_open) _ (closed_file K f)
        (λ begun. by_if₂ (λ calls g. Goes f s spelling calls g s spelling) (nat_lt (written f.checkpoint) (K.layout f.head).body) (piece_acts K f spelling) (open_acts (area_of K f)) (pieced_file K f) (finished_file K f)
        (λ less. pieces f spelling turned begun spells (ltb-true _ _ less))
        (λ whole. finishes f spelling spelling turned begun spells (ltb-false _ _ whole)))
        (λ none. closes f spelling spelling turned))
        (λ single. stays f spelling)

    -- so many steps
    steps : (n : ℕ) (f : File H S) (spelling : List ℕ) → Spells K f spelling → Goes f s spelling (steps_acts K n f spelling) (stepped_file K n f) s spelling
    steps zero f spelling spells = stays f spelling
    steps (suc n) f spelling spells =
        let g = tended_file K f in
        let e = stepped_file K n (tended_file K f) in
        chain_then D (IsFile K s f) (IsWhole K spelling s f) (IsFile K s g) (IsWhole K spelling s g) (IsFile K s e) (IsWhole K spelling s e) (tend_acts K f spelling) (steps_acts K n g spelling)
        (tends f spelling spells) (steps n g spelling (spells_on K f g spelling (tended_kept K f) spells))

    -- a turn
    turns : (f : File H S) (spelling next start : List ℕ) → f.parts.turned ≡ false → 0 < length f.parts.frames → IsStart K (K.number s + 1) start → Goes f s spelling (turn_acts K f start) (turned_file K f s) s next
    turns f spelling next start single some starts =
        chain_then D (IsFile K s f) (IsWhole K spelling s f) (IsFile K s f1) (IsWhole K spelling s f1) (IsFile K s (turned_file K f s)) (IsWhole K next s (turned_file K f s)) (close_acts (segment_of K f) f.segment_open) (put_acts (segment_of K f) start)
        (close_chain D (IsFile K s f) (IsWhole K spelling s f) (IsFile K s f1) (IsWhole K spelling s f1) (segment_of K f) (within f) (within f1) (λ x w. w.file) f.segment_open
        (λ x w. there_on x w.file.store)
        (λ x y is closing. one f.head f.parts y (shut_any K laws f s start single some starts x y is closing))
        (λ x y is closing shut. shut_whole K laws f s start single some starts spelling x y is closing shut)
        (λ x is shut. known_shut f.segment_open (segment_of K f) x (is.file.segment_gate single) shut))
        (put_chain D (IsFile K s f1) (IsWhole K spelling s f1) (IsFile K s (turned_file K f s)) (IsWhole K next s (turned_file K f s)) (segment_of K f) (within f1) (within (turned_file K f s)) (λ x w. w.file) start
        (λ x w. w.file) (λ x w. there_on x w.file.store)
        (λ x z is appended. ⊎_elim (λ still. one f.head f.parts z still) (λ more. one f.head (turned_at f.parts s) z more) (turn_any K laws f1 s start single some starts x z refl is appended))
        (λ x z is appended opened. back z (turned_whole K laws f1 s start single some starts spelling next x z refl is appended opened)))
      where
        f1 : File H S
        f1 = record f { segment_open = false }

        back : (z : List ℕ) → IsWhole K next s (turned_file K f1 s) z → IsWhole K next s (turned_file K f s) z
        back z w = record {
          file = record { store = w.file.store; area_gate = w.file.area_gate; segment_gate = λ is. absurd (true≢false is); begun = w.file.begun };
          stand = w.stand;
        }

        there_on : (x : List ℕ) → IsStore K f.head f.parts s x → segment_of K f < length x
        there_on x is = let r = (K.layout f.head).room in omega (arith, is.long, segment_inside (K.layout f.head) (not f.parts.segment), r)

  -- A frame more.
  module _ (s t : S) (body : List ℕ) (one : (h : H) (p : Parts S) (x : List ℕ) → IsStore K h p s x → D x) (next_one : (h : H) (p : Parts S) (x : List ℕ) → IsStore K h p t x → D x) (frame : IsFrame (GATE_OPEN ∷ body)) (step : K.apply s (GATE_OPEN ∷ body) ≡ Some t) where
    appends : (f : File H S) (spelling : List ℕ) → gate_of K f + length (body ++ 0 ∷ []) < segment_end (K.layout f.head) f.parts.segment → Spells K f spelling → Goes f s spelling (put_acts (gate_of K f) (body ++ 0 ∷ [])) (framed_file K f (GATE_OPEN ∷ body)) t spelling
    appends f spelling room spells =
        let fits : next_gate K f.head f.parts + 1 + length body < segment_at (K.layout f.head) f.parts.segment + (K.layout f.head).segment = omega (arith, room, length-append body (0 ∷ [])) in
        put_chain D (IsFile K s f) (IsWhole K spelling s f) (IsFile K t g) (IsWhole K spelling t g) (gate_of K f) (λ x is. one f.head f.parts x is.store) (λ x is. next_one g.head g.parts x is.store) (λ x w. w.file) (body ++ 0 ∷ [])
        (λ x w. w.file) (λ x is. omega (arith, is.file.store.long, segment_inside (K.layout f.head) f.parts.segment, room))
        (λ x z is appended. ⊎_elim (λ still. one f.head f.parts z still) (λ more. next_one f.head g.parts z more) (append_any K laws f s body t fits frame step x z is appended))
        (λ x z is appended opened. append_whole K laws f s body t fits frame step spelling x z is appended opened (λ begun. (spells (is.file.begun begun).0).1))
      where
        g : File H S
        g = framed_file K f (GATE_OPEN ∷ body)

    -- whether it fits or not
    module _ (f : File H S) (spell : S → List ℕ) (start : List ℕ) (spells : Spells K f (spell f.parts.middle)) (starts : IsStart K (K.number s + 1) start) (small : length (body ++ 0 ∷ []) + 9 < (K.layout f.head).segment) where
      abbrev n : ℕ
      n = length (body ++ 0 ∷ [])

      some_frames : (frames : List (List ℕ)) → 0 < size frames → 0 < length frames
      some_frames [] more = absurd (omega (arith, more))
      some_frames (frame ∷ frames) more = omega arith

      kept : Kept K f (ended_file K f)
      kept = stepped_kept K (2 + (K.layout f.head).body) f

      some : has_room K f n ≡ false → 0 < length (ended_file K f).parts.frames
      some none = subst (λ l. 0 < length l) (sym kept.frames) (some_frames f.parts.frames (let low = ltb-false (gate_of K f + n) (segment_end (K.layout f.head) f.parts.segment) none in omega (arith, low, small)))

      fits_then : gate_of K (turned_file K (ended_file K f) s) + n < segment_end (K.layout (ended_file K f).head) (not (ended_file K f).parts.segment)
      fits_then = let less = subst (λ h. n + 9 < (K.layout h).segment) (sym kept.head) small in omega (arith, less)

      full : has_room K f n ≡ false → ((spell_s : Spells K (turned_file K (ended_file K f) s) (spell s)) → Goes f s (spell f.parts.middle)
          ((end_acts K f (spell f.parts.middle) ++ turn_acts K (ended_file K f) start) ++ put_acts (gate_of K (turned_file K (ended_file K f) s)) (body ++ 0 ∷ []))
          (framed_file K (turned_file K (ended_file K f) s) (GATE_OPEN ∷ body)) t (spell s))
      full none spell_s =
          let sp = spell f.parts.middle in
          let e = ended_file K f in
          let g = turned_file K e s in
          let k = framed_file K g (GATE_OPEN ∷ body) in
          chain_then D (IsFile K s f) (IsWhole K sp s f) (IsFile K s g) (IsWhole K (spell s) s g) (IsFile K t k) (IsWhole K (spell s) t k)
          (end_acts K f sp ++ turn_acts K e start) (put_acts (gate_of K g) (body ++ 0 ∷ []))
          (chain_then D (IsFile K s f) (IsWhole K sp s f) (IsFile K s e) (IsWhole K sp s e) (IsFile K s g) (IsWhole K (spell s) s g) (end_acts K f sp) (turn_acts K e start)
          (steps s one (2 + (K.layout f.head).body) f sp spells)
          (turns s one e sp (spell s) start (has_ended K f) (some none) starts))
          (appends g (spell s) fits_then spell_s)

      pub append_goes : Spells K (turned_file K (ended_file K f) s) (spell s) → Goes f s (spell f.parts.middle) (append_acts K f s (spell f.parts.middle) start (body ++ 0 ∷ []))
          (appended_file K f s (body ++ 0 ∷ []) (GATE_OPEN ∷ body)) t (spell (roomy_file K n f s).parts.middle)
      append_goes spell_s =
          by_if₂ (λ calls g. Goes f s (spell f.parts.middle) (calls ++ put_acts (gate_of K g) (body ++ 0 ∷ [])) (framed_file K g (GATE_OPEN ∷ body)) t (spell g.parts.middle)) (has_room K f n)
          [] (end_acts K f (spell f.parts.middle) ++ turn_acts K (ended_file K f) start) f (turned_file K (ended_file K f) s)
          (λ room. appends f (spell f.parts.middle) (ltb-true (gate_of K f + n) (segment_end (K.layout f.head) f.parts.segment) room) spells)
          (λ none. full none spell_s)
