-- A turn, all steps of a checkpoint, and an append, as chains of calls on the files whose checkpoint is at most a number: that of the last turn
-- before them, or a greater one.
use Rattle.std.proofs.Common.{◌≡◌, ⊎_elim, ℕ, zero, suc, ◌+◌, ◌<◌, List, [], ◌∷◌, ◌++◌, length, refl, sym, ◌∙◌, ap, subst, arith, length-append, true, false, not, Some}
use Rattle.std.proofs.lemmas.Bool.{ltb-true, ltb-false, false≢true, true≢false}
use Rattle.pfx_events_acts.specs.Files.{IsFile, IsWhole}
use Rattle.pfx_events_acts.proofs.Chains.{Chain, chain_then, chain_none}
use Rattle.pfx_events_acts.proofs.Filing.{known_shut, append_any, append_whole, shut_any, shut_whole, turn_any, turned_whole}
use Rattle.pfx_events_acts.proofs.Gating.{put_chain, close_chain}
use Rattle.pfx_events_acts.proofs.Stepping.{tends}
use Rattle.pfx_events_base.specs.Bases.{IsBased, Spells}
use Rattle.pfx_events_base.proofs.Bounded.{up_to, up_to_laws, based, start_up}
use Rattle.pfx_disk.specs.Stop.{Act}
use Rattle.pfx_disk.specs.declared.gates.TheConstants.{GATE_OPEN}
use Rattle.pfx_store_image.specs.Codec.{Codec, Laws}
use Rattle.pfx_store_image.specs.Layout.{segment_at, segment_end}
use Rattle.pfx_store_image.specs.Store.{Parts, IsStore, next_gate, turned_at}
use Rattle.pfx_store_image.proofs.Regions.{segment_inside}
use Rattle.pfx_segment.specs.Acts.{put_acts, close_acts}
use Rattle.pfx_segment.specs.Frames.{IsFrame, size}
use Rattle.pfx_store_file.specs.Acts.{tend_acts, tended_file, steps_acts, stepped_file, end_acts, ended_file, turn_acts, turned_file, gate_of, has_room, framed_file, append_acts, appended_file, roomy_file}
use Rattle.pfx_store_file.specs.Checkpoints.{is_begun}
use Rattle.pfx_store_file.specs.Files.{File, segment_of}
use Rattle.pfx_store_file.specs.Holding.{IsStart}
use Rattle.pfx_store_file.proofs.Ends.{by_if₂, Kept, tended_kept, stepped_kept, has_ended}

module _ {H S : Type 0} (K : Codec H S) (laws : Laws K) (most : ℕ) where
  abbrev B : Codec H S
  B = up_to K most

  abbrev D : List ℕ → Type 0
  D = IsBased K most

  bounded_laws : Laws (up_to K most)
  bounded_laws = up_to_laws K most laws

  -- the calls lead from images of the one file to those of the other, and each image in between is recovered from such a checkpoint
  abbrev pub Goes : File H S → S → List ℕ → List Act → File H S → S → List ℕ → Type 0
  Goes f s spelling calls g t next = Chain (IsBased K most) (IsFile (up_to K most) s f) (IsWhole (up_to K most) spelling s f) calls (IsFile (up_to K most) t g) (IsWhole (up_to K most) next t g)

  one : (s : S) (h : H) (p : Parts S) (x : List ℕ) → IsStore (up_to K most) h p s x → IsBased K most x
  one s h p x is = based K most h x laws p s is

  within : (s : S) (f : File H S) (x : List ℕ) → IsFile (up_to K most) s f x → IsBased K most x
  within s f x is = one s f.head f.parts x is.store

  -- one step of the checkpoint in progress
  pub tend_goes : (f : File H S) (s : S) (spelling : List ℕ) → Spells (up_to K most) f spelling → Goes f s spelling (tend_acts K f spelling) (tended_file K f) s spelling
  tend_goes f s spelling spells = tends (up_to K most) bounded_laws (IsBased K most) s (one s) f spelling spells

  spells_on : (f g : File H S) (spelling : List ℕ) → Kept K f g → Spells (up_to K most) f spelling → Spells (up_to K most) g spelling
  spells_on f g spelling kept spells turned =
      let was = spells (kept.turned turned) in
      (subst (λ h. (up_to K most).read_state h spelling ≡ Some g.parts.middle) (sym kept.head) (subst (λ m. (up_to K most).read_state f.head spelling ≡ Some m) (sym kept.middle) was.0), was.1 ∙ ap (λ h. (K.layout h).body) (sym kept.head))

  -- so many steps
  steps_go : (n : ℕ) (f : File H S) (s : S) (spelling : List ℕ) → Spells (up_to K most) f spelling → Goes f s spelling (steps_acts K n f spelling) (stepped_file K n f) s spelling
  steps_go zero f s spelling spells = chain_none (IsBased K most) (IsFile (up_to K most) s f) (IsWhole (up_to K most) spelling s f) (within s f)
  steps_go (suc n) f s spelling spells =
      let g = tended_file K f in
      let e = stepped_file K n (tended_file K f) in
      chain_then (IsBased K most) (IsFile B s f) (IsWhole B spelling s f) (IsFile B s g) (IsWhole B spelling s g) (IsFile B s e) (IsWhole B spelling s e) (tend_acts K f spelling) (steps_acts K n g spelling)
      (tend_goes f s spelling spells) (steps_go n g s spelling (spells_on f g spelling (tended_kept K f) spells))

  -- a turn
  pub turn_goes : (f : File H S) (s : S) (spelling next start : List ℕ) → f.parts.turned ≡ false → 0 < length f.parts.frames → IsStart K (K.number s + 1) start → Goes f s spelling (turn_acts K f start) (turned_file K f s) s next
  turn_goes f s spelling next start single some starts =
      chain_then (IsBased K most) (IsFile B s f) (IsWhole B spelling s f) (IsFile B s f1) (IsWhole B spelling s f1) (IsFile B s (turned_file K f s)) (IsWhole B next s (turned_file K f s)) (close_acts (segment_of K f) f.segment_open) (put_acts (segment_of K f) start)
      (close_chain (IsBased K most) (IsFile B s f) (IsWhole B spelling s f) (IsFile B s f1) (IsWhole B spelling s f1) (segment_of K f) (within s f) (within s f1) (λ x w. w.file) f.segment_open
      (λ x w. there_on x w.file.store)
      (λ x y is closing. one s f.head f.parts y (shut_any B bounded_laws f s start single some begins x y is closing))
      (λ x y is closing shut. shut_whole B bounded_laws f s start single some begins spelling x y is closing shut)
      (λ x is shut. known_shut f.segment_open (segment_of K f) x (is.file.segment_gate single) shut))
      (put_chain (IsBased K most) (IsFile B s f1) (IsWhole B spelling s f1) (IsFile B s (turned_file K f s)) (IsWhole B next s (turned_file K f s)) (segment_of K f) (within s f1) (within s (turned_file K f s)) (λ x w. w.file) start
      (λ x w. w.file) (λ x w. there_on x w.file.store)
      (λ x z is appended. ⊎_elim (λ still. one s f.head f.parts z still) (λ more. one s f.head (turned_at f.parts s) z more) (turn_any B bounded_laws f1 s start single some begins x z refl is appended))
      (λ x z is appended opened. back z (turned_whole B bounded_laws f1 s start single some begins spelling next x z refl is appended opened)))
    where
      begins : IsStart (up_to K most) (K.number s + 1) start
      begins = start_up K most (K.number s + 1) start starts

      f1 : File H S
      f1 = record f { segment_open = false }

      back : (z : List ℕ) → IsWhole (up_to K most) next s (turned_file K f1 s) z → IsWhole (up_to K most) next s (turned_file K f s) z
      back z w = record {
        file = record { store = w.file.store; area_gate = w.file.area_gate; segment_gate = λ is. absurd (true≢false is); begun = w.file.begun };
        stand = w.stand;
      }

      there_on : (x : List ℕ) → IsStore (up_to K most) f.head f.parts s x → segment_of K f < length x
      there_on x is = let r = (K.layout f.head).room in omega (arith, is.long, segment_inside (K.layout f.head) (not f.parts.segment), r)

  module _ (s t : S) (body : List ℕ) (frame : IsFrame (GATE_OPEN ∷ body)) (step : K.apply s (GATE_OPEN ∷ body) ≡ Some t) where
    -- a frame put where it has room; if a checkpoint is begun its spelling is as long as its body
    frame_goes : (f : File H S) (spelling : List ℕ) → gate_of K f + length (body ++ 0 ∷ []) < segment_end (K.layout f.head) f.parts.segment → (is_begun f.checkpoint ≡ true → f.parts.turned ≡ true → length spelling ≡ (K.layout f.head).body)
        → Goes f s spelling (put_acts (gate_of K f) (body ++ 0 ∷ [])) (framed_file K f (GATE_OPEN ∷ body)) t spelling
    frame_goes f spelling room long =
        let fits : next_gate K f.head f.parts + 1 + length body < segment_at (K.layout f.head) f.parts.segment + (K.layout f.head).segment = omega (arith, room, length-append body (0 ∷ [])) in
        put_chain (IsBased K most) (IsFile B s f) (IsWhole B spelling s f) (IsFile B t g) (IsWhole B spelling t g) (gate_of K f) (within s f) (within t g) (λ x w. w.file) (body ++ 0 ∷ [])
        (λ x w. w.file) (λ x is. omega (arith, is.file.store.long, segment_inside (K.layout f.head) f.parts.segment, room))
        (λ x z is appended. ⊎_elim (λ still. one s f.head f.parts z still) (λ more. one t f.head g.parts z more) (append_any B bounded_laws f s body t fits frame step x z is appended))
        (λ x z is appended opened. append_whole B bounded_laws f s body t fits frame step spelling x z is appended opened (λ begun. long begun (is.file.begun begun).0))
      where
        g : File H S
        g = framed_file K f (GATE_OPEN ∷ body)

    -- whether it has room or not
    module _ (f : File H S) (spell : S → List ℕ) (start : List ℕ) (spells : Spells (up_to K most) f (spell f.parts.middle)) (starts : IsStart K (K.number s + 1) start) (small : length (body ++ 0 ∷ []) + 9 < (K.layout f.head).segment) where
      abbrev n : ℕ
      n = length (body ++ 0 ∷ [])

      kept : Kept K f (ended_file K f)
      kept = stepped_kept K (2 + (K.layout f.head).body) f

      some_frames : (frames : List (List ℕ)) → 0 < size frames → 0 < length frames
      some_frames [] more = absurd (omega (arith, more))
      some_frames (first ∷ frames) more = omega arith

      some : has_room K f n ≡ false → 0 < length (ended_file K f).parts.frames
      some none = subst (λ l. 0 < length l) (sym kept.frames) (some_frames f.parts.frames (let low = ltb-false (gate_of K f + n) (segment_end (K.layout f.head) f.parts.segment) none in omega (arith, low, small)))

      fits_then : gate_of K (turned_file K (ended_file K f) s) + n < segment_end (K.layout (ended_file K f).head) (not (ended_file K f).parts.segment)
      fits_then = let less = subst (λ h. n + 9 < (K.layout h).segment) (sym kept.head) small in omega (arith, less)

      full : has_room K f n ≡ false → Goes f s (spell f.parts.middle)
          ((end_acts K f (spell f.parts.middle) ++ turn_acts K (ended_file K f) start) ++ put_acts (gate_of K (turned_file K (ended_file K f) s)) (body ++ 0 ∷ []))
          (framed_file K (turned_file K (ended_file K f) s) (GATE_OPEN ∷ body)) t (spell s)
      full none =
          let sp = spell f.parts.middle in
          let e = ended_file K f in
          let g = turned_file K (ended_file K f) s in
          let k = framed_file K (turned_file K (ended_file K f) s) (GATE_OPEN ∷ body) in
          chain_then (IsBased K most) (IsFile B s f) (IsWhole B sp s f) (IsFile B s g) (IsWhole B (spell s) s g) (IsFile B t k) (IsWhole B (spell s) t k)
          (end_acts K f sp ++ turn_acts K e start) (put_acts (gate_of K g) (body ++ 0 ∷ []))
          (chain_then (IsBased K most) (IsFile B s f) (IsWhole B sp s f) (IsFile B s e) (IsWhole B sp s e) (IsFile B s g) (IsWhole B (spell s) s g) (end_acts K f sp) (turn_acts K e start)
          (steps_go (2 + (K.layout f.head).body) f s sp spells)
          (turn_goes e s sp (spell s) start (has_ended K f) (some none) starts))
          (frame_goes g (spell s) fits_then (λ begun. absurd (false≢true begun)))

      pub append_goes : Goes f s (spell f.parts.middle) (append_acts K f s (spell f.parts.middle) start (body ++ 0 ∷ []))
          (appended_file K f s (body ++ 0 ∷ []) (GATE_OPEN ∷ body)) t (spell (roomy_file K n f s).parts.middle)
      append_goes =
          by_if₂ (λ calls g. Goes f s (spell f.parts.middle) (calls ++ put_acts (gate_of K g) (body ++ 0 ∷ [])) (framed_file K g (GATE_OPEN ∷ body)) t (spell g.parts.middle)) (has_room K f n)
          [] (end_acts K f (spell f.parts.middle) ++ turn_acts K (ended_file K f) start) f (turned_file K (ended_file K f) s)
          (λ room. frame_goes f (spell f.parts.middle) (ltb-true (gate_of K f + n) (segment_end (K.layout f.head) f.parts.segment) room) (λ begun turned. (spells turned).1))
          (λ none. full none)
