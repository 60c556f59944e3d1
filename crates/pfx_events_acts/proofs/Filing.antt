-- Each act of a store's file, on every image that it meets.
use Rattle.std.proofs.Common.{◌≡◌, ◌≢◌, ◌⊎◌, inl, inr, ⊎_elim, ℕ, zero, suc, ◌+◌, ◌-◌, ◌≤◌, ◌<◌, List, [], ◌∷◌, ◌++◌, length, get_or, take, drop, refl, sym, ◌∙◌, ap, subst, arith, length-append, length-take, length-drop, Bool, true, false, not, Some}
use Rattle.std.proofs.lemmas.List.{take_all, get_or-take, get_or-drop}
use Rattle.std.proofs.lemmas.Bool.{cases_lt, cases_eq, false≢true, true≢false}
use Rattle.pfx_disk.specs.Disk.{Torn, Written}
use Rattle.pfx_disk.specs.Stop.{put}
use Rattle.pfx_disk.proofs.Left.{put_inside, put_torn}
use Rattle.pfx_disk.proofs.Steps.{written_stands, torn_wider}
use Rattle.pfx_disk.specs.declared.gates.TheConstants.{GATE_OPEN}
use Rattle.pfx_segment.specs.Segment.{StandAt, Appended}
use Rattle.pfx_segment.specs.Turning.{Closing}
use Rattle.pfx_segment.specs.Frames.{IsFrame}
use Rattle.pfx_segment.proofs.FrameLemmas.{Agree, shut_behind}
use Rattle.pfx_store_image.specs.Codec.{Codec, Laws}
use Rattle.pfx_store_image.specs.Layout.{area_at, segment_at}
use Rattle.pfx_store_image.specs.Store.{IsStore, Other, next_gate, with_frame, turned_at, finished}
use Rattle.pfx_store_image.proofs.Regions.{area_inside, segment_inside, area_of_segment, other_segment, segment_of_area, other_area}
use Rattle.pfx_store_image.proofs.Runs.{not_not}
use Rattle.pfx_store_image.proofs.Steps.{append_step, turn_shut, turn_whole, close_step, piece_step, open_step, open_whole}
use Rattle.pfx_store_file.specs.Checkpoints.{is_begun, written}
use Rattle.pfx_store_file.specs.Holding.{IsGate, IsStart}
use Rattle.pfx_events_acts.specs.Files.{IsFile, IsWhole}
use Rattle.pfx_store_file.specs.Files.{File, area_of, segment_of}
use Rattle.pfx_store_file.specs.Acts.{piece_len, closed_file, pieced_file, finished_file, turned_file, framed_file, gate_of}
use Rattle.pfx_events_acts.proofs.Partly.{same_again}

pub gate_same : (b : Bool) (at : ℕ) (x y : List ℕ) → get_or y at 0 ≡ get_or x at 0 → IsGate b at x → IsGate b at y
gate_same true at x y same is = same ∙ is
gate_same false at x y same is = λ opened. is (sym same ∙ opened)

pub known_open : (b : Bool) (at : ℕ) (x : List ℕ) → IsGate b at x → b ≡ true → get_or x at 0 ≡ GATE_OPEN
known_open b at x is opened = subst (λ t. IsGate t at x) opened is

pub known_shut : (b : Bool) (at : ℕ) (x : List ℕ) → IsGate b at x → b ≡ false → get_or x at 0 ≢ GATE_OPEN
known_shut b at x is shut = subst (λ t. IsGate t at x) shut is

module _ {H S : Type 0} (K : Codec H S) (laws : Laws K) (f : File H S) (s : S) where
  -- An append.
  module _ (body : List ℕ) (t : S) (room : next_gate K f.head f.parts + 1 + length body < segment_at (K.layout f.head) f.parts.segment + (K.layout f.head).segment) (frame : IsFrame (GATE_OPEN ∷ body)) (step : K.apply s (GATE_OPEN ∷ body) ≡ Some t) where
    pub append_any : (x z : List ℕ) → IsFile K s f x → Appended (gate_of K f) (body ++ 0 ∷ []) x z → IsStore K f.head f.parts s z ⊎ IsStore K f.head (with_frame f.parts (GATE_OPEN ∷ body)) t z
    append_any x z is appended = append_step K laws f.head f.parts s t body x z room frame step appended is.store

    module _ (spelling x z : List ℕ) (is : IsWhole K spelling s f x) (appended : Appended (gate_of K f) (body ++ 0 ∷ []) x z) (opened : get_or z (gate_of K f) 0 ≡ GATE_OPEN) where
      bytes_len : length (body ++ 0 ∷ []) ≡ length body + 1
      bytes_len = length-append body (0 ∷ [])

      low : segment_at (K.layout f.head) f.parts.segment ≤ next_gate K f.head f.parts
      low = omega arith

      high : next_gate K f.head f.parts + (1 + length (body ++ 0 ∷ [])) ≤ segment_at (K.layout f.head) f.parts.segment + (K.layout f.head).segment
      high = omega (arith, room, bytes_len)

      stored : IsStore K f.head (with_frame f.parts (GATE_OPEN ∷ body)) t z
      stored = ⊎_elim (λ still. absurd (shut_behind (segment_at (K.layout f.head) f.parts.segment + 9) (segment_at (K.layout f.head) f.parts.segment + (K.layout f.head).segment) f.parts.frames z still.current.are opened)) (λ more. more) (append_any x z is.file appended)

      area_agrees : Agree (area_at (K.layout f.head) (not f.parts.area)) (area_at (K.layout f.head) (not f.parts.area) + 1 + (K.layout f.head).body) x z
      area_agrees = area_of_segment (K.layout f.head) (next_gate K f.head f.parts) (1 + length (body ++ 0 ∷ [])) x z is.file.store.long appended.torn f.parts.segment (not f.parts.area) low

      segment_agrees : Agree (segment_at (K.layout f.head) (not f.parts.segment)) (segment_at (K.layout f.head) (not f.parts.segment) + (K.layout f.head).segment) x z
      segment_agrees = other_segment (K.layout f.head) (next_gate K f.head f.parts) (1 + length (body ++ 0 ∷ [])) x z is.file.store.long appended.torn f.parts.segment low high

      pub append_all : is_begun f.checkpoint ≡ true → length spelling ≡ (K.layout f.head).body → StandAt (area_of K f + 1) (take (written f.checkpoint) spelling) z
      append_all begun long i below =
          let short = length-take (written f.checkpoint) spelling in
          area_agrees (area_of K f + 1 + i) (omega arith) (omega (arith, below, short, long)) ∙ is.stand begun i below

      pub append_whole : (is_begun f.checkpoint ≡ true → length spelling ≡ (K.layout f.head).body) → IsWhole K spelling t (framed_file K f (GATE_OPEN ∷ body)) z
      append_whole long = record {
        file = record {
          store = stored;
          area_gate = gate_same f.area_open (area_of K f) x z (area_agrees (area_of K f) (omega arith) (omega arith)) is.file.area_gate;
          segment_gate = λ single. gate_same f.segment_open (segment_of K f) x z (segment_agrees (segment_of K f) (omega arith) (let r = (K.layout f.head).room in omega (arith, r))) (is.file.segment_gate single);
          begun = is.file.begun;
        };
        stand = λ begun. append_all begun (long begun);
      }

  -- A turn.
  module _ (start : List ℕ) (single : f.parts.turned ≡ false) (some : 0 < length f.parts.frames) (starts : IsStart K (K.number s + 1) start) where
    -- the other segment's gate is closed
    shut_then : (x y : List ℕ) → IsStore K f.head f.parts s x → Torn (segment_of K f) (1 + length start) x y → get_or y (segment_of K f) 0 ≢ GATE_OPEN → IsStore K f.head f.parts s y
    shut_then x y is torn shut = turn_shut K laws f.head f.parts s start x y single some starts.long starts.number starts.closed torn is shut

    inside_of : (x : List ℕ) → IsStore K f.head f.parts s x → segment_of K f < length x
    inside_of x is = let r = (K.layout f.head).room in omega (arith, is.long, segment_inside (K.layout f.head) (not f.parts.segment), r)

    wide : (x y : List ℕ) → Torn (segment_of K f) 1 x y → Torn (segment_of K f) (1 + length start) x y
    wide x y torn = torn_wider (segment_of K f) 1 (segment_of K f) (1 + length start) x y (omega arith) (omega arith) torn

    shutting : (b : Bool) (x y : List ℕ) → (b ≡ true → get_or x (segment_of K f) 0 ≡ GATE_OPEN) → IsStore K f.head f.parts s x → Closing (segment_of K f) b x y → IsStore K f.head f.parts s y
    shutting false x y known is same = subst (λ z. IsStore K f.head f.parts s z) (sym same) is
    shutting true x y known is torn = elim (cases_eq (get_or y (segment_of K f) 0) GATE_OPEN) [
      | inl opened ↦ subst (λ z. IsStore K f.head f.parts s z) (sym (same_again (segment_of K f) x y (inside_of x is) (known refl) opened torn)) is
      | inr shut ↦ shut_then x y is (wide x y torn) shut
    ]

    pub shut_any : (x y : List ℕ) → IsFile K s f x → Closing (segment_of K f) f.segment_open x y → IsStore K f.head f.parts s y
    shut_any x y is closing = shutting f.segment_open x y (known_open f.segment_open (segment_of K f) x (is.segment_gate single)) is.store closing

    torn_of : (b : Bool) (x y : List ℕ) → Closing (segment_of K f) b x y → Torn (segment_of K f) (1 + length start) x y
    torn_of true x y torn = wide x y torn
    torn_of false x y same = subst (λ z. Torn (segment_of K f) (1 + length start) x z) (sym same) (record { no_shorter = omega arith; no_longer = omega arith; elsewhere = λ i inside out. refl })

    area_kept : (x y : List ℕ) → IsStore K f.head f.parts s x → Torn (segment_of K f) (1 + length start) x y → get_or y (area_of K f) 0 ≡ get_or x (area_of K f) 0
    area_kept x y is torn = area_of_segment (K.layout f.head) (segment_of K f) (1 + length start) x y is.long torn (not f.parts.segment) (not f.parts.area) (omega arith) (area_of K f) (omega arith) (omega arith)

    pub shut_whole : (spelling x y : List ℕ) → IsWhole K spelling s f x → Closing (segment_of K f) f.segment_open x y → get_or y (segment_of K f) 0 ≢ GATE_OPEN → IsWhole K spelling s (record f { segment_open = false }) y
    shut_whole spelling x y is closing shut = record {
      file = record {
        store = shut_any x y is.file closing;
        area_gate = gate_same f.area_open (area_of K f) x y (area_kept x y is.file.store (torn_of f.segment_open x y closing)) is.file.area_gate;
        segment_gate = λ _. shut;
        begun = is.file.begun;
      };
      stand = λ begun. absurd (true≢false (sym (is.file.begun begun).0 ∙ single));
    }

    -- the gate is closed, and bytes are put behind it
    turned : (x z : List ℕ) → f.segment_open ≡ false → IsFile K s f x → Appended (segment_of K f) start x z → get_or z (segment_of K f) 0 ≡ GATE_OPEN → IsStore K f.head (turned_at f.parts s) s z
    turned x z shut is appended opened = turn_whole K laws f.head f.parts s start x z single some starts.long starts.number starts.closed appended.torn is.store
        (stand (⊎_elim (λ same. absurd (known_shut f.segment_open (segment_of K f) x (is.segment_gate single) shut (sym same ∙ opened))) (λ behind. behind) (appended.gate_last (inside_of x is.store))))
      where
        stand : StandAt (segment_of K f + 1) start z → StandAt (segment_of K f) (GATE_OPEN ∷ start) z
        stand behind zero below = ap (λ (k : ℕ). get_or z k 0) (none (segment_of K f)) ∙ opened
          where
            none : (g : ℕ) → g + 0 ≡ g
            none g = omega arith
        stand behind (suc j) below = ap (λ (k : ℕ). get_or z k 0) (next (segment_of K f) j) ∙ behind j (omega (arith, below))
          where
            next : (g j : ℕ) → g + suc j ≡ g + 1 + j
            next g j = omega arith

    pub turn_any : (x z : List ℕ) → f.segment_open ≡ false → IsFile K s f x → Appended (segment_of K f) start x z → IsStore K f.head f.parts s z ⊎ IsStore K f.head (turned_at f.parts s) s z
    turn_any x z shut is appended = elim (cases_eq (get_or z (segment_of K f) 0) GATE_OPEN) [
      | inr closed ↦ inl (shut_then x z is.store appended.torn closed)
      | inl opened ↦ inr (turned x z shut is appended opened)
    ]

    pub turned_whole : (spelling next x z : List ℕ) → f.segment_open ≡ false → IsWhole K spelling s f x → Appended (segment_of K f) start x z → get_or z (segment_of K f) 0 ≡ GATE_OPEN → IsWhole K next s (turned_file K f s) z
    turned_whole spelling next x z shut is appended opened = record {
      file = record {
        store = turned x z shut is.file appended opened;
        area_gate = gate_same f.area_open (area_of K f) x z (area_kept x z is.file.store appended.torn) is.file.area_gate;
        segment_gate = λ is_single. absurd (true≢false is_single);
        begun = λ began. absurd (false≢true began);
      };
      stand = λ began. absurd (false≢true began);
    }

  -- A checkpoint's steps.
  module _ (turned : f.parts.turned ≡ true) where
    pub close_any : (x y : List ℕ) → IsFile K s f x → Closing (area_of K f) f.area_open x y → IsStore K f.head f.parts s y
    close_any x y is closing = close_step K laws f.head f.parts s f.area_open x y (known_open f.area_open (area_of K f) x is.area_gate) closing is.store

    pub close_whole : (spelling next x y : List ℕ) → IsWhole K spelling s f x → Closing (area_of K f) f.area_open x y → get_or y (area_of K f) 0 ≢ GATE_OPEN → IsWhole K next s (closed_file K f) y
    close_whole spelling next x y is closing shut = record {
      file = record {
        store = close_any x y is.file closing;
        area_gate = shut;
        segment_gate = λ single. absurd (false≢true (sym single ∙ turned));
        begun = λ _. (turned, refl);
      };
      stand = λ _ i below. absurd (omega (arith, below));
    }

    -- a piece of the body
    module _ (spelling : List ℕ) (begun : is_begun f.checkpoint ≡ true) (shut : f.area_open ≡ false) (long : length spelling ≡ (K.layout f.head).body) (less : written f.checkpoint < (K.layout f.head).body) where
      abbrev piece : List ℕ
      piece = take (piece_len K f) (drop (written f.checkpoint) spelling)

      n_is : length piece ≡ piece_len K f
      n_is = omega (arith, length-take (piece_len K f) (drop (written f.checkpoint) spelling), length-drop (written f.checkpoint) spelling, long)

      abbrev at : ℕ
      at = area_of K f + 1 + written f.checkpoint

      pub piece_file : (x y : List ℕ) → IsFile K s f x → Torn (area_of K f + 1 + written f.checkpoint) (length (take (piece_len K f) (drop (written f.checkpoint) spelling))) x y → IsFile K s (pieced_file K f) y
      piece_file x y is torn =
          let both = piece_step K laws f.head f.parts s at (length piece) x y (omega arith) (omega (arith, n_is, less)) (known_shut f.area_open (area_of K f) x is.area_gate shut) torn is.store in
          record {
            store = both.0;
            area_gate = subst (λ b. IsGate b (area_of K f) y) (sym shut) both.1;
            segment_gate = λ single. absurd (false≢true (sym single ∙ turned));
            begun = λ _. (turned, shut);
          }

      pub piece_whole : (x : List ℕ) → IsWhole K spelling s f x → IsWhole K spelling s (pieced_file K f) (put (area_of K f + 1 + written f.checkpoint) (take (piece_len K f) (drop (written f.checkpoint) spelling)) x)
      piece_whole x is = record { file = piece_file x (put at piece x) is.file torn; stand = λ _ i below. stands i below }
        where
          torn : Torn at (length piece) x (put at piece x)
          torn = put_torn at piece x

          inside : area_of K f + 1 + (K.layout f.head).body ≤ length x
          inside = omega (arith, is.file.store.long, area_inside (K.layout f.head) (not f.parts.area))

          put_there : Written at piece x (put at piece x)
          put_there = put_inside at piece x (omega (arith, inside, less))

          stands : StandAt (area_of K f + 1) (take (written f.checkpoint + piece_len K f) spelling) (put at piece x)
          stands i below = ⊎_elim
              (λ early. torn.elsewhere (area_of K f + 1 + i) (omega (arith, inside, early, less)) (inl (omega (arith, early)))
              ∙ is.stand begun i (omega (arith, early, length-take (written f.checkpoint) spelling, long, less))
              ∙ get_or-take (written f.checkpoint) spelling i 0 early ∙ sym (get_or-take (written f.checkpoint + piece_len K f) spelling i 0 short))
              (λ late. ap (λ (k : ℕ). get_or (put at piece x) k 0) (place late) ∙ written_stands at piece x (put at piece x) (omega (arith, inside, less)) put_there (i - written f.checkpoint) (omega (arith, late, short, n_is))
              ∙ get_or-take (piece_len K f) (drop (written f.checkpoint) spelling) (i - written f.checkpoint) 0 (omega (arith, late, short)) ∙ get_or-drop (written f.checkpoint) spelling (i - written f.checkpoint) 0
              ∙ ap (λ (k : ℕ). get_or spelling k 0) (omega (arith, late)) ∙ sym (get_or-take (written f.checkpoint + piece_len K f) spelling i 0 short))
              (cases_lt i (written f.checkpoint))
            where
              short : i < written f.checkpoint + piece_len K f
              short = omega (arith, below, length-take (written f.checkpoint + piece_len K f) spelling)

              place : written f.checkpoint ≤ i → area_of K f + 1 + i ≡ area_of K f + 1 + written f.checkpoint + (i - written f.checkpoint)
              place late = omega (arith, late)

    -- the end
    module _ (spelling : List ℕ) (begun : is_begun f.checkpoint ≡ true) (shut : f.area_open ≡ false) (read : K.read_state f.head spelling ≡ Some f.parts.middle) (long : length spelling ≡ (K.layout f.head).body) (whole : (K.layout f.head).body ≤ written f.checkpoint) where
      pub finish_inside : (x : List ℕ) → IsWhole K spelling s f x → area_of K f + length spelling < length x
      finish_inside x is = omega (arith, long, is.file.store.long, area_inside (K.layout f.head) (not f.parts.area))

      pub finish_stand : (x : List ℕ) → IsWhole K spelling s f x → StandAt (area_of K f + 1) spelling x
      finish_stand x is = subst (λ (l : List ℕ). StandAt (area_of K f + 1) l x) (take_all (written f.checkpoint) spelling (omega (arith, whole, long))) (is.stand begun)

      pub finish_any : (x z : List ℕ) → IsWhole K spelling s f x → Appended (area_of K f) spelling x z → IsStore K f.head f.parts s z ⊎ IsStore K f.head (finished f.parts) s z
      finish_any x z is appended = open_step K laws f.head f.parts s spelling x z turned read long (known_shut f.area_open (area_of K f) x is.file.area_gate shut) appended is.file.store

      pub finish_whole : (next x z : List ℕ) → IsWhole K spelling s f x → Appended (area_of K f) spelling x z → get_or z (area_of K f) 0 ≡ GATE_OPEN → IsWhole K next s (finished_file K f) z
      finish_whole next x z is appended opened = record {
        file = record {
          store = ended;
          area_gate = used_open;
          segment_gate = λ _. older_open;
          begun = λ began. absurd (false≢true began);
        };
        stand = λ began. absurd (false≢true began);
      }
        where
          was : IsStore K f.head f.parts s x
          was = is.file.store

          ended : IsStore K f.head (finished f.parts) s z
          ended = ⊎_elim
              (λ same. absurd (known_shut f.area_open (area_of K f) x is.file.area_gate shut (sym same ∙ opened)))
              (λ stand. open_whole K laws f.head f.parts s spelling x z turned read long appended.torn opened stand was)
              (appended.gate_last (omega (arith, finish_inside x is)))

          used_agrees : Agree (area_at (K.layout f.head) f.parts.area) (area_at (K.layout f.head) f.parts.area + 1 + (K.layout f.head).body) x z
          used_agrees = subst (λ t. Agree (area_at (K.layout f.head) t) (area_at (K.layout f.head) t + 1 + (K.layout f.head).body) x z) (not_not f.parts.area)
              (other_area (K.layout f.head) (area_of K f) (1 + length spelling) x z was.long appended.torn (not f.parts.area) (omega arith) (omega (arith, long)))

          used_open : get_or z (area_at (K.layout f.head) (not (not f.parts.area))) 0 ≡ GATE_OPEN
          used_open = subst (λ t. get_or z (area_at (K.layout f.head) t) 0 ≡ GATE_OPEN) (sym (not_not f.parts.area)) (used_agrees (area_at (K.layout f.head) f.parts.area) (omega arith) (omega arith) ∙ was.area.gate)

          older_open : get_or z (segment_at (K.layout f.head) (not f.parts.segment)) 0 ≡ GATE_OPEN
          older_open =
              let two : Other K f.head true f.parts s x = subst (λ t. Other K f.head t f.parts s x) turned was.other in
              segment_of_area (K.layout f.head) (area_of K f) (1 + length spelling) x z was.long appended.torn (not f.parts.area) (not f.parts.segment) (omega (arith, long))
              (segment_at (K.layout f.head) (not f.parts.segment)) (omega arith) (let r = (K.layout f.head).room in omega (arith, r)) ∙ two.0.gate
