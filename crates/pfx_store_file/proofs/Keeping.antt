-- What survives, and what is known of the disk after each call.
use Rattle.std.proofs.Common.{◌≡◌, ◌≢◌, ◌⊎◌, inl, inr, ⊎_elim, ℕ, ◌+◌, ◌≤◌, ◌<◌, List, [], ◌∷◌, ◌++◌, length, get_or, take, drop, refl, sym, ◌∙◌, ap, subst, arith, length-append, length-take, length-drop, ◌-◌, Bool, true, false, not, cond, Some, Ok}
use Rattle.std.proofs.lemmas.List.{take_all, take-append-le, get_or-take, get_or-drop}
use Rattle.std.proofs.lemmas.Bool.{cases_lt, lt-ltb, le-ltb, false≢true}
use Rattle.pfx_disk.specs.Disk.{View, IsHonest, Leaves, Only, Torn, Written}
use Rattle.pfx_disk.specs.declared.gates.TheConstants.{GATE_OPEN}
use Rattle.pfx_disk.proofs.Steps.{written_stands, torn_same}
use Rattle.pfx_segment.specs.Segment.{StandAt, Appended}
use Rattle.pfx_segment.specs.Turning.{Closing, Prepared}
use Rattle.pfx_segment.specs.Frames.{AreFrames, size}
use Rattle.pfx_segment.proofs.FrameLemmas.{Agree, shut_behind, size-push}
use Rattle.pfx_store_image.specs.Codec.{Codec, Laws}
use Rattle.pfx_store_image.specs.Layout.{area_at, segment_at, segment_end}
use Rattle.pfx_store_image.specs.Recovery.{recovered, found, found_of}
use Rattle.pfx_store_image.specs.Store.{Parts, Replays, IsStore, Other, next_gate, with_frame, turned_at, finished}
use Rattle.pfx_store_image.proofs.Recovers.{recovers}
use Rattle.pfx_store_image.proofs.Regions.{area_inside, segment_inside, area_of_segment, other_segment, segment_of_area, other_area}
use Rattle.pfx_store_image.proofs.Runs.{not_not, replays_one}
use Rattle.pfx_store_image.proofs.Stands.{found_stands}
use Rattle.pfx_store_image.proofs.Steps.{append_step, turn_step, turn_whole, close_step, piece_step, open_step, open_whole}
use Rattle.pfx_store_file.specs.Fitting.{HasRoom}
use Rattle.pfx_store_file.specs.Checkpoints.{in_progress, is_begun, written}
use Rattle.pfx_store_file.specs.Holding.{ArePlaces, IsGate, IsPending, IsKnown, IsBegun, Holds, Survives, KeepsAll}
use Rattle.pfx_store_file.specs.Sizes.{HasSizes}
use Rattle.pfx_store_file.specs.Tending.{settled, settled_unless, made_room}
use Rattle.pfx_store_file.specs.declared.places.Places.{Places}
use Rattle.pfx_store_file.specs.declared.progress.Checkpoint.TheVariants.{Ended, Pending, Writing}

pub still_on : {S : Type 0} (turned : Bool) (p : Parts S) → turned ≡ true → settled_unless turned p ≡ p
still_on true p is = refl
still_on false p is = absurd (false≢true is)

pub has_ended : {S : Type 0} (turned : Bool) (p : Parts S) → turned ≡ false → p.turned ≡ true → settled_unless turned p ≡ finished p
has_ended true p is was = absurd (false≢true (sym is))
has_ended false p is was = ap (λ b. cond b (finished p) p) was

pub has_settled : {S : Type 0} (turned : Bool) (p : Parts S) → turned ≡ false → settled_unless turned p ≡ settled p
has_settled true p is = absurd (false≢true (sym is))
has_settled false p is = refl

pub room_there : {S : Type 0} (n : ℕ) (places : Places) (p : Parts S) (s : S) → HasRoom n places → made_room n places p s ≡ p
room_there n places p s room = ap (λ b. cond b p (turned_at (settled p) s)) (lt-ltb (places.gate + n) places.end room)

pub room_made : {S : Type 0} (n : ℕ) (places : Places) (p : Parts S) (s : S) → ¬ HasRoom n places → made_room n places p s ≡ turned_at (settled p) s
room_made n places p s full = ap (λ b. cond b p (turned_at (settled p) s)) (le-ltb (places.gate + n) places.end (⊎_elim (λ room. absurd (full room)) (λ none. none) (cases_lt (places.gate + n) places.end)))

gate_same : (b : Bool) (at : ℕ) (x y : List ℕ) → get_or y at 0 ≡ get_or x at 0 → IsGate b at x → IsGate b at y
gate_same true at x y same is = same ∙ is
gate_same false at x y same is = λ opened. is (sym same ∙ opened)

known_open : (b : Bool) (at : ℕ) (x : List ℕ) → IsGate b at x → b ≡ true → get_or x at 0 ≡ GATE_OPEN
known_open b at x is opened = subst (λ t. IsGate t at x) opened is

known_shut : (b : Bool) (at : ℕ) (x : List ℕ) → IsGate b at x → b ≡ false → get_or x at 0 ≢ GATE_OPEN
known_shut b at x is shut = subst (λ t. IsGate t at x) shut is

module _ {H S : Type 0} (K : Codec H S) (laws : Laws K) (h : H) where
  survives_all : (start : S) (all : List (List ℕ)) (s : S) (n : ℕ) (image : List ℕ) → n ≤ length all → Replays K start all s → recovered K image ≡ Ok s → Survives K start all n image
  survives_all start all s n image le run is = record {
    count = length all;
    at_least = le;
    at_most = omega arith;
    state = s;
    replays = subst (λ (l : List (List ℕ)). Replays K start l s) (sym (take_all (length all) all (omega arith))) run;
    recovered = is;
  }

  survives_more : (start : S) (all more : List (List ℕ)) (n : ℕ) (image : List ℕ) → Survives K start all n image → Survives K start (all ++ more) n image
  survives_more start all more n image s = record {
    count = s.count;
    at_least = s.at_least;
    at_most = omega (arith, s.at_most, length-append all more);
    state = s.state;
    replays = subst (λ (l : List (List ℕ)). Replays K start l s.state) (sym (take-append-le s.count all more s.at_most)) s.replays;
    recovered = s.recovered;
  }

  module _ (old new : View) (honest : IsHonest old) (step : List ℕ → List ℕ → Type 0) (leaves : Leaves step old new) (s : S) (start : S) (all : List (List ℕ)) (run : Replays K start all s) where
    pub keeps_same : ((x y : List ℕ) → old.now x → step x y → recovered K y ≡ Ok s) → KeepsAll K start all all old new
    keeps_same after c n le before image is = ⊎_elim
        (λ was. before image was)
        (λ d. let b = before d.0 (honest.counted c d.0 le d.1) in survives_all start all s n image (omega (arith, b.at_least, b.at_most)) run (after d.0 image d.1 d.2))
        (leaves.since c image le is)

    pub keeps_one : (t : S) (frame : List ℕ) → K.apply s frame ≡ Some t → ((x y : List ℕ) → old.now x → step x y → (recovered K y ≡ Ok s) ⊎ (recovered K y ≡ Ok t)) → KeepsAll K start all (all ++ frame ∷ []) old new
    keeps_one t frame one after c n le before image is = ⊎_elim
        (λ was. survives_more start all (frame ∷ []) n image (before image was))
        (λ d. let b = before d.0 (honest.counted c d.0 le d.1) in
        ⊎_elim
        (λ still. survives_more start all (frame ∷ []) n image (survives_all start all s n image (omega (arith, b.at_least, b.at_most)) run still))
        (λ more. survives_all start (all ++ frame ∷ []) t n image (omega (arith, b.at_least, b.at_most, length-append all (frame ∷ []))) (replays_one K laws start all s frame t run one) more)
        (after d.0 image d.1 d.2))
        (leaves.since c image le is)

  -- nothing is done
  pub keeps_still : (old : View) (start : S) (all : List (List ℕ)) → KeepsAll K start all all old old
  keeps_still old start all c n le before image is = before image is

  pub keeps_none : (old : View) (start : S) (all : List (List ℕ)) (frame : List ℕ) → KeepsAll K start all (all ++ frame ∷ []) old old
  keeps_none old start all frame c n le before image is = survives_more start all (frame ∷ []) n image (before image is)

  module _ (places : Places) (p : Parts S) (s : S) (spelling : List ℕ) (old : View) (holds : Holds K h places p s spelling old) where
    store_of : (x : List ℕ) → old.now x → IsStore K h p s x
    store_of x now = (holds.images x now).store

    here : IsKnown K h places p s old.contents
    here = holds.images old.contents holds.honest.here

    -- the next frame's gate lies behind the first one's if there are frames
    pub has_frames : places.end + 9 < places.gate + places.sizes.segment → 0 < length p.frames
    has_frames behind = some p.frames (omega (arith, behind, holds.gate, holds.end, holds.fits.segment))
      where
        some : (frames : List (List ℕ)) → 0 < size frames → 0 < length frames
        some [] more = absurd (omega (arith, more))
        some (frame ∷ frames) more = omega arith

    pub frames_behind : 0 < length p.frames → places.end + 9 < places.gate + places.sizes.segment
    frames_behind some = omega (arith, holds.gate, holds.end, holds.fits.segment, filled (segment_at (K.layout h) p.segment + 9) (segment_end (K.layout h) p.segment) p.frames old.contents here.store.current.are some)
      where
        filled : (gate end : ℕ) (frames : List (List ℕ)) (x : List ℕ) → AreFrames gate end frames x → 0 < length frames → 0 < size frames
        filled gate end [] x are more = absurd (omega (arith, more))
        filled gate end (frame ∷ frames) x are more = omega (arith, are.1.whole)

    -- Append.
    module _ (bytes body : List ℕ) (t : S) (pending : IsPending bytes body) (one : K.apply s (GATE_OPEN ∷ body) ≡ Some t) (fits : places.gate + length bytes < places.end) where
      bytes_len : length bytes ≡ length body + 1
      bytes_len = omega (arith, ap length pending.split, length-append body (0 ∷ []))

      framed : (x y : List ℕ) → Appended places.gate bytes x y → Appended (next_gate K h p) (body ++ 0 ∷ []) x y
      framed x y a = subst (λ (l : List ℕ). Appended (next_gate K h p) l x y) pending.split (subst (λ (k : ℕ). Appended k bytes x y) holds.gate a)

      room : next_gate K h p + 1 + length body < segment_at (K.layout h) p.segment + (K.layout h).segment
      room = omega (arith, fits, bytes_len, holds.gate, holds.end)

      appended : (x y : List ℕ) → old.now x → Appended places.gate bytes x y → IsStore K h p s y ⊎ IsStore K h (with_frame p (GATE_OPEN ∷ body)) t y
      appended x y now a = append_step K laws h p s t body x y room pending.frame one (framed x y a) (store_of x now)

      pub append_keeps : (new : View) → Leaves (Appended places.gate bytes) old new → (start : S) (all : List (List ℕ)) → Replays K start all s → KeepsAll K start all (all ++ (GATE_OPEN ∷ body) ∷ []) old new
      append_keeps new leaves start all run = keeps_one old new holds.honest (Appended places.gate bytes) leaves s start all run t (GATE_OPEN ∷ body) one
          (λ x y now a. ⊎_elim (λ still. inl (recovers K laws h y p s still)) (λ more. inr (recovers K laws h y (with_frame p (GATE_OPEN ∷ body)) t more)) (appended x y now a))

      module _ (new : View) (leaves : Leaves (Appended places.gate bytes) old new) (only : Only new.contents new) (written : Written places.gate (GATE_OPEN ∷ bytes) old.contents new.contents) where
        x : List ℕ
        x = old.contents

        was : IsStore K h p s old.contents
        was = here.store

        torn : Torn (next_gate K h p) (1 + length bytes) old.contents new.contents
        torn = subst (λ (k : ℕ). Torn k (1 + length bytes) old.contents new.contents) holds.gate leaves.contents.torn

        low : segment_at (K.layout h) p.segment ≤ next_gate K h p
        low = omega arith

        high : next_gate K h p + (1 + length bytes) ≤ segment_at (K.layout h) p.segment + (K.layout h).segment
        high = omega (arith, room, bytes_len)

        opened : get_or new.contents (segment_at (K.layout h) p.segment + 9 + size p.frames) 0 ≡ GATE_OPEN
        opened = ap (λ (k : ℕ). get_or new.contents k 0) (at holds.gate) ∙ written_stands places.gate (GATE_OPEN ∷ bytes) old.contents new.contents (omega (arith, holds.gate, room, was.long, segment_inside (K.layout h) p.segment)) written 0 (omega arith)
          where
            at : {g : ℕ} → g ≡ segment_at (K.layout h) p.segment + 9 + size p.frames → segment_at (K.layout h) p.segment + 9 + size p.frames ≡ g + 0
            at is = omega (arith, is)

        stored : IsStore K h (with_frame p (GATE_OPEN ∷ body)) t new.contents
        stored = ⊎_elim (λ still. absurd (shut_behind (segment_at (K.layout h) p.segment + 9) (segment_at (K.layout h) p.segment + (K.layout h).segment) p.frames new.contents still.current.are opened)) (λ more. more) (appended old.contents new.contents holds.honest.here leaves.contents)

        area_agrees : Agree (area_at (K.layout h) (not p.area)) (area_at (K.layout h) (not p.area) + 1 + (K.layout h).body) old.contents new.contents
        area_agrees = area_of_segment (K.layout h) (next_gate K h p) (1 + length bytes) old.contents new.contents was.long torn p.segment (not p.area) low

        segment_agrees : Agree (segment_at (K.layout h) (not p.segment)) (segment_at (K.layout h) (not p.segment) + (K.layout h).segment) old.contents new.contents
        segment_agrees = other_segment (K.layout h) (next_gate K h p) (1 + length bytes) old.contents new.contents was.long torn p.segment low high

        known : IsKnown K h places (with_frame p (GATE_OPEN ∷ body)) t new.contents
        known = record {
          store = stored;
          area_gate = gate_same places.area_open (area_at (K.layout h) (not p.area)) old.contents new.contents (area_agrees (area_at (K.layout h) (not p.area)) (omega arith) (omega arith)) here.area_gate;
          segment_gate = λ single. gate_same places.segment_open (segment_at (K.layout h) (not p.segment)) old.contents new.contents (segment_agrees (segment_at (K.layout h) (not p.segment)) (omega arith) (omega (arith, (K.layout h).room))) (here.segment_gate single);
        }

        begun_then : (done : ℕ) → IsBegun K h places p done spelling old.contents → IsBegun K h places (with_frame p (GATE_OPEN ∷ body)) done spelling new.contents
        begun_then done b = record {
          turned = b.turned;
          shut = b.shut;
          read = b.read;
          long = b.long;
          stand = λ i below. area_agrees (area_at (K.layout h) (not p.area) + 1 + i) (omega arith) (omega (arith, below, length-take done spelling, b.long)) ∙ b.stand i below;
        }

        pub append_holds : (then : Places) → HasSizes (K.layout h) then.sizes → then.area ≡ places.area → then.segment ≡ places.segment → then.checkpoint ≡ places.checkpoint → then.gate ≡ places.gate + length bytes → then.end ≡ places.end
            → then.area_open ≡ places.area_open → then.segment_open ≡ places.segment_open → Holds K h then (with_frame p (GATE_OPEN ∷ body)) t spelling new
        append_holds then fitting area segment checkpoint gate end area_open segment_open = record {
          honest = leaves.honest;
          fits = fitting;
          area = area ∙ holds.area;
          segment = segment ∙ holds.segment;
          turned = ap in_progress checkpoint ∙ holds.turned;
          gate = omega (arith, gate, holds.gate, bytes_len, size-push p.frames (GATE_OPEN ∷ body));
          end = end ∙ holds.end;
          images = λ image now. subst (λ (l : List ℕ). IsKnown K h then (with_frame p (GATE_OPEN ∷ body)) t l) (sym (only image now)) (record {
            store = known.store;
            area_gate = subst (λ b. IsGate b (area_at (K.layout h) (not p.area)) new.contents) (sym area_open) known.area_gate;
            segment_gate = λ single. subst (λ b. IsGate b (segment_at (K.layout h) (not p.segment)) new.contents) (sym segment_open) (known.segment_gate single);
          });
          begun = λ done is. let b = begun_then done (holds.begun done (sym checkpoint ∙ is)) in record {
            turned = b.turned;
            shut = area_open ∙ b.shut;
            read = b.read;
            long = b.long;
            stand = b.stand;
          };
        }

        pub append_acknowledged : ((image : List ℕ) → new.since new.clock image → new.now image) → (start : S) (all : List (List ℕ)) → Replays K start all s
            → (image : List ℕ) → new.since new.clock image → Survives K start (all ++ (GATE_OPEN ∷ body) ∷ []) (length all + 1) image
        append_acknowledged only_now start all run image is =
            survives_all start (all ++ (GATE_OPEN ∷ body) ∷ []) t (length all + 1) image (omega (arith, length-append all ((GATE_OPEN ∷ body) ∷ []))) (replays_one K laws start all s (GATE_OPEN ∷ body) t run one)
            (recovers K laws h image (with_frame p (GATE_OPEN ∷ body)) t (subst (λ (l : List ℕ). IsStore K h (with_frame p (GATE_OPEN ∷ body)) t l) (sym (only image (only_now image is))) stored))

    -- A checkpoint's steps. The gate of the checkpoint area that isn't in use is at this place.
    module _ (at : ℕ) (at_is : at ≡ area_at (K.layout h) (not p.area)) where
      closing_torn : (b : Bool) (x y : List ℕ) → Closing at b x y → Torn (area_at (K.layout h) (not p.area)) 1 x y
      closing_torn true x y torn = subst (λ (k : ℕ). Torn k 1 x y) at_is torn
      closing_torn false x y same = torn_same (area_at (K.layout h) (not p.area)) 1 x y same

      closing_here : (b : Bool) (x y : List ℕ) → Closing at b x y → Closing (area_at (K.layout h) (not p.area)) b x y
      closing_here b x y step = subst (λ (k : ℕ). Closing k b x y) at_is step

      closed : (x y : List ℕ) → old.now x → Closing at places.area_open x y → IsStore K h p s y
      closed x y now step = close_step K laws h p s places.area_open x y (known_open places.area_open (area_at (K.layout h) (not p.area)) x (holds.images x now).area_gate) (closing_here places.area_open x y step) (store_of x now)

      pub begin_shut : places.area_open ≡ false → get_or old.contents at 0 ≢ GATE_OPEN
      begin_shut shut = subst (λ (k : ℕ). get_or old.contents k 0 ≢ GATE_OPEN) (sym at_is) (known_shut places.area_open (area_at (K.layout h) (not p.area)) old.contents here.area_gate shut)

      pub begin_keeps : (new : View) → Leaves (Closing at places.area_open) old new → (start : S) (all : List (List ℕ)) → Replays K start all s → KeepsAll K start all all old new
      begin_keeps new leaves start all run = keeps_same old new holds.honest (Closing at places.area_open) leaves s start all run (λ x y now step. recovers K laws h y p s (closed x y now step))

      pub begin_holds : (new : View) → Leaves (Closing at places.area_open) old new → Only new.contents new → get_or new.contents at 0 ≢ GATE_OPEN → (code : List ℕ) → p.turned ≡ true → K.read_state h code ≡ Some p.middle → length code ≡ (K.layout h).body
          → (then : Places) → HasSizes (K.layout h) then.sizes → then.area ≡ places.area → then.segment ≡ places.segment → then.checkpoint ≡ Writing 0 → then.gate ≡ places.gate → then.end ≡ places.end
          → then.area_open ≡ false → then.segment_open ≡ places.segment_open → Holds K h then p s code new
      begin_holds new leaves only shut code turned read long then fitting area segment checkpoint gate end area_open segment_open = record {
        honest = leaves.honest;
        fits = fitting;
        area = area ∙ holds.area;
        segment = segment ∙ holds.segment;
        turned = ap in_progress checkpoint ∙ sym turned;
        gate = gate ∙ holds.gate;
        end = end ∙ holds.end;
        images = λ image now. subst (λ (l : List ℕ). IsKnown K h then p s l) (sym (only image now)) (record {
          store = closed old.contents new.contents holds.honest.here leaves.contents;
          area_gate = subst (λ b. IsGate b (area_at (K.layout h) (not p.area)) new.contents) (sym area_open) (subst (λ (k : ℕ). get_or new.contents k 0 ≢ GATE_OPEN) at_is shut);
          segment_gate = λ single. absurd (false≢true (sym single ∙ turned));
        });
        begun = λ done is. record {
          turned = turned;
          shut = area_open;
          read = read;
          long = long;
          stand = λ i below. absurd (omega (arith, below, length-take done code, ap written (sym is ∙ checkpoint)));
        };
      }

      -- a piece of the body
      module _ (piece : List ℕ) (done n : ℕ) (some : 0 < n) (fits : done + n ≤ (K.layout h).body) (b : IsBegun K h places p done spelling old.contents) (is : piece ≡ take n (drop done spelling)) where
        piece_len : length piece ≡ n
        piece_len = omega (arith, ap length is, length-take n (drop done spelling), length-drop done spelling, b.long, fits)

        shut_in : (x : List ℕ) → old.now x → get_or x (area_at (K.layout h) (not p.area)) 0 ≢ GATE_OPEN
        shut_in x now = known_shut places.area_open (area_at (K.layout h) (not p.area)) x (holds.images x now).area_gate b.shut

        pieced : (x y : List ℕ) → old.now x → Torn (at + 1 + done) (length piece) x y → IsStore K h p s y × (get_or y (area_at (K.layout h) (not p.area)) 0 ≢ GATE_OPEN)
        pieced x y now torn = piece_step K laws h p s (at + 1 + done) (length piece) x y (omega (arith, at_is)) (omega (arith, at_is, piece_len, fits)) (shut_in x now) torn (store_of x now)

        pub piece_keeps : (new : View) → Leaves (Torn (at + 1 + done) (length piece)) old new → (start : S) (all : List (List ℕ)) → Replays K start all s → KeepsAll K start all all old new
        piece_keeps new leaves start all run = keeps_same old new holds.honest (Torn (at + 1 + done) (length piece)) leaves s start all run (λ x y now torn. recovers K laws h y p s (pieced x y now torn).0)

        stands_on : (y : List ℕ) → Torn (at + 1 + done) (length piece) old.contents y → Written (at + 1 + done) piece old.contents y → StandAt (area_at (K.layout h) (not p.area) + 1) (take (done + n) spelling) y
        stands_on y torn put i below = ⊎_elim
            (λ early. torn.elsewhere (area_at (K.layout h) (not p.area) + 1 + i) (omega (arith, inside, early, fits)) (inl (omega (arith, early, at_is)))
            ∙ b.stand i (omega (arith, early, length-take done spelling, b.long, fits))
            ∙ get_or-take done spelling i 0 early ∙ sym (get_or-take (done + n) spelling i 0 short))
            (λ late. ap (λ (k : ℕ). get_or y k 0) (omega (arith, late, at_is)) ∙ written_stands (at + 1 + done) piece old.contents y (omega (arith, inside, at_is, fits)) put (i - done) (omega (arith, late, short, piece_len))
            ∙ ap (λ (l : List ℕ). get_or l (i - done) 0) is
            ∙ get_or-take n (drop done spelling) (i - done) 0 (omega (arith, late, short, some)) ∙ get_or-drop done spelling (i - done) 0
            ∙ ap (λ (k : ℕ). get_or spelling k 0) (omega (arith, late)) ∙ sym (get_or-take (done + n) spelling i 0 short))
            (cases_lt i done)
          where
            short : i < done + n
            short = omega (arith, below, length-take (done + n) spelling)

            inside : area_at (K.layout h) (not p.area) + 1 + (K.layout h).body ≤ length old.contents
            inside = omega (arith, here.store.long, area_inside (K.layout h) (not p.area))

        pub piece_holds : (new : View) → Leaves (Torn (at + 1 + done) (length piece)) old new → Written (at + 1 + done) piece old.contents new.contents
            → (then : Places) → HasSizes (K.layout h) then.sizes → then.area ≡ places.area → then.segment ≡ places.segment → then.checkpoint ≡ Writing (done + n) → then.gate ≡ places.gate → then.end ≡ places.end
            → then.area_open ≡ places.area_open → then.segment_open ≡ places.segment_open → Holds K h then p s spelling new
        piece_holds new leaves put then fitting area segment checkpoint gate end area_open segment_open = record {
          honest = leaves.honest;
          fits = fitting;
          area = area ∙ holds.area;
          segment = segment ∙ holds.segment;
          turned = ap in_progress checkpoint ∙ sym b.turned;
          gate = gate ∙ holds.gate;
          end = end ∙ holds.end;
          images = λ image now. let d = leaves.now image now in let after = pieced d.0 image d.1 d.2 in record {
            store = after.0;
            area_gate = subst (λ t. IsGate t (area_at (K.layout h) (not p.area)) image) (sym (area_open ∙ b.shut)) after.1;
            segment_gate = λ single. absurd (false≢true (sym single ∙ b.turned));
          };
          begun = λ more goes. record {
            turned = b.turned;
            shut = area_open ∙ b.shut;
            read = b.read;
            long = b.long;
            stand = subst (λ (k : ℕ). StandAt (area_at (K.layout h) (not p.area) + 1) (take k spelling) new.contents) (ap written (sym checkpoint ∙ goes)) (stands_on new.contents leaves.contents put);
          };
        }

      -- the end
      module _ (done : ℕ) (b : IsBegun K h places p done spelling old.contents) (whole : done ≡ (K.layout h).body) where
        pub finish_inside : at + length spelling < length old.contents
        finish_inside = omega (arith, at_is, b.long, here.store.long, area_inside (K.layout h) (not p.area))

        pub finish_stand : StandAt (at + 1) spelling old.contents
        finish_stand = subst (λ (k : ℕ). StandAt (k + 1) spelling old.contents) (sym at_is)
            (subst (λ (l : List ℕ). StandAt (area_at (K.layout h) (not p.area) + 1) l old.contents) (take_all done spelling (omega (arith, whole, b.long))) b.stand)

        put_here : (x y : List ℕ) → Appended at spelling x y → Appended (area_at (K.layout h) (not p.area)) spelling x y
        put_here x y a = subst (λ (k : ℕ). Appended k spelling x y) at_is a

        shut_then : (x : List ℕ) → old.now x → get_or x (area_at (K.layout h) (not p.area)) 0 ≢ GATE_OPEN
        shut_then x now = known_shut places.area_open (area_at (K.layout h) (not p.area)) x (holds.images x now).area_gate b.shut

        pub finish_keeps : (new : View) → Leaves (Appended at spelling) old new → (start : S) (all : List (List ℕ)) → Replays K start all s → KeepsAll K start all all old new
        finish_keeps new leaves start all run = keeps_same old new holds.honest (Appended at spelling) leaves s start all run
            (λ x y now a. ⊎_elim (λ still. recovers K laws h y p s still) (λ ended. recovers K laws h y (finished p) s ended)
            (open_step K laws h p s spelling x y b.turned b.read b.long (shut_then x now) (put_here x y a) (store_of x now)))

        module _ (new : View) (leaves : Leaves (Appended at spelling) old new) (only : Only new.contents new) (opened : get_or new.contents at 0 ≡ GATE_OPEN) where
          gate_open : get_or new.contents (area_at (K.layout h) (not p.area)) 0 ≡ GATE_OPEN
          gate_open = subst (λ (k : ℕ). get_or new.contents k 0 ≡ GATE_OPEN) at_is opened

          a_here : Appended (area_at (K.layout h) (not p.area)) spelling old.contents new.contents
          a_here = put_here old.contents new.contents leaves.contents

          ended : IsStore K h (finished p) s new.contents
          ended = ⊎_elim
              (λ same. absurd (shut_then old.contents holds.honest.here (sym same ∙ gate_open)))
              (λ stand. open_whole K laws h p s spelling old.contents new.contents b.turned b.read b.long a_here.torn gate_open stand here.store)
              (a_here.gate_last (omega (arith, here.store.long, area_inside (K.layout h) (not p.area))))

          used_agrees : Agree (area_at (K.layout h) p.area) (area_at (K.layout h) p.area + 1 + (K.layout h).body) old.contents new.contents
          used_agrees = subst (λ t. Agree (area_at (K.layout h) t) (area_at (K.layout h) t + 1 + (K.layout h).body) old.contents new.contents) (not_not p.area)
              (other_area (K.layout h) (area_at (K.layout h) (not p.area)) (1 + length spelling) old.contents new.contents here.store.long a_here.torn (not p.area) (omega arith) (omega (arith, b.long)))

          used_open : get_or new.contents (area_at (K.layout h) (not (not p.area))) 0 ≡ GATE_OPEN
          used_open = subst (λ t. get_or new.contents (area_at (K.layout h) t) 0 ≡ GATE_OPEN) (sym (not_not p.area)) (used_agrees (area_at (K.layout h) p.area) (omega arith) (omega arith) ∙ here.store.area.gate)

          older_open : get_or new.contents (segment_at (K.layout h) (not p.segment)) 0 ≡ GATE_OPEN
          older_open =
              let two : Other K h true p s old.contents = subst (λ t. Other K h t p s old.contents) b.turned here.store.other in
              segment_of_area (K.layout h) (area_at (K.layout h) (not p.area)) (1 + length spelling) old.contents new.contents here.store.long a_here.torn (not p.area) (not p.segment) (omega (arith, b.long))
              (segment_at (K.layout h) (not p.segment)) (omega arith) (omega (arith, (K.layout h).room)) ∙ two.0.gate

          pub finish_holds : (then : Places) → HasSizes (K.layout h) then.sizes → then.area ≡ not places.area → then.segment ≡ places.segment → then.checkpoint ≡ Ended → then.gate ≡ places.gate → then.end ≡ places.end
              → then.area_open ≡ true → then.segment_open ≡ true → Holds K h then (finished p) s spelling new
          finish_holds then fitting area segment checkpoint gate end area_open segment_open = record {
            honest = leaves.honest;
            fits = fitting;
            area = area ∙ ap not holds.area;
            segment = segment ∙ holds.segment;
            turned = ap in_progress checkpoint;
            gate = gate ∙ holds.gate;
            end = end ∙ holds.end;
            images = λ image now. subst (λ (l : List ℕ). IsKnown K h then (finished p) s l) (sym (only image now)) (record {
              store = ended;
              area_gate = subst (λ t. IsGate t (area_at (K.layout h) (not (not p.area))) new.contents) (sym area_open) used_open;
              segment_gate = λ _. subst (λ t. IsGate t (segment_at (K.layout h) (not p.segment)) new.contents) (sym segment_open) older_open;
            });
            begun = λ k is. absurd (false≢true (ap is_begun (sym checkpoint ∙ is)));
          }

    -- A turn. The gate of the other segment is at this place.
    module _ (at : ℕ) (at_is : at ≡ segment_at (K.layout h) (not p.segment)) (single : places.checkpoint ≡ Ended) (bytes : List ℕ) (nine : length bytes ≡ 9) (spelled : K.segment_number (take 8 bytes) ≡ K.number s + 1) (shut : get_or bytes 8 0 ≡ 0) (some : 0 < length p.frames) where
      alone : p.turned ≡ false
      alone = sym holds.turned ∙ ap in_progress single

      prepared_here : (x y : List ℕ) → Prepared at places.segment_open bytes x y → Prepared (segment_at (K.layout h) (not p.segment)) places.segment_open bytes x y
      prepared_here x y step = subst (λ (k : ℕ). Prepared k places.segment_open bytes x y) at_is step

      pub turn_keeps : (new : View) → Leaves (Prepared at places.segment_open bytes) old new → (start : S) (all : List (List ℕ)) → Replays K start all s → KeepsAll K start all all old new
      turn_keeps new leaves start all run = keeps_same old new holds.honest (Prepared at places.segment_open bytes) leaves s start all run
          (λ x y now step. ⊎_elim (λ still. recovers K laws h y p s still) (λ done. recovers K laws h y (turned_at p s) s done)
          (turn_step K laws h p s places.segment_open bytes x y alone some nine spelled shut (known_open places.segment_open (segment_at (K.layout h) (not p.segment)) x ((holds.images x now).segment_gate alone)) (prepared_here x y step) (store_of x now)))

      pub turn_holds : (next : List ℕ) (new : View) → Leaves (Prepared at places.segment_open bytes) old new → Only new.contents new → StandAt at (GATE_OPEN ∷ bytes) new.contents
          → (then : Places) → HasSizes (K.layout h) then.sizes → then.area ≡ places.area → then.segment ≡ not places.segment → then.checkpoint ≡ Pending → then.gate ≡ at + 9 → then.end ≡ at + places.sizes.segment
          → then.area_open ≡ places.area_open → Holds K h then (turned_at p s) s next new
      turn_holds next new leaves only stand then fitting area segment checkpoint gate end area_open = record {
        honest = leaves.honest;
        fits = fitting;
        area = area ∙ holds.area;
        segment = segment ∙ ap not holds.segment;
        turned = ap in_progress checkpoint;
        gate = omega (arith, gate, at_is);
        end = omega (arith, end, at_is, holds.fits.segment);
        images = λ image now. subst (λ (l : List ℕ). IsKnown K h then (turned_at p s) s l) (sym (only image now)) (record {
          store = turn_whole K laws h p s bytes old.contents new.contents alone some nine spelled shut torn here.store (subst (λ (k : ℕ). StandAt k (GATE_OPEN ∷ bytes) new.contents) at_is stand);
          area_gate = subst (λ t. IsGate t (area_at (K.layout h) (not p.area)) new.contents) (sym area_open)
              (gate_same places.area_open (area_at (K.layout h) (not p.area)) old.contents new.contents
              (area_of_segment (K.layout h) (segment_at (K.layout h) (not p.segment)) (1 + length bytes) old.contents new.contents here.store.long torn (not p.segment) (not p.area) (omega arith) (area_at (K.layout h) (not p.area)) (omega arith) (omega arith)) here.area_gate);
          segment_gate = λ is. absurd (false≢true (sym is));
        });
        begun = λ k is. absurd (false≢true (ap is_begun (sym checkpoint ∙ is)));
      }
        where
          torn : Torn (segment_at (K.layout h) (not p.segment)) (1 + length bytes) old.contents new.contents
          torn = (prepared_here old.contents new.contents leaves.contents).torn

      pub turn_known : places.segment_open ≡ false → get_or old.contents at 0 ≢ GATE_OPEN
      turn_known is = subst (λ (k : ℕ). get_or old.contents k 0 ≢ GATE_OPEN) (sym at_is) (known_shut places.segment_open (segment_at (K.layout h) (not p.segment)) old.contents (here.segment_gate alone) is)

  -- What is found in the contents of a synced disk holds.
  pub open_holds : (places : Places) (p : Parts S) (s : S) (disk : View) → IsHonest disk → Only disk.contents disk → found K disk.contents ≡ Ok (found_of h p s) → ArePlaces K h p places → is_begun places.checkpoint ≡ false
      → IsGate places.area_open (area_at (K.layout h) (not p.area)) disk.contents → IsGate places.segment_open (segment_at (K.layout h) (not p.segment)) disk.contents → (spelling : List ℕ) → Holds K h places p s spelling disk
  open_holds places p s disk honest only is are begun area_gate segment_gate spelling = record {
    honest = honest;
    fits = are.fits;
    area = are.area;
    segment = are.segment;
    turned = are.turned;
    gate = are.gate;
    end = are.end;
    images = λ image now. subst (λ (l : List ℕ). IsKnown K h places p s l) (sym (only image now)) (record { store = found_stands K laws (found_of h p s) disk.contents is; area_gate = area_gate; segment_gate = λ _. segment_gate });
    begun = λ done is. absurd (false≢true (sym begun ∙ ap is_begun is));
  }

-- one call after another
pub keeps_then : {H S : Type 0} (K : Codec H S) (start : S) (all more most : List (List ℕ)) (a b c : View) → a.clock ≤ b.clock → KeepsAll K start all more a b → KeepsAll K start more most b c → KeepsAll K start all most a c
keeps_then K start all more most a b c later one two k n le before image is = two k n (omega (arith, le, later)) (λ i. one k n le before i) image is
