-- A file that a store leaves is recovered to the state that it stands for.
use Rattle.std.proofs.Common.{◌≡◌, inl, inr, ⊎_elim, ℕ, ◌+◌, ◌<◌, List, [], length, refl, sym, ◌∙◌, ap, subst, arith, Bool, true, false, not, Ok}
use Rattle.pfx_store_image.specs.Codec.{Codec, Laws}
use Rattle.pfx_store_image.specs.Layout.{area_at, segment_at, first_gate, file_len, body_at}
use Rattle.pfx_store_image.specs.Recovery.{found_of, on_ok, area_taken, from_state, found, recovered}
use Rattle.pfx_store_image.specs.Store.{Parts, Replays, InArea, IsLower, InSegment, IsPassed, Other, IsStore, single, double}
use Rattle.pfx_store_image.proofs.Runs.{not_not, numbers_of}
use Rattle.pfx_store_image.proofs.Stages.{begun_is, found_as, from_head_as, from_area_as, from_state_as, from_segment_as, from_frames_two, from_frames_one, from_one_as, from_two_as, walk_segment_is, follows_not, follows_is, passed_is, taken_by, replay_is}

module _ {H S : Type 0} (K : Codec H S) (laws : Laws K) where
  module _ (h : H) (x : List ℕ) where
    taken_is : (c : Bool) (s : S) → InArea K h s (area_at (K.layout h) c) x → IsLower K h (K.number s) (area_at (K.layout h) (not c)) x → area_taken K h x ≡ Ok c
    taken_is c s is lower = taken_by K h x c is.gate (⊎_elim (λ shut. inl shut) (λ low. inr (omega (arith, low, laws.area_number h (body_at (K.layout h) (area_at (K.layout h) c) x) s is.body))) lower)

    -- one segment is read
    one : (c : Bool) (base : S) (b : Bool) (frames : List (List ℕ)) (s : S) → length x ≡ file_len (K.layout h) → InSegment K h (K.number base + 1) frames (segment_at (K.layout h) b) x → IsPassed K (K.number s + 1) (K.number base + 1) (segment_at (K.layout h) (not b)) x → Replays K base frames s
        → from_state K h x c base ≡ Ok (found_of h (single c base b frames) s)
    one c base b frames s long here other are =
        from_state_as K h x c base b (begun_is K h x (K.number base + 1) b here.gate here.number (⊎_elim (λ shut. inl shut) (λ below. inr below.1) other))
        ∙ from_segment_as K h x c base b frames (K.number s) (walk_segment_is K h x (K.number base) b (K.number base + 1) frames (K.number s) long here (numbers_of K laws base frames s are))
        ∙ from_frames_one K h x c base b frames (K.number s) (follows_not K h x (K.number s) (not b) (⊎_elim (λ shut. inl shut) (λ below. inr (λ is. omega (arith, is, below.0))) other))
        ∙ from_one_as K h x c base b frames (K.number s) s (replay_is K (first_gate (K.layout h) b) base frames s are) (passed_is K h x (K.number s) (not b) (⊎_elim (λ shut. inl shut) (λ below. inr below.0) other))

    -- two segments are read
    two : (c : Bool) (base : S) (b : Bool) (before : List (List ℕ)) (middle : S) (frames : List (List ℕ)) (s : S) → length x ≡ file_len (K.layout h) → InSegment K h (K.number base + 1) before (segment_at (K.layout h) b) x → InSegment K h (K.number middle + 1) frames (segment_at (K.layout h) (not b)) x
        → Replays K base before middle → K.number base < K.number middle → Replays K middle frames s → from_state K h x c base ≡ Ok (found_of h (double c base b before middle frames) s)
    two c base b before middle frames s long here next first less second =
        from_state_as K h x c base b (begun_is K h x (K.number base + 1) b here.gate here.number (inr (λ is. omega (arith, is, next.number, less))))
        ∙ from_segment_as K h x c base b before (K.number middle) (walk_segment_is K h x (K.number base) b (K.number base + 1) before (K.number middle) long here (numbers_of K laws base before middle first))
        ∙ from_frames_two K h x c base b before (K.number middle) frames (K.number s) (follows_is K h x (K.number middle) (not b) next.gate next.number) (walk_segment_is K h x (K.number middle) (not b) (K.number middle + 1) frames (K.number s) long next (numbers_of K laws middle frames s second))
        ∙ from_two_as K h x c base b before frames middle s (replay_is K (first_gate (K.layout h) b) base before middle first) (replay_is K (first_gate (K.layout h) (not b)) middle frames s second)

    single_is : (p : Parts S) → p.turned ≡ false → p.base ≡ p.middle → p.before ≡ [] → single p.area p.base p.segment p.frames ≡ p
    single_is p turned base before =
        ap (λ m. record { area = p.area; base = p.base; turned = false; before = []; middle = m; segment = p.segment; frames = p.frames }) base
        ∙ ap (λ l. record { area = p.area; base = p.base; turned = false; before = l; middle = p.middle; segment = p.segment; frames = p.frames }) (sym before)
        ∙ ap (λ t. record { area = p.area; base = p.base; turned = t; before = p.before; middle = p.middle; segment = p.segment; frames = p.frames }) (sym turned)

    double_is : (p : Parts S) → p.turned ≡ true → double p.area p.base (not p.segment) p.before p.middle p.frames ≡ p
    double_is p turned =
        ap (λ b. record { area = p.area; base = p.base; turned = true; before = p.before; middle = p.middle; segment = b; frames = p.frames }) (not_not p.segment)
        ∙ ap (λ t. record { area = p.area; base = p.base; turned = t; before = p.before; middle = p.middle; segment = p.segment; frames = p.frames }) (sym turned)

    segments : (p : Parts S) (s : S) (turned : Bool) → p.turned ≡ turned → length x ≡ file_len (K.layout h) → InSegment K h (K.number p.middle + 1) p.frames (segment_at (K.layout h) p.segment) x → Other K h turned p s x → Replays K p.middle p.frames s → from_state K h x p.area p.base ≡ Ok (found_of h p s)
    segments p s false turned long current other are = one p.area p.base p.segment p.frames s long
        (subst (λ m. InSegment K h (K.number m + 1) p.frames (segment_at (K.layout h) p.segment) x) (sym other.1) current) other.0 (subst (λ m. Replays K m p.frames s) (sym other.1) are)
        ∙ ap (λ q. Ok (found_of h q s)) (single_is p turned other.1 other.2)
    segments p s true turned long current other are = two p.area p.base (not p.segment) p.before p.middle p.frames s long other.0
        (subst (λ b. InSegment K h (K.number p.middle + 1) p.frames (segment_at (K.layout h) b) x) (sym (not_not p.segment)) current) other.1 other.2 are
        ∙ ap (λ q. Ok (found_of h q s)) (double_is p turned)

    pub finds : (p : Parts S) (s : S) → IsStore K h p s x → found K x ≡ Ok (found_of h p s)
    finds p s is =
        found_as K h x is.head
        ∙ from_head_as K h x p.area is.long (taken_is p.area p.base is.area is.lower)
        ∙ from_area_as K h x p.area p.base is.area.body
        ∙ segments p s p.turned refl is.long is.current is.other is.state

    pub recovers : (p : Parts S) (s : S) → IsStore K h p s x → recovered K x ≡ Ok s
    unfolding recovered
    recovers p s is = ap (λ r. on_ok r (λ f. Ok f.state)) (finds p s is)
