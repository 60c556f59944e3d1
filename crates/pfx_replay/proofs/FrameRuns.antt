-- Frames that stand in an image, and the records in them.
use Rattle.std.specs.Prelude.{◌≡◌, ◌≢◌, ◌<◌, ◌≤◌, ◌+◌, ℕ, List, [], ◌∷◌, ◌++◌, length, not, if◌then◌else◌, slice_index, take, drop, Option, Some, None, MatchOption, refl}
use Rattle.std.specs.Prelude.{Vec}
use Rattle.std.specs.declared.alloc.Global.{Global}
use Rattle.pfx_segment.specs.Reading.{views}
use Rattle.std.proofs.Common.{zero, suc, get_or, sym, ◌∙◌, ap, ap₂, arith, append-nil, length-append, subst}
use Rattle.pfx_record_redo.specs.Applying.{applied, after_record, is_right}
use Rattle.pfx_jobs.specs.Kind.{Kind, Laws}
use Rattle.pfx_machine.specs.Plain.{Plain}
use Rattle.pfx_record.specs.Batches.{PlainBatch, batch_bytes}
use Rattle.pfx_record.specs.Reading.{IsBatch, NoBatch}
use Rattle.pfx_record.specs.Records.{Recorded}
use Rattle.pfx_record.proofs.Bodies.{one_batch}
use Rattle.pfx_segment.specs.Frames.{AreFrames}
use Rattle.pfx_segment.proofs.FrameLemmas.{read_is}
use Rattle.pfx_store_image.specs.Codec.{Codec}
use Rattle.pfx_disk.specs.declared.gates.TheConstants.{GATE_OPEN}
use Rattle.pfx_store_image.specs.Layout.{area_at, first_at, segment_at}
use Rattle.pfx_store_image.specs.Store.{Parts, Replays}
use Rattle.pfx_store_image.proofs.Answers.{ok_same}
use Rattle.pfx_store_image.proofs.Stages.{replay_is}
use Rattle.pfx_store_format.specs.Batches.{batch_in}
use Rattle.pfx_store_format.specs.Format.{format}
use Rattle.pfx_store_format.specs.Frames.{state_after}
use Rattle.pfx_store_format.proofs.Batches.{batch_spelled, batch_there}
use Rattle.pfx_store_format.proofs.Nexts.{after_of}
use Rattle.pfx_replay.specs.Trails.{IsWay, onward, records_at, records_behind, records_if}
use Rattle.pfx_replay.proofs.Following.{applied_by}

-- frames are fewer than the bytes that they stand in
pub few : (gate end : ℕ) (frames : List (List ℕ)) (x : List ℕ) → gate < end → AreFrames gate end frames x → length frames + gate < end
few gate end [] x less are = omega arith
few gate end (frame ∷ frames) x less are = let rest = few (gate + length frame) end frames x are.2 are.3 in omega (arith, rest, are.1.whole)

-- there are only these
pub one_run : (gate end : ℕ) (frames others : List (List ℕ)) (x : List ℕ) → gate < end → end ≤ length x → AreFrames gate end frames x → AreFrames gate end others x → frames ≡ others
one_run gate end frames others x less inside are also =
    let n : length frames < end = (let f = few gate end frames x less are in omega (arith, f)) in
    let m : length others < end = (let f = few gate end others x less also in omega (arith, f)) in
    ok_same frames others (sym (read_is end gate end frames x are n inside) ∙ read_is end gate end others x also m inside)

module _ {H S : Type 0} (K : Codec H S) where
  pub one_end : (s : S) (frames : List (List ℕ)) (t u : S) → Replays K s frames t → Replays K s frames u → t ≡ u
  one_end s frames t u one other = ok_same t u (sym (replay_is K 0 s frames t one) ∙ replay_is K 0 s frames u other)

  pub some_one : (a b : S) → Some a ≡ Some b → a ≡ b
  some_one a b h = ap (λ o. elim o [ Some x ↦ x | None ↦ a ]) h

  -- frames behind one that leads on
  pub back_from : (s r t : S) (frame : List ℕ) (frames : List (List ℕ)) → K.apply s frame ≡ Some r → Replays K s (frame ∷ frames) t → Replays K r frames t
  back_from s r t frame frames is run = subst (λ q. Replays K q frames t) (some_one run.0 r (sym run.1 ∙ is)) run.2

  -- these frames stand in an open segment of so many bytes at this place, which begins behind a number
  module _ (image : List ℕ) (place len number : ℕ) where
    abbrev pub Stand : List (List ℕ) → Type 0
    Stand frames = (slice_index image place ≡ GATE_OPEN) × (K.segment_number (first_at place image) ≡ number + 1) × AreFrames (place + 9) (place + len) frames image

    pub stand_found : slice_index image place ≡ GATE_OPEN → K.segment_number (first_at place image) ≡ number + 1 → (found : Option (Vec (Vec ℕ Global) Global))
        → MatchOption found ((frames : List (List ℕ)) → AreFrames (place + 9) (place + len) frames image → ⊥) (λ frames. AreFrames (place + 9) (place + len) (views frames.items) image)
        → MatchOption found ((frames : List (List ℕ)) → Stand frames → ⊥) (λ frames. Stand (views frames.items))
    stand_found gate is None none = λ frames stand. none frames stand.2
    stand_found gate is (Some frames) are = (gate, is, are)

  -- Frames of a segment at this place lead on from a state, which the checkpoint area at that place holds, to a number.
  module _ (h : H) (image : List ℕ) (at body place len number : ℕ) where
    abbrev LeadFrom : S → List (List ℕ) → Type 0
    LeadFrom s frames = (slice_index image place ≡ GATE_OPEN) × (K.segment_number (first_at place image) ≡ K.number s + 1)
        × AreFrames (place + 9) (place + len) frames image × ((t : S) × Replays K s frames t × (K.number t ≡ number))

    abbrev pub Lead : S → List (List ℕ) → Type 0
    Lead s frames = (Some s ≡ K.read_state h (take body (drop (at + 1) image))) × (slice_index image place ≡ GATE_OPEN) × (K.segment_number (first_at place image) ≡ K.number s + 1)
        × AreFrames (place + 9) (place + len) frames image × ((t : S) × Replays K s frames t × (K.number t ≡ number))

    pub lead_found : (s : S) → Some s ≡ K.read_state h (take body (drop (at + 1) image)) → (found : Option (Vec (Vec ℕ Global) Global))
        → MatchOption found ((frames : List (List ℕ)) → LeadFrom s frames → ⊥) (λ frames. LeadFrom s (views frames.items))
        → MatchOption found ((r : S) → (frames : List (List ℕ)) → Lead r frames → ⊥) (λ frames. (r : S) × Lead r (views frames.items))
    lead_found s read None none = λ r frames lead. none frames (subst (λ q. LeadFrom q frames) (some_one r s (lead.0 ∙ sym read)) (lead.1, lead.2, lead.3, lead.4))
    lead_found s read (Some frames) lead = (s, (read, lead.0, lead.1, lead.2, lead.3))

    -- a way is just that, where they aren't in use
    module _ (p : Parts S) (at_is : at ≡ area_at (K.layout h) (not p.area)) (body_is : body ≡ (K.layout h).body) (place_is : place ≡ segment_at (K.layout h) (not p.segment)) (len_is : len ≡ (K.layout h).segment)
        (number_is : K.number p.base ≡ number) where
      abbrev other : ℕ
      other = segment_at (K.layout h) (not p.segment)

      body_there : K.read_state h (take body (drop (at + 1) image)) ≡ K.read_state h (take (K.layout h).body (drop (area_at (K.layout h) (not p.area) + 1) image))
      body_there = ap₂ (λ a b. K.read_state h (take b (drop (a + 1) image))) at_is body_is

      pub lead_there : (s : S) (frames : List (List ℕ)) → IsWay K h p image s frames → Lead s frames
      lead_there s frames way = (
        sym (body_there ∙ way.area.body),
        ap (slice_index image) place_is ∙ way.segment.gate,
        ap (λ k. K.segment_number (first_at k image)) place_is ∙ way.segment.number,
        subst (λ k. AreFrames (k + 9) (k + len) frames image) (sym place_is) (subst (λ k. AreFrames (other + 9) (other + k) frames image) (sym len_is) way.segment.are),
        (way.reached, way.leads, way.number ∙ number_is),
      )

      pub way_there : slice_index image at ≡ GATE_OPEN → (s : S) (frames : List (List ℕ)) → Lead s frames → IsWay K h p image s frames
      way_there gate s frames lead = record {
        area = record { gate = ap (slice_index image) (sym at_is) ∙ gate; body = sym body_there ∙ sym lead.0 };
        segment = record {
          gate = ap (slice_index image) (sym place_is) ∙ lead.1;
          number = ap (λ k. K.segment_number (first_at k image)) (sym place_is) ∙ lead.2;
          are = subst (λ k. AreFrames (other + 9) (other + k) frames image) len_is (subst (λ k. AreFrames (k + 9) (k + len) frames image) place_is lead.3);
        };
        reached = lead.4.0;
        leads = lead.4.1;
        number = lead.4.2 ∙ sym number_is;
      }

module _ {J : Type 0} (K : Kind J) (L : Laws K) where
  none_of : {A : Type 0} (o : Option A) → ((a : A) → o ≡ Some a → ⊥) → o ≡ None
  none_of None h = refl
  none_of (Some a) h = absurd (h a refl)

  module _ (workers real : ℕ) (frame : List ℕ) where
    -- no records are found in bytes that begin with no batch, or are longer than one
    pub no_batch : NoBatch K workers real frame → [] ≡ records_if K (batch_in K workers real frame)
    no_batch h = ap (records_if K) (sym (none_of (batch_in K workers real frame) (λ batch found.
        let spelled = batch_spelled K L workers real frame batch found in
        h batch spelled.0 (record { rest = []; is = spelled.1 ∙ sym (append-nil (batch_bytes K batch)) }))))

    pub too_long : (batch : PlainBatch J) (taken : ℕ) → IsBatch K workers real frame batch taken → taken ≢ length frame → [] ≡ records_if K (batch_in K workers real frame)
    too_long batch taken h other = ap (records_if K) (sym (none_of (batch_in K workers real frame) (λ found is.
        let spelled = batch_spelled K L workers real frame found is in
        let same = one_batch K L workers real frame batch found h.fits spelled.0 h.begins (record { rest = []; is = spelled.1 ∙ sym (append-nil (batch_bytes K found)) }) in
        other (h.long ∙ ap length (sym (spelled.1 ∙ ap (batch_bytes K) same))))))

    pub whole : (batch : PlainBatch J) (taken : ℕ) → IsBatch K workers real frame batch taken → taken ≡ length frame → batch.records ≡ records_if K (batch_in K workers real frame)
    whole batch taken h same =
        let none : length h.begins.rest ≡ 0 = (let long = ap length h.begins.is ∙ length-append (batch_bytes K batch) h.begins.rest in omega (arith, h.long, same, long)) in
        let is : frame ≡ batch_bytes K batch = h.begins.is ∙ (ap (λ l. batch_bytes K batch ++ l) (empty h.begins.rest none) ∙ append-nil (batch_bytes K batch)) in
        sym (ap (records_if K) (ap (batch_in K workers real) is ∙ batch_there K L workers real batch h.fits))
      where
        empty : (l : List ℕ) → length l ≡ 0 → l ≡ []
        empty [] h = refl
        empty (x ∷ l) h = absurd (omega (arith, h))

  applied-append : (s t u : Plain J) (xs ys : List (Recorded J)) → applied K s xs ≡ Some t → applied K t ys ≡ Some u → applied K s (xs ++ ys) ≡ Some u
  applied-append s t u [] ys first next = subst (λ r. applied K r ys ≡ Some u) (sym (ap (λ o. elim o [ Some x ↦ x | None ↦ s ]) first)) next
  applied-append s t u (x ∷ xs) ys first next =
      let by = applied_by K s t x xs (is_right K s x) refl first in
      ap (λ b. if b then applied K (after_record s x) (xs ++ ys) else None) by.0 ∙ applied-append (after_record s x) t u xs ys by.1 next

  pub frames_applied : (s t : Plain J) (frames : List (List ℕ)) → Replays (format K) s frames t → applied K s (records_behind K s frames) ≡ Some t
  frames_applied s t [] is = ap Some is
  frames_applied s t (frame ∷ frames) run =
      let step = after_of K s frame run.0 run.1 in
      let rest : onward K (state_after K s frame) (λ u. records_behind K u frames) ≡ records_behind K run.0 frames = ap (λ o. onward K o (λ u. records_behind K u frames)) run.1 in
      ap (λ l. applied K s (records_at K s frame ++ l)) rest
      ∙ applied-append s run.0 t (records_at K s frame) (records_behind K run.0 frames) (ap (λ o. applied K s (records_if K o)) step.found ∙ step.taken) (frames_applied run.0 t frames run.2)

  pub replays_joined : (s m t : Plain J) (before frames : List (List ℕ)) → Replays (format K) s before m → Replays (format K) m frames t → Replays (format K) s (before ++ frames) t
  replays_joined s m t [] frames one other = subst (λ r. Replays (format K) r frames t) (sym one) other
  replays_joined s m t (frame ∷ before) frames one other = (one.0, one.1, replays_joined one.0 m t before frames one.2 other)

-- the frames from a place on
pub views_left : (frames : List (Vec ℕ Global)) (i : ℕ) (f d : Vec ℕ Global) → f ≡ get_or frames i d → i < length frames → views (drop i frames) ≡ f.items ∷ views (drop (i + 1) frames)
views_left [] i f d is within = absurd (omega arith)
views_left (x ∷ frames) zero f d is within = ap (λ (y : Vec ℕ Global). y.items ∷ views frames) (sym is)
views_left (x ∷ frames) (suc i) f d is within =
    let next : i + 1 ≡ suc i = omega arith in
    views_left frames i f d is (omega arith) ∙ ap (λ k. f.items ∷ views (drop k frames)) next ∙ ap (λ k. f.items ∷ views (drop k (x ∷ frames))) (behind i)
  where
    behind : (k : ℕ) → suc (suc k) ≡ suc k + 1
    behind k = omega arith

pub views_none : (frames : List (Vec ℕ Global)) (i : ℕ) → length frames ≤ i → views (drop i frames) ≡ []
views_none [] zero past = refl
views_none [] (suc i) past = refl
views_none (x ∷ frames) zero past = absurd (omega arith)
views_none (x ∷ frames) (suc i) past = views_none frames i (omega arith)

pub views_append : (xs ys : List (Vec ℕ Global)) → views (xs ++ ys) ≡ views xs ++ views ys
views_append [] ys = refl
views_append (x ∷ xs) ys = ap (λ (l : List (List ℕ)). x.items ∷ l) (views_append xs ys)
