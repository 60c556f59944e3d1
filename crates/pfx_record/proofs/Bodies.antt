-- The records of a body, as they are read, and what else may stand there.
use Rattle.std.proofs.Common.{◌≡◌, ◌≤◌, ◌<◌, inl, inr, ℕ, ◌+◌, ◌*◌, ◌^◌, ◌&&◌, ◌==◌, ◌⊎◌, Bool, true, false, nat_lt, nat_le, List, [], ◌∷◌, ◌++◌, length, take, drop, refl, sym, ◌∙◌, ap, ap₂, subst, arith, Option, Some, None, append-nil, length-append, length-drop, length-take, eqb-true}
use Rattle.std.specs.Bool.{IsTrue}
use Rattle.std.specs.List.{list_all}
use Rattle.std.proofs.lemmas.Bool.{ltb-true, leb-true, true≢false}
use Rattle.std.proofs.lemmas.List.{take_all}
use Rattle.std.proofs.Math.Nat.{mul-le-mul_left, le-max_left, le-max_right}
use Rattle.std.proofs.lemmas.List.Folds.{list_all-append}
use Rattle.pfx_jobs.specs.Kind.{Kind, Laws}
use Rattle.pfx_weights.specs.Bytes.{weight_bytes}
use Rattle.pfx_record.specs.Begins.{Begins, joined}
use Rattle.pfx_record.specs.Numbers.{number_bytes}
use Rattle.pfx_record.specs.Records.{Recorded, form_of, is_small, takes_weights, submitted, ran, withdrawn, reweighed, rises_from, tasks_of, state_bytes, place_bytes, row_bytes, record_bytes, record_fits, records_bytes}
use Rattle.pfx_record.specs.Batches.{PlainBatch, all_fit, batch_bytes, batch_fits, batch_most, counts_fit, head_bytes}
use Rattle.pfx_record.specs.Reading.{AreRecords, IsBatch, IsDamaged, IsHead, IsRecord, NoBatch, NoRecord, StopAt, body_of}
use Rattle.pfx_record.specs.declared.faults.FramePart.{FramePart}
use Rattle.pfx_record.specs.declared.form.Form.{Form}
use Rattle.pfx_record.specs.declared.faults.FramePart.TheVariants.{Frame, Record}
use Rattle.pfx_record.specs.declared.record.Place.{Place}
use Rattle.pfx_record.proofs.Rising.{both, of_both}
use Rattle.pfx_record.proofs.Again.{length-number_bytes}
use Rattle.pfx_record.proofs.Fronts.{Each, goes_on, joined-push, begins_take, begins_left, begins_join, begins_behind, begins_with, begins_head, begins_tail, begins_len, taken_begins}
use Rattle.pfx_record.proofs.Spellings.{same_number, same_job, same_place}
use Rattle.pfx_record.proofs.Rows.{IsSmall, small_tasks}
use Rattle.pfx_record.proofs.Heads.{length-head, counts_of, same_numbers, parts_of}

-- ---- weights

abbrev pub SmallWeight : ℕ × ℕ → Type 0
SmallWeight w = (w.0 < 2 ^ 32) × (w.1 < 2 ^ 32)

pub each_small : (ws : List (ℕ × ℕ)) → IsTrue (list_all is_small ws) → Each SmallWeight ws
each_small [] h = tt
each_small (w ∷ ws) h =
    let parts = both (is_small w) (list_all is_small ws) h in
    let one = both (nat_lt w.0 (2 ^ 32)) (nat_lt w.1 (2 ^ 32)) parts.0 in
    ((ltb-true w.0 (2 ^ 32) one.0, ltb-true w.1 (2 ^ 32) one.1), each_small ws parts.1)

pub weights_len : (ws : List (ℕ × ℕ)) → length (joined weight_bytes ws) ≡ 8 * length ws
unfolding number_bytes
weights_len [] = omega arith
weights_len (w ∷ ws) =
    omega (arith, length-append (weight_bytes w) (joined weight_bytes ws), length-append (number_bytes 4 w.0) (number_bytes 4 w.1), length-number_bytes 4 w.0, length-number_bytes 4 w.1, weights_len ws)

same_weight : (bytes : List ℕ) (w v : ℕ × ℕ) → SmallWeight w → SmallWeight v → Begins bytes (weight_bytes w) → Begins bytes (weight_bytes v) → w ≡ v
unfolding number_bytes
same_weight bytes w v small small' b c =
    let first : w.0 ≡ v.0 = same_number 4 bytes w.0 v.0 (omega (arith, small.0)) (omega (arith, small'.0)) (begins_left bytes (number_bytes 4 w.0) (number_bytes 4 w.1) b) (begins_left bytes (number_bytes 4 v.0) (number_bytes 4 v.1) c) in
    let second : w.1 ≡ v.1 = same_number 4 (drop 4 bytes) w.1 v.1 (omega (arith, small.1)) (omega (arith, small'.1))
    (begins_behind 4 bytes (number_bytes 4 w.0) (number_bytes 4 w.1) (length-number_bytes 4 w.0) b) (begins_behind 4 bytes (number_bytes 4 v.0) (number_bytes 4 v.1) (length-number_bytes 4 v.0) c) in
    λ i. (first i, second i)

same_weights : (bytes : List ℕ) (ws vs : List (ℕ × ℕ)) → length ws ≡ length vs → Each SmallWeight ws → Each SmallWeight vs → Begins bytes (joined weight_bytes ws) → Begins bytes (joined weight_bytes vs) → ws ≡ vs
same_weights bytes ws vs long small small' b c =
    let more = goes_on weight_bytes SmallWeight same_weight bytes ws vs small small' (omega (arith, long)) b c in
    last more.0 more.1
  where
    last : (zs : List (ℕ × ℕ)) → vs ≡ ws ++ zs → ws ≡ vs
    last [] is = sym (is ∙ append-nil ws)
    last (z ∷ zs) is = absurd (omega (arith, long, ap length is, length-append ws (z ∷ zs)))

-- ---- a record is known by its bytes

module _ {J : Type 0} (K : Kind J) (L : Laws K) (form : Form) where
  abbrev pub Fits : Recorded J → Type 0
  Fits read = IsTrue (record_fits form read)

  pub each_fits : (read : List (Recorded J)) → IsTrue (all_fit form read) → Each Fits read
  each_fits [] h = tt
  each_fits (first ∷ read) h = let parts = both (record_fits form first) (all_fit form read) h in (parts.0, each_fits read parts.1)

  same_row : (bytes : List ℕ) (row other : List (Place J)) → Fits (ran row) → Fits (ran other) → Begins bytes (row_bytes K row) → Begins bytes (row_bytes K other) → row ≡ other
  same_row bytes row other fits_row fits_other b c =
      let parts = both (length row == form.workers) (rises_from 0 (tasks_of row)) fits_row in
      let others = both (length other == form.workers) (rises_from 0 (tasks_of other)) fits_other in
      let long : length row ≡ length other = eqb-true (length row) form.workers parts.0 ∙ sym (eqb-true (length other) form.workers others.0) in
      let more = goes_on (place_bytes K) IsSmall (same_place K L) bytes row other (small_tasks 0 row parts.1) (small_tasks 0 other others.1) (omega (arith, long)) b c in
      last more.0 more.1 long
    where
      last : (zs : List (Place J)) → other ≡ row ++ zs → length row ≡ length other → row ≡ other
      last [] is long = sym (is ∙ append-nil row)
      last (z ∷ zs) is long = absurd (omega (arith, long, ap length is, length-append row (z ∷ zs)))

  -- what the form says of new weights
  pub record New (m : ℕ) (ws : List (ℕ × ℕ)) : Type 0 where
    pub alone : form.alone ≡ true
    pub long : length ws ≡ form.real
    pub most : form.real ≤ 1024
    pub small : Each SmallWeight ws

  pub fits_new : (m : ℕ) (ws : List (ℕ × ℕ)) → Fits (reweighed m ws) → New m ws
  fits_new m ws fits =
      let all = both (takes_weights form) _ fits in
      let counts = both form.alone _ all.0 in
      let most = both (nat_lt 0 form.real) (nat_le form.real 1024) counts.1 in
      let rest = both (length ws == form.real) _ all.1 in
      let last = both (nat_lt m 256) (list_all is_small ws) rest.1 in
      record { alone = counts.0; long = eqb-true (length ws) form.real rest.0; most = leb-true form.real 1024 most.1; small = each_small ws last.1 }

  pub same_record : (bytes : List ℕ) (read other : Recorded J) → Fits read → Fits other → Begins bytes (record_bytes K read) → Begins bytes (record_bytes K other) → read ≡ other
  same_record bytes (submitted task job) (submitted task' job') fits fits' b c =
      let tail = begins_tail bytes 1 (number_bytes 2 task ++ K.spelling job) b in
      let tail' = begins_tail bytes 1 (number_bytes 2 task' ++ K.spelling job') c in
      let tasks : task ≡ task' = same_number 2 (drop 1 bytes) task task' (omega (arith, ltb-true task (2 ^ 16) fits)) (omega (arith, ltb-true task' (2 ^ 16) fits')) (begins_left (drop 1 bytes) (number_bytes 2 task) (K.spelling job) tail) (begins_left (drop 1 bytes) (number_bytes 2 task') (K.spelling job') tail') in
      let jobs : job ≡ job' = same_job K L (drop 2 (drop 1 bytes)) job job' (begins_behind 2 (drop 1 bytes) (number_bytes 2 task) (K.spelling job) (length-number_bytes 2 task) tail) (begins_behind 2 (drop 1 bytes) (number_bytes 2 task') (K.spelling job') (length-number_bytes 2 task') tail') in
      ap₂ (λ (t : ℕ) (j : J). submitted t j) tasks jobs
  same_record bytes (submitted task job) (ran row) fits fits' b c = absurd (omega (arith, begins_head bytes 1 _ b, begins_head bytes 2 _ c))
  same_record bytes (submitted task job) (withdrawn task') fits fits' b c = absurd (omega (arith, begins_head bytes 1 _ b, begins_head bytes 3 _ c))
  same_record bytes (ran row) (submitted task job) fits fits' b c = absurd (omega (arith, begins_head bytes 2 _ b, begins_head bytes 1 _ c))
  same_record bytes (ran row) (ran other) fits fits' b c = ap (λ (l : List (Place J)). ran l) (same_row (drop 1 bytes) row other fits fits' (begins_tail bytes 2 (row_bytes K row) b) (begins_tail bytes 2 (row_bytes K other) c))
  same_record bytes (ran row) (withdrawn task) fits fits' b c = absurd (omega (arith, begins_head bytes 2 _ b, begins_head bytes 3 _ c))
  same_record bytes (withdrawn task) (submitted task' job) fits fits' b c = absurd (omega (arith, begins_head bytes 3 _ b, begins_head bytes 1 _ c))
  same_record bytes (withdrawn task) (ran row) fits fits' b c = absurd (omega (arith, begins_head bytes 3 _ b, begins_head bytes 2 _ c))
  same_record bytes (withdrawn task) (withdrawn task') fits fits' b c =
      ap (λ (t : ℕ). withdrawn t) (same_number 2 (drop 1 bytes) task task' (omega (arith, ltb-true task (2 ^ 16) fits)) (omega (arith, ltb-true task' (2 ^ 16) fits')) (begins_tail bytes 3 (number_bytes 2 task) b) (begins_tail bytes 3 (number_bytes 2 task') c))
  same_record bytes (submitted task job) (reweighed m ws) fits fits' b c = absurd (omega (arith, begins_head bytes 1 _ b, begins_head bytes 4 _ c))
  same_record bytes (ran row) (reweighed m ws) fits fits' b c = absurd (omega (arith, begins_head bytes 2 _ b, begins_head bytes 4 _ c))
  same_record bytes (withdrawn task) (reweighed m ws) fits fits' b c = absurd (omega (arith, begins_head bytes 3 _ b, begins_head bytes 4 _ c))
  same_record bytes (reweighed m ws) (submitted task job) fits fits' b c = absurd (omega (arith, begins_head bytes 4 _ b, begins_head bytes 1 _ c))
  same_record bytes (reweighed m ws) (ran row) fits fits' b c = absurd (omega (arith, begins_head bytes 4 _ b, begins_head bytes 2 _ c))
  same_record bytes (reweighed m ws) (withdrawn task) fits fits' b c = absurd (omega (arith, begins_head bytes 4 _ b, begins_head bytes 3 _ c))
  same_record bytes (reweighed m ws) (reweighed n vs) fits fits' b c =
      let one = fits_new m ws fits in
      let two = fits_new n vs fits' in
      let tail = begins_tail bytes 4 (m ∷ joined weight_bytes ws) b in
      let tail' = begins_tail bytes 4 (n ∷ joined weight_bytes vs) c in
      let same : m ≡ n = sym (begins_head (drop 1 bytes) m (joined weight_bytes ws) tail) ∙ begins_head (drop 1 bytes) n (joined weight_bytes vs) tail' in
      ap₂ (λ (k : ℕ) (l : List (ℕ × ℕ)). reweighed k l) same
      (same_weights (drop 1 (drop 1 bytes)) ws vs (omega (arith, one.long, two.long)) one.small two.small (begins_tail (drop 1 bytes) m _ tail) (begins_tail (drop 1 bytes) n _ tail'))

  -- ---- how long they are

  place_len : (place : Place J) → length (place_bytes K place) ≤ 131
  place_len place = omega (arith, length-append (number_bytes 2 place.task) (state_bytes K place.state), length-number_bytes 2 place.task, state_len place.state)
    where
      state_len : (o : Option J) → length (state_bytes K o) ≤ 129
      state_len None = omega arith
      state_len (Some s) = omega (arith, L.long s)

  row_len : (row : List (Place J)) → length (row_bytes K row) ≤ 131 * length row
  row_len [] = omega arith
  row_len (place ∷ row) = omega (arith, length-append (place_bytes K place) (row_bytes K row), place_len place, row_len row)

  record_len : (read : Recorded J) → form.workers ≤ 64 → Fits read → length (record_bytes K read) ≤ 8385
  record_len (submitted task job) few fits = omega (arith, length-append (number_bytes 2 task) (K.spelling job), length-number_bytes 2 task, L.long job)
  record_len (ran row) few fits = let parts = both (length row == form.workers) (rises_from 0 (tasks_of row)) fits in omega (arith, few, row_len row, eqb-true (length row) form.workers parts.0)
  record_len (withdrawn task) few fits = omega (arith, length-number_bytes 2 task)
  record_len (reweighed m ws) few fits = let new = fits_new m ws fits in omega (arith, new.long, new.most, weights_len ws)

  pub records_len : (read : List (Recorded J)) → form.workers ≤ 64 → IsTrue (all_fit form read) → length (records_bytes K read) ≤ 8385 * length read
  records_len [] few fit = omega arith
  records_len (first ∷ read) few fit =
      let parts = both (record_fits form first) (all_fit form read) fit in
      omega (arith, length-append (record_bytes K first) (records_bytes K read), record_len first few parts.0, records_len read few parts.1)

  -- a record that isn't of new weights; one that is
  record_short : (read : Recorded J) → form.alone ≡ false → 0 < form.workers → Fits read → length (record_bytes K read) ≤ 1 + 131 * form.workers
  record_short (submitted task job) many some fits = omega (arith, some, length-append (number_bytes 2 task) (K.spelling job), length-number_bytes 2 task, L.long job)
  record_short (ran row) many some fits = let parts = both (length row == form.workers) (rises_from 0 (tasks_of row)) fits in omega (arith, row_len row, eqb-true (length row) form.workers parts.0)
  record_short (withdrawn task) many some fits = omega (arith, some, length-number_bytes 2 task)
  record_short (reweighed m ws) many some fits = absurd (true≢false (sym (fits_new m ws fits).alone ∙ many))

  pub records_short : (read : List (Recorded J)) → form.alone ≡ false → 0 < form.workers → IsTrue (all_fit form read) → length (records_bytes K read) ≤ length read + 131 * (form.workers * length read)
  records_short [] many some fit = omega arith
  records_short (first ∷ read) many some fit =
      let parts = both (record_fits form first) (all_fit form read) fit in
      omega (arith, length-append (record_bytes K first) (records_bytes K read), record_short first many some parts.0, records_short read many some parts.1)

  pub one_short : (read : Recorded J) → 0 < form.workers → Fits read → (length (record_bytes K read) ≤ 16 + 2096 * form.workers) ⊎ (length (record_bytes K read) ≤ 2 + 8 * form.real)
  one_short (submitted task job) some fits = inl (omega (arith, some, length-append (number_bytes 2 task) (K.spelling job), length-number_bytes 2 task, L.long job))
  one_short (ran row) some fits = let parts = both (length row == form.workers) (rises_from 0 (tasks_of row)) fits in inl (omega (arith, row_len row, eqb-true (length row) form.workers parts.0))
  one_short (withdrawn task) some fits = inl (omega (arith, some, length-number_bytes 2 task))
  one_short (reweighed m ws) some fits = let new = fits_new m ws fits in inr (omega (arith, new.long, weights_len ws))

  -- ---- the records that were read

  pub record SoFar (body : List ℕ) (read : List (Recorded J)) (at : ℕ) : Type 0 where
    pub fit : IsTrue (all_fit form read)
    pub stands : Begins body (records_bytes K read)
    pub place : at ≡ length (records_bytes K read)

  module _ (body : List ℕ) where
    pub so_far_begins : SoFar body [] 0
    so_far_begins = record { fit = refl; stands = record { rest = body; is = refl }; place = refl }

    pub so_far_inside : (read : List (Recorded J)) (at : ℕ) → SoFar body read at → at ≤ length body
    so_far_inside read at so_far = omega (arith, so_far.place, begins_len body (records_bytes K read) so_far.stands)

    pub record_inside : (at : ℕ) (next : Recorded J) (taken : ℕ) → at ≤ length body → IsRecord K form (drop at body) next taken → at + taken ≤ length body
    record_inside at next taken inside is = omega (arith, inside, is.long, begins_len (drop at body) (record_bytes K next) is.begins, length-drop at body)

    pub so_far_more : (read : List (Recorded J)) (at : ℕ) (next : Recorded J) (taken : ℕ) → SoFar body read at → IsRecord K form (drop at body) next taken → SoFar body (read ++ next ∷ []) (at + taken)
    so_far_more read at next taken so_far is =
        let whole : records_bytes K (read ++ next ∷ []) ≡ records_bytes K read ++ record_bytes K next = joined-push (record_bytes K) read next in
        let both_fit : IsTrue (all_fit form read && list_all (record_fits form) (next ∷ [])) = of_both (all_fit form read) _ so_far.fit (of_both (record_fits form next) _ is.fits refl) in
        record {
          fit = list_all-append (record_fits form) read (next ∷ []) ∙ both_fit;
          stands = subst (λ (l : List ℕ). Begins body l) (sym whole) (begins_join body (records_bytes K read) (record_bytes K next) so_far.stands
              (subst (λ (k : ℕ). Begins (drop k body) (record_bytes K next)) so_far.place is.begins));
          place = omega (arith, so_far.place, is.long, ap length whole, length-append (records_bytes K read) (record_bytes K next));
        }

    pub stop_short : (read : List (Recorded J)) (at count : ℕ) → SoFar body read at → length read < count → NoRecord K form (drop at body) → StopAt K form body count (15 + at) Record
    stop_short read at count so_far short none = (
      read,
      record { fit = so_far.fit; begins = so_far.stands; next = inl (short, subst (λ (k : ℕ). NoRecord K form (drop k body)) so_far.place none) },
      ap (λ (k : ℕ). 15 + k) so_far.place,
    )

    pub stop_over : (read : List (Recorded J)) (at count : ℕ) → SoFar body read at → length read ≡ count → at < length body → StopAt K form body count (15 + at) Record
    stop_over read at count so_far all over = (
      read,
      record { fit = so_far.fit; begins = so_far.stands; next = inr (all, omega (arith, over, so_far.place)) },
      ap (λ (k : ℕ). 15 + k) so_far.place,
    )

    pub all_read : (read : List (Recorded J)) (at count : ℕ) → SoFar body read at → length read ≡ count → length body ≤ at → AreRecords K form body count read
    all_read read at count so_far all end = record { fit = so_far.fit; begins = so_far.stands; number = all; whole = omega (arith, end, so_far.place, so_far_inside read at so_far) }

-- ---- batches

module _ {J : Type 0} (K : Kind J) (L : Laws K) (workers real : ℕ) where
  pub record Short (first : ℕ) (read : List (Recorded J)) : Type 0 where
    pub body : (length (records_bytes K read) ≤ 16 + 2096 * workers) ⊎ (length (records_bytes K read) ≤ 2 + 8 * real)
    pub small : length (records_bytes K read) < 2 ^ 32
    pub few : workers ≤ 64
    pub number : length read ≤ 16
    pub whole : length (batch_bytes K (record { first = first; records = read })) ≡ 15 + length (records_bytes K read)

  body_by : (read : List (Recorded J)) (b : Bool) → (length read == 1) ≡ b → 0 < workers → length read ≤ 16 → IsTrue (all_fit (form_of workers real (length read)) read) →
      (length (records_bytes K read) ≤ 16 + 2096 * workers) ⊎ (length (records_bytes K read) ≤ 2 + 8 * real)
  body_by read false is some few fit = inl (omega (arith, records_short K L (form_of workers real (length read)) read is some fit, mul-le-mul_left workers few, few))
  body_by [] true is some few fit = inl (omega arith)
  body_by (one ∷ []) true is some few fit =
      let parts = both (record_fits (form_of workers real 1) one) true fit in
      elim (one_short K L (form_of workers real 1) one some parts.0) [
        | inl low ↦ inl (omega (arith, low, length-append (record_bytes K one) []))
        | inr low ↦ inr (omega (arith, low, length-append (record_bytes K one) []))
      ]
  body_by (one ∷ two ∷ read) true is some few fit = absurd (omega (arith, eqb-true (length (one ∷ two ∷ read)) 1 is))

  pub short_batch : (first : ℕ) (read : List (Recorded J)) → IsTrue (batch_fits workers real (record { first = first; records = read })) → Short first read
  unfolding batch_bytes
  short_batch first read fits =
      let parts = both (counts_fit workers first (length read)) (all_fit (form_of workers real (length read)) read) fits in
      let counts = counts_of workers first (length read) parts.0 in
      record {
        body = body_by read (length read == 1) refl counts.some_workers counts.few parts.1;
        small = omega (arith, counts.few, records_len K L (form_of workers real (length read)) read counts.few_workers parts.1);
        few = counts.few_workers;
        number = counts.few;
        whole = omega (arith, length-append (head_bytes (length (records_bytes K read)) first (length read)) (records_bytes K read), length-head (length (records_bytes K read)) first (length read));
      }

  -- it is at most as long as the longest one
  pub short_most : (first : ℕ) (read : List (Recorded J)) → Short first read → 15 + length (records_bytes K read) ≤ batch_most workers real
  short_most first read short = elim short.body [
    | inl rows ↦ omega (arith, rows, le-max_left (31 + 2096 * workers) (17 + 8 * real))
    | inr new ↦ omega (arith, new, le-max_right (31 + 2096 * workers) (17 + 8 * real))
  ]

  module _ (bytes : List ℕ) where
    head_of : (batch : PlainBatch J) → IsTrue (batch_fits workers real batch) → Begins bytes (batch_bytes K batch) → IsHead workers bytes (length (records_bytes K batch.records)) batch.first (length batch.records)
    unfolding batch_bytes
    head_of batch fits b =
        let body = records_bytes K batch.records in
        let head = head_bytes (length body) batch.first (length batch.records) in
        let parts = both (counts_fit workers batch.first (length batch.records)) (all_fit (form_of workers real (length batch.records)) batch.records) fits in
        let counts = counts_of workers batch.first (length batch.records) parts.0 in
        record {
          short = omega (arith, counts.few, records_len K L (form_of workers real (length batch.records)) batch.records counts.few_workers parts.1);
          begins = begins_left bytes head body b;
          counts = parts.0;
          whole = omega (arith, begins_len bytes (head ++ body) b, length-append head body, length-head (length body) batch.first (length batch.records));
        }

    body_behind : (batch : PlainBatch J) → Begins bytes (batch_bytes K batch) → Begins (drop 15 bytes) (records_bytes K batch.records)
    unfolding batch_bytes
    body_behind batch b =
        let body = records_bytes K batch.records in
        begins_behind 15 bytes (head_bytes (length body) batch.first (length batch.records)) body (length-head (length body) batch.first (length batch.records)) b

    pub no_head : ((len first count : ℕ) → IsHead workers bytes len first count → ⊥) → NoBatch K workers real bytes
    no_head none other fits b = none _ _ _ (head_of other fits b)

    module _ (len first count : ℕ) (head : IsHead workers bytes len first count) where
      pub same_as : (batch : PlainBatch J) → IsTrue (batch_fits workers real batch) → Begins bytes (batch_bytes K batch) → (length (records_bytes K batch.records) ≡ len) × (batch.first ≡ first) × (length batch.records ≡ count)
      same_as batch fits b =
          let parts = parts_of bytes len first count head.begins in
          let counts = counts_of workers first count head.counts in
          let same = same_numbers workers bytes len first count _ _ _ head.short (omega (arith, counts.last)) (omega (arith, counts.few)) parts.len_at parts.first_at parts.count_at (head_of batch fits b) in
          (same.lens, same.firsts, same.counts)

      body_is : (batch : PlainBatch J) → IsTrue (batch_fits workers real batch) → Begins bytes (batch_bytes K batch) → body_of len bytes ≡ records_bytes K batch.records
      body_is batch fits b = ap (λ (k : ℕ). take k (drop 15 bytes)) (sym (same_as batch fits b).0) ∙ begins_take (drop 15 bytes) (records_bytes K batch.records) (body_behind batch b)

      -- records at the front of the body are those of the batch
      pub goes : (read : List (Recorded J)) (batch : PlainBatch J) → IsTrue (batch_fits workers real batch) → Begins bytes (batch_bytes K batch) → IsTrue (all_fit (form_of workers real count) read) → Begins (body_of len bytes) (records_bytes K read) → length read ≤ count
          → (zs : List (Recorded J)) × (batch.records ≡ read ++ zs) × Begins (drop (length (records_bytes K read)) (body_of len bytes)) (records_bytes K zs)
      goes read batch fits b fit begins long =
          let parts = both (counts_fit workers batch.first (length batch.records)) (all_fit (form_of workers real (length batch.records)) batch.records) fits in
          let whole : Begins (body_of len bytes) (records_bytes K batch.records) = record { rest = []; is = body_is batch fits b ∙ sym (append-nil (records_bytes K batch.records)) } in
          let form = form_of workers real count in
          let all : IsTrue (all_fit form batch.records) = subst (λ (n : ℕ). IsTrue (all_fit (form_of workers real n) batch.records)) (same_as batch fits b).2 parts.1 in
          goes_on (record_bytes K) (Fits K L form) (same_record K L form) (body_of len bytes) read batch.records (each_fits K L form read fit) (each_fits K L form batch.records all) (omega (arith, long, (same_as batch fits b).2)) begins whole

      no_short : (read : List (Recorded J)) → IsTrue (all_fit (form_of workers real count) read) → Begins (body_of len bytes) (records_bytes K read) → length read < count
          → NoRecord K (form_of workers real count) (drop (length (records_bytes K read)) (body_of len bytes)) → NoBatch K workers real bytes
      no_short read fit begins short none other fits b =
          let more = goes read other fits b fit begins (omega (arith, short)) in
          let parts = both (counts_fit workers other.first (length other.records)) (all_fit (form_of workers real (length other.records)) other.records) fits in
          last more.0 more.1 more.2 (same_as other fits b).2 (subst (λ (n : ℕ). IsTrue (all_fit (form_of workers real n) other.records)) (same_as other fits b).2 parts.1)
        where
          last : (zs : List (Recorded J)) → other.records ≡ read ++ zs → Begins (drop (length (records_bytes K read)) (body_of len bytes)) (records_bytes K zs) → length other.records ≡ count → IsTrue (all_fit (form_of workers real count) other.records) → ⊥
          last [] is behind number all = omega (arith, short, number, ap length (is ∙ append-nil read))
          last (z ∷ zs) is behind number all =
              let halves = both (all_fit (form_of workers real count) read) (all_fit (form_of workers real count) (z ∷ zs)) (sym (ap (λ (l : List (Recorded J)). all_fit (form_of workers real count) l) is ∙ list_all-append (record_fits (form_of workers real count)) read (z ∷ zs)) ∙ all) in
              none z (both (record_fits (form_of workers real count) z) (all_fit (form_of workers real count) zs) halves.1).0 (begins_left _ (record_bytes K z) (records_bytes K zs) behind)

      no_over : (read : List (Recorded J)) → IsTrue (all_fit (form_of workers real count) read) → Begins (body_of len bytes) (records_bytes K read) → length read ≡ count
          → length (records_bytes K read) < length (body_of len bytes) → NoBatch K workers real bytes
      no_over read fit begins all over other fits b =
          let more = goes read other fits b fit begins (omega (arith, all)) in
          last more.0 more.1 (same_as other fits b).2 (body_is other fits b)
        where
          last : (zs : List (Recorded J)) → other.records ≡ read ++ zs → length other.records ≡ count → body_of len bytes ≡ records_bytes K other.records → ⊥
          last [] is number body = omega (arith, over, ap length body, ap (λ (l : List (Recorded J)). length (records_bytes K l)) (is ∙ append-nil read))
          last (z ∷ zs) is number body = omega (arith, all, number, ap length is, length-append read (z ∷ zs))

      pub no_records : (at : ℕ) (what : FramePart) → StopAt K (form_of workers real count) (body_of len bytes) count at what → NoBatch K workers real bytes
      no_records at Frame stop = absurd stop
      no_records at Record stop = elim stop.1.next [
        | inl short ↦ no_short stop.0 stop.1.fit stop.1.begins short.0 short.1
        | inr over ↦ no_over stop.0 stop.1.fit stop.1.begins over.0 over.1
      ]

      pub damaged : (at : ℕ) (what : FramePart) → StopAt K (form_of workers real count) (body_of len bytes) count at what → IsDamaged K workers real bytes at what
      damaged at Frame stop = absurd stop
      damaged at Record stop = (len, first, count, stop.0, head, stop.1, stop.2)

      pub is_batch : (read : List (Recorded J)) → AreRecords K (form_of workers real count) (body_of len bytes) count read → IsBatch K workers real bytes (record { first = first; records = read }) (15 + len)
      unfolding batch_bytes
      is_batch read are =
          let body : records_bytes K read ≡ body_of len bytes = sym (begins_take (body_of len bytes) (records_bytes K read) are.begins) ∙ ap (λ (k : ℕ). take k (body_of len bytes)) are.whole ∙ take_all (length (body_of len bytes)) (body_of len bytes) (omega arith) in
          let long : length (body_of len bytes) ≡ len = omega (arith, length-take len (drop 15 bytes), length-drop 15 bytes, head.whole) in
          let same : length (records_bytes K read) ≡ len = ap length body ∙ long in
          let head_is : head_bytes len first count ≡ head_bytes (length (records_bytes K read)) first (length read) = ap₂ (λ (k n : ℕ). head_bytes k first n) (sym same) (sym are.number) in
          record {
            fits = of_both (counts_fit workers first (length read)) _ (ap (λ (n : ℕ). counts_fit workers first n) are.number ∙ head.counts) (subst (λ (n : ℕ). IsTrue (all_fit (form_of workers real n) read)) (sym are.number) are.fit);
            begins = begins_with 15 bytes (head_bytes (length (records_bytes K read)) first (length read)) (records_bytes K read) (length-head (length (records_bytes K read)) first (length read))
                (subst (λ (l : List ℕ). Begins bytes l) head_is head.begins)
                (subst (λ (l : List ℕ). Begins (drop 15 bytes) l) (sym body) (taken_begins len (drop 15 bytes)));
            long = omega (arith, same, length-append (head_bytes (length (records_bytes K read)) first (length read)) (records_bytes K read), length-head (length (records_bytes K read)) first (length read));
          }

    -- bytes begin with one batch at most
    pub one_batch : (batch other : PlainBatch J) → IsTrue (batch_fits workers real batch) → IsTrue (batch_fits workers real other) → Begins bytes (batch_bytes K batch) → Begins bytes (batch_bytes K other) → other ≡ batch
    one_batch batch other fits fits' b c =
        let len = length (records_bytes K batch.records) in
        let head = head_of batch fits b in
        let same = same_as len batch.first (length batch.records) head other fits' c in
        let parts = both (counts_fit workers batch.first (length batch.records)) (all_fit (form_of workers real (length batch.records)) batch.records) fits in
        let mine : Begins (body_of len bytes) (records_bytes K batch.records) = record { rest = []; is = body_is len batch.first (length batch.records) head batch fits b ∙ sym (append-nil (records_bytes K batch.records)) } in
        let more = goes len batch.first (length batch.records) head batch.records other fits' c parts.1 mine (omega arith) in
        let made : ℕ → List (Recorded J) → PlainBatch J = λ n l. record { first = n; records = l } in
        ap₂ made same.1 (last more.0 more.1 same.2)
      where
        last : (zs : List (Recorded J)) → other.records ≡ batch.records ++ zs → length other.records ≡ length batch.records → other.records ≡ batch.records
        last [] is long = is ∙ append-nil batch.records
        last (z ∷ zs) is long = absurd (omega (arith, long, ap length is, length-append batch.records (z ∷ zs)))
