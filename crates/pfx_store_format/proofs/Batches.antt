-- A batch is in its spelling, and what is found in bytes is spelled by them.
use Rattle.std.specs.Prelude.{◌≡◌, ℕ, ◌+◌, ◌<◌, ◌^◌, ◌==◌, ◌&&◌, nat_lt, if◌then◌else◌, Bool, true, false, List, [], ◌∷◌, ◌++◌, length, take, drop, Option, Some, None, IsTrue, All, refl}
use Rattle.std.specs.List.{list_all}
use Rattle.std.specs.Str.{bytes_eq}
use Rattle.std.proofs.Common.{sym, ◌∙◌, ap, ap₂, arith, append_assoc, append-nil, length-append, subst}
use Rattle.std.proofs.Math.Seq.{take-append_seam, drop-append_seam}
use Rattle.std.proofs.lemmas.Bool.{cond-true, eqb-true, ltb-true}
use Rattle.std.proofs.lemmas.Option.{none-some}
use Rattle.byteorder.specs.Endian.{little_number}
use Rattle.byteorder.specs.Numbers.{little_number-reads_back}
use Rattle.pfx_checkpoint.specs.Whole.{if_some}
use Rattle.pfx_jobs.proofs.Codings.{bytes_eq-same, bytes_eq-true}
use Rattle.pfx_jobs.specs.Kind.{Kind, Laws}
use Rattle.pfx_record.specs.Batches.{PlainBatch, all_fit, batch_bytes, batch_fits, counts_fit, head_bytes}
use Rattle.pfx_record.specs.Begins.{joined}
use Rattle.pfx_record.specs.Numbers.{number_bytes}
use Rattle.pfx_record.specs.Records.{Recorded, form_of, is_small, submitted, ran, withdrawn, reweighed, place_bytes, record_bytes, record_fits, records_bytes, rises_from, row_bytes, state_bytes, takes_weights, tasks_of}
use Rattle.pfx_record.specs.declared.record.Place.{Place}
use Rattle.pfx_record.proofs.Again.{length-number_bytes}
use Rattle.pfx_record.proofs.Heads.{counts_of, length-head, parts_of}
use Rattle.pfx_record.proofs.Rising.{both, of_both, rises}
use Rattle.pfx_weights.specs.Bytes.{weight_bytes, weights_bytes, weights_of}
use Rattle.pfx_weights.proofs.Tests.{all_from}
use Rattle.pfx_weights.proofs.Written.{Small, weights_back}
use Rattle.pfx_store_format.specs.Batches.{batch_in, begun, checked, count_in, first_in, place_at, record_at, records_at, row_at, state_at}

pub if_some_is : {A B : Type 0} (o : Option A) (a : A) (f : A → Option B) → o ≡ Some a → if_some o f ≡ f a
if_some_is o a f is = ap (λ r. if_some r f) is

pub if_some_back : {A B : Type 0} (o : Option A) (f : A → Option B) (b : B) → if_some o f ≡ Some b → (a : A) × (o ≡ Some a) × (f a ≡ Some b)
if_some_back None f b h = absurd (none-some b h)
if_some_back (Some a) f b h = (a, refl, h)

pub some_same : {A : Type 0} (a b : A) → Some a ≡ Some b → a ≡ b
some_same a b h = ap (λ o. elim o [ Some x ↦ x | None ↦ a ]) h

-- numbers, and what stands behind them

pub number_there : (n x : ℕ) (rest : List ℕ) → x < 256 ^ n → little_number n (number_bytes n x ++ rest) ≡ x
unfolding number_bytes
number_there n x rest small = little_number-reads_back n x rest small

behind : (xs rest : List ℕ) (n : ℕ) → length xs ≡ n → drop n (xs ++ rest) ≡ rest
behind xs rest n long = ap (λ k. drop k (xs ++ rest)) (sym long) ∙ drop-append_seam xs rest

front : (xs rest : List ℕ) (n : ℕ) → length xs ≡ n → take n (xs ++ rest) ≡ xs
front xs rest n long = ap (λ k. take k (xs ++ rest)) (sym long) ∙ take-append_seam xs rest

joined_is : (ws : List (ℕ × ℕ)) → joined weight_bytes ws ≡ weights_bytes ws
joined_is [] = refl
joined_is (w ∷ ws) = ap (λ (l : List ℕ). weight_bytes w ++ l) (joined_is ws)

module _ {J : Type 0} (K : Kind J) (L : Laws K) where
  job_there : (s : J) (rest : List ℕ) → K.decoded (take 128 (K.spelling s ++ rest)) ≡ Some s
  job_there s rest = ap K.decoded (front (K.spelling s) rest 128 (L.long s)) ∙ L.round_trip s

  state_there : (o : Option J) (rest : List ℕ) → state_at K (state_bytes K o ++ rest) ≡ Some o
  state_there None rest = refl
  state_there (Some s) rest = if_some_is _ s (λ t. Some (Some t)) (job_there s rest)

  place_there : (place : Place J) (rest : List ℕ) → place.task < 2 ^ 16 → place_at K (place_bytes K place ++ rest) ≡ Some place
  place_there place rest small =
      let split : place_bytes K place ++ rest ≡ number_bytes 2 place.task ++ (state_bytes K place.state ++ rest) = append_assoc (number_bytes 2 place.task) (state_bytes K place.state) rest in
      let task : little_number 2 (place_bytes K place ++ rest) ≡ place.task = ap (little_number 2) split ∙ number_there 2 place.task (state_bytes K place.state ++ rest) small in
      let state : state_at K (drop 2 (place_bytes K place ++ rest)) ≡ Some place.state = ap (λ l. state_at K (drop 2 l)) split ∙ (ap (state_at K) (behind (number_bytes 2 place.task) (state_bytes K place.state ++ rest) 2 (length-number_bytes 2 place.task)) ∙ state_there place.state rest) in
      if_some_is _ place.state (λ o. Some (record { task = little_number 2 (place_bytes K place ++ rest); state = o })) state ∙ ap Some (λ i. record { task = task i; state = place.state })

  row_there : (row : List (Place J)) (low : ℕ) (rest : List ℕ) → IsTrue (rises_from low (tasks_of row)) → row_at K (length row) (row_bytes K row ++ rest) ≡ Some row
  row_there [] low rest h = refl
  row_there (place ∷ row) low rest h =
      let r = rises low place.task (tasks_of row) h in
      let split : row_bytes K (place ∷ row) ++ rest ≡ place_bytes K place ++ (row_bytes K row ++ rest) = append_assoc (place_bytes K place) (row_bytes K row) rest in
      let others : row_at K (length row) (drop (length (place_bytes K place)) (row_bytes K (place ∷ row) ++ rest)) ≡ Some row =
      ap (λ l. row_at K (length row) (drop (length (place_bytes K place)) l)) split ∙ (ap (row_at K (length row)) (drop-append_seam (place_bytes K place) (row_bytes K row ++ rest)) ∙ row_there row (place.task + 1) rest r.others) in
      if_some_is _ place _ (ap (place_at K) split ∙ place_there place (row_bytes K row ++ rest) r.small) ∙ if_some_is _ row (λ more. Some (place ∷ more)) others

  record_there : (workers real count : ℕ) (done : Recorded J) (rest : List ℕ) → IsTrue (record_fits (form_of workers real count) done) → record_at K workers real (record_bytes K done ++ rest) ≡ Some done
  record_there workers real count (submitted task job) rest h =
      let split : (number_bytes 2 task ++ K.spelling job) ++ rest ≡ number_bytes 2 task ++ (K.spelling job ++ rest) = append_assoc (number_bytes 2 task) (K.spelling job) rest in
      let number : little_number 2 ((number_bytes 2 task ++ K.spelling job) ++ rest) ≡ task = ap (little_number 2) split ∙ number_there 2 task (K.spelling job ++ rest) (ltb-true task (2 ^ 16) h) in
      let there : K.decoded (take 128 (drop 2 ((number_bytes 2 task ++ K.spelling job) ++ rest))) ≡ Some job =
      ap (λ l. K.decoded (take 128 (drop 2 l))) split ∙ (ap (λ l. K.decoded (take 128 l)) (behind (number_bytes 2 task) (K.spelling job ++ rest) 2 (length-number_bytes 2 task)) ∙ job_there job rest) in
      if_some_is _ job _ there ∙ ap (λ n. Some (submitted n job)) number
  record_there workers real count (ran row) rest h =
      let parts = both (length row == workers) (rises_from 0 (tasks_of row)) h in
      let there : row_at K workers (row_bytes K row ++ rest) ≡ Some row = ap (λ n. row_at K n (row_bytes K row ++ rest)) (sym (eqb-true (length row) workers parts.0)) ∙ row_there row 0 rest parts.1 in
      if_some_is _ row _ there
  record_there workers real count (withdrawn task) rest h = ap (λ n. Some (withdrawn n)) (number_there 2 task rest (ltb-true task (2 ^ 16) h))
  record_there workers real count (reweighed m ws) rest h =
      let form = form_of workers real count in
      let parts = both (takes_weights form) ((length ws == real) && (nat_lt m 256 && list_all is_small ws)) h in
      let long = both (length ws == real) (nat_lt m 256 && list_all is_small ws) parts.1 in
      let small : All Small ws = all_from is_small Small (λ w t. let two = both (nat_lt w.0 (2 ^ 32)) (nat_lt w.1 (2 ^ 32)) t in (ltb-true w.0 (2 ^ 32) two.0, ltb-true w.1 (2 ^ 32) two.1)) ws (both (nat_lt m 256) (list_all is_small ws) long.1).1 in
      let there : weights_of real (joined weight_bytes ws ++ rest) ≡ ws =
      ap₂ (λ n l. weights_of n (l ++ rest)) (sym (eqb-true (length ws) real long.0)) (joined_is ws) ∙ weights_back ws rest small in
      ap (λ l. Some (reweighed m l)) there

  records_there : (workers real count : ℕ) (records : List (Recorded J)) (rest : List ℕ) → IsTrue (all_fit (form_of workers real count) records) → records_at K workers real (length records) (records_bytes K records ++ rest) ≡ Some records
  records_there workers real count [] rest h = refl
  records_there workers real count (done ∷ records) rest h =
      let parts = both (record_fits (form_of workers real count) done) (all_fit (form_of workers real count) records) h in
      let split : records_bytes K (done ∷ records) ++ rest ≡ record_bytes K done ++ (records_bytes K records ++ rest) = append_assoc (record_bytes K done) (records_bytes K records) rest in
      let others : records_at K workers real (length records) (drop (length (record_bytes K done)) (records_bytes K (done ∷ records) ++ rest)) ≡ Some records =
      ap (λ l. records_at K workers real (length records) (drop (length (record_bytes K done)) l)) split ∙ (ap (records_at K workers real (length records)) (drop-append_seam (record_bytes K done) (records_bytes K records ++ rest)) ∙ records_there workers real count records rest parts.1) in
      if_some_is _ done _ (ap (record_at K workers real) split ∙ record_there workers real count done (records_bytes K records ++ rest) parts.0) ∙ if_some_is _ records (λ more. Some (done ∷ more)) others

  -- a spelling is a head of 15 bytes and the records
  pub split_batch : (batch : PlainBatch J) → batch_bytes K batch ≡ head_bytes (length (records_bytes K batch.records)) batch.first (length batch.records) ++ records_bytes K batch.records
  unfolding batch_bytes
  split_batch batch = refl

  -- what a spelling's places say
  pub record Head (batch : PlainBatch J) : Type 0 where
    pub count : count_in (batch_bytes K batch) ≡ length batch.records
    pub first : first_in (batch_bytes K batch) ≡ batch.first
    pub body : drop 15 (batch_bytes K batch) ≡ records_bytes K batch.records
    pub long : length (batch_bytes K batch) ≡ 15 + length (records_bytes K batch.records)

  pub head_there : (workers real : ℕ) (batch : PlainBatch J) → IsTrue (batch_fits workers real batch) → Head batch
  head_there workers real batch h =
      let body = records_bytes K batch.records in
      let bytes = batch_bytes K batch in
      let head = head_bytes (length body) batch.first (length batch.records) in
      let places = parts_of bytes (length body) batch.first (length batch.records) (record { rest = body; is = split_batch batch }) in
      let counts = counts_of workers batch.first (length batch.records) (both (counts_fit workers batch.first (length batch.records)) (all_fit (form_of workers real (length batch.records)) batch.records) h).0 in
      let few = counts.few in
      let last = counts.last in
      record {
        count = ap (little_number 2) places.count_at.is ∙ number_there 2 (length batch.records) places.count_at.rest (omega (arith, few));
        first = ap (little_number 8) places.first_at.is ∙ number_there 8 batch.first places.first_at.rest (omega (arith, last));
        body = ap (drop 15) (split_batch batch) ∙ behind head body 15 (length-head (length body) batch.first (length batch.records));
        long = ap length (split_batch batch) ∙ (length-append head body ∙ ap (λ n. n + length body) (length-head (length body) batch.first (length batch.records)));
      }

  pub batch_there : (workers real : ℕ) (batch : PlainBatch J) → IsTrue (batch_fits workers real batch) → batch_in K workers real (batch_bytes K batch) ≡ Some batch
  unfolding batch_in
  batch_there workers real batch h =
      let bytes = batch_bytes K batch in
      let head = head_there workers real batch h in
      let body = records_bytes K batch.records in
      let found : records_at K workers real (count_in bytes) (drop 15 bytes) ≡ Some batch.records =
      ap₂ (records_at K workers real) head.count (head.body ∙ sym (append-nil body)) ∙ records_there workers real (length batch.records) batch.records [] (both (counts_fit workers batch.first (length batch.records)) (all_fit (form_of workers real (length batch.records)) batch.records) h).1 in
      let same : begun bytes batch.records ≡ batch = λ i. record { first = head.first i; records = batch.records } in
      if_some_is _ batch.records (checked K workers real bytes) found
      ∙ (ap (λ (b : PlainBatch J). if batch_fits workers real b && bytes_eq bytes (batch_bytes K b) then Some b else None) same
      ∙ cond-true _ _ _ (of_both _ _ h (bytes_eq-same bytes bytes refl)))

  -- bytes in which a batch is found are its spelling
  passed : (workers real : ℕ) (bytes : List ℕ) (b batch : PlainBatch J) (test : Bool) → (batch_fits workers real b && bytes_eq bytes (batch_bytes K b)) ≡ test → (if test then Some b else None) ≡ Some batch →
      IsTrue (batch_fits workers real batch) × (bytes ≡ batch_bytes K batch)
  passed workers real bytes b batch false is h = absurd (none-some batch h)
  passed workers real bytes b batch true is h =
      let parts = both _ _ is in
      let same = some_same b batch h in
      (subst (λ (b : PlainBatch J). IsTrue (batch_fits workers real b)) same parts.0, bytes_eq-true bytes (batch_bytes K b) parts.1 ∙ ap (batch_bytes K) same)

  pub batch_spelled : (workers real : ℕ) (bytes : List ℕ) (batch : PlainBatch J) → batch_in K workers real bytes ≡ Some batch → IsTrue (batch_fits workers real batch) × (bytes ≡ batch_bytes K batch)
  unfolding batch_in
  batch_spelled workers real bytes batch h =
      let found = if_some_back (records_at K workers real (count_in bytes) (drop 15 bytes)) (checked K workers real bytes) batch h in
      passed workers real bytes (begun bytes found.0) batch _ refl found.2
