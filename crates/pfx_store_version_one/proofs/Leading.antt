-- Frames of version 1, beside those of version 2: the same but for the ones of new weights.
use Rattle.std.specs.Prelude.{◌≡◌, ◌≢◌, ℕ, ◌==◌, ◌&&◌, nat_lt, nat_le, if◌then◌else◌, Bool, true, false, List, [], ◌∷◌, ◌++◌, length, slice_index, Option, Some, None, IsTrue, refl}
use Rattle.std.specs.List.{list_all}
use Rattle.std.proofs.Common.{sym, ◌∙◌, ap, arith, subst}
use Rattle.std.proofs.lemmas.Bool.{eqb-true}
use Rattle.std.proofs.lemmas.Option.{none-some}
use Rattle.pfx_checkpoint.specs.Whole.{if_some}
use Rattle.pfx_checkpoint.proofs.Readings.{flag_of}
use Rattle.pfx_store_format.specs.Batches.{batch_in}
use Rattle.pfx_store_format.specs.Frames.{number_after, state_after}
use Rattle.pfx_store_format.proofs.Batches.{batch_spelled, batch_there, if_some_back, some_same, split_batch}
use Rattle.pfx_store_format.proofs.Leading.{none_of}
use Rattle.pfx_store_format.proofs.Nexts.{after_is, fits_more}
use Rattle.pfx_jobs.specs.Kind.{Kind, Laws}
use Rattle.pfx_machine.specs.Plain.{Plain}
use Rattle.pfx_record.specs.Batches.{PlainBatch, all_fit, batch_bytes, batch_fits, counts_fit, head_bytes}
use Rattle.pfx_record.specs.Records.{Recorded, form_of, is_small, submitted, ran, withdrawn, reweighed, record_bytes, record_fits, records_bytes, takes_weights}
use Rattle.pfx_record.proofs.Heads.{counts_of, length-head}
use Rattle.pfx_record.proofs.Renewed.{none_new}
use Rattle.pfx_record.proofs.Rising.{both, of_both}
use Rattle.pfx_record_redo.specs.Applying.{after_record, applied, is_right}
use Rattle.pfx_store_version_one.specs.Format.{IsOf, state_after_1}
use Rattle.pfx_store_header.specs.Headers.{Header}

-- a batch of these records
abbrev of_records : {J : Type 0} → ℕ → List (Recorded J) → PlainBatch J
of_records first records = record { first = first; records = records }

-- a record of a longer batch is none of new weights
less_among : {J : Type 0} (workers real count : ℕ) (done : Recorded J) → count ≢ 1 → IsTrue (record_fits (form_of workers real count) done) → IsTrue (record_fits (form_of workers 0 count) done)
less_among workers real count (submitted task job) other h = h
less_among workers real count (ran row) other h = h
less_among workers real count (withdrawn task) other h = h
less_among workers real count (reweighed m ws) other h =
    let takes = (both (takes_weights (form_of workers real count)) ((length ws == real) && (nat_lt m 256 && list_all is_small ws)) h).0 in
    absurd (other (eqb-true count 1 (both (count == 1) (nat_lt 0 real && nat_le real 1024) takes).0))

all_less : {J : Type 0} (workers real count : ℕ) (records : List (Recorded J)) → count ≢ 1 → IsTrue (all_fit (form_of workers real count) records) → IsTrue (all_fit (form_of workers 0 count) records)
all_less workers real count [] other h = h
all_less workers real count (done ∷ records) other h =
    let parts = both (record_fits (form_of workers real count) done) (all_fit (form_of workers real count) records) h in
    of_both _ _ (less_among workers real count done other parts.0) (all_less workers real count records other parts.1)

module _ {J : Type 0} (K : Kind J) (L : Laws K) where
  -- the byte behind the head is the first of the records
  first_byte : (batch : PlainBatch J) → slice_index (batch_bytes K batch) 15 ≡ slice_index (records_bytes K batch.records) 0
  first_byte batch =
      let body = records_bytes K batch.records in
      ap (λ l. slice_index l 15) (split_batch K L batch) ∙ flag_of (head_bytes (length body) batch.first (length batch.records)) body 15 (length-head (length body) batch.first (length batch.records))

  other_tag : (workers count : ℕ) (done : Recorded J) (rest : List ℕ) → IsTrue (record_fits (form_of workers 0 count) done) → slice_index (record_bytes K done ++ rest) 0 ≢ 4
  other_tag workers count (submitted task job) rest fits is = omega (arith, is)
  other_tag workers count (ran row) rest fits is = omega (arith, is)
  other_tag workers count (withdrawn task) rest fits is = omega (arith, is)
  other_tag workers count (reweighed m ws) rest fits is = none_new J workers count m ws fits

  -- where no task is said to be real no batch has the tag of new weights there
  untagged : (workers first : ℕ) (records : List (Recorded J)) → IsTrue (batch_fits workers 0 (of_records first records)) → slice_index (batch_bytes K (of_records first records)) 15 ≢ 4
  untagged workers first [] fits is =
      let some = (counts_of workers first 0 (both (counts_fit workers first 0) true fits).0).some in
      omega (arith, some)
  untagged workers first (done ∷ records) fits is =
      let count = length (done ∷ records) in
      let all = (both (counts_fit workers first count) (all_fit (form_of workers 0 count) (done ∷ records)) fits).1 in
      let one = (both (record_fits (form_of workers 0 count) done) (all_fit (form_of workers 0 count) records) all).0 in
      other_tag workers count done (records_bytes K records) one (sym (first_byte (of_records first (done ∷ records))) ∙ is)

  -- and where the tag isn't there, it doesn't matter how many tasks are said to be real
  less_alone : (workers real : ℕ) (done : Recorded J) → slice_index (record_bytes K done ++ []) 0 ≢ 4 → IsTrue (record_fits (form_of workers real 1) done) → IsTrue (record_fits (form_of workers 0 1) done)
  less_alone workers real (submitted task job) other h = h
  less_alone workers real (ran row) other h = h
  less_alone workers real (withdrawn task) other h = h
  less_alone workers real (reweighed m ws) other h = absurd (other refl)

  less : (workers real first : ℕ) (records : List (Recorded J)) → slice_index (batch_bytes K (of_records first records)) 15 ≢ 4 → IsTrue (batch_fits workers real (of_records first records)) → IsTrue (batch_fits workers 0 (of_records first records))
  less workers real first [] other fits = fits
  less workers real first (done ∷ []) other fits =
      let parts = both (counts_fit workers first 1) (all_fit (form_of workers real 1) (done ∷ [])) fits in
      let one = (both (record_fits (form_of workers real 1) done) true parts.1).0 in
      of_both _ _ parts.0 (of_both _ _ (less_alone workers real done (λ is. other (first_byte (of_records first (done ∷ [])) ∙ is)) one) refl)
  less workers real first (done ∷ next ∷ records) other fits =
      let count = length (done ∷ next ∷ records) in
      let parts = both (counts_fit workers first count) (all_fit (form_of workers real count) (done ∷ next ∷ records)) fits in
      of_both _ _ parts.0 (all_less workers real count (done ∷ next ∷ records) (λ is. omega (arith, is)) parts.1)

  found_still : (workers real : ℕ) (frame : List ℕ) (batch : PlainBatch J) → batch_in K workers 0 frame ≡ Some batch → batch_in K workers real frame ≡ Some batch
  found_still workers real frame batch found =
      let spelled = batch_spelled K L workers 0 frame batch found in
      ap (batch_in K workers real) spelled.1 ∙ batch_there K L workers real batch (fits_more workers real batch spelled.0)

  found_before : (workers real : ℕ) (frame : List ℕ) (batch : PlainBatch J) → slice_index frame 15 ≢ 4 → batch_in K workers real frame ≡ Some batch → batch_in K workers 0 frame ≡ Some batch
  found_before workers real frame batch other found =
      let spelled = batch_spelled K L workers real frame batch found in
      ap (batch_in K workers 0) spelled.1 ∙ batch_there K L workers 0 batch (less workers real batch.first batch.records (λ is. other (ap (λ l. slice_index l 15) spelled.1 ∙ is)) spelled.0)

  same_found : (workers real : ℕ) (frame : List ℕ) → slice_index frame 15 ≢ 4 → batch_in K workers 0 frame ≡ batch_in K workers real frame
  same_found workers real frame other = by (batch_in K workers 0 frame) refl
    where
      by : (o : Option (PlainBatch J)) → batch_in K workers 0 frame ≡ o → batch_in K workers 0 frame ≡ batch_in K workers real frame
      by (Some batch) found = found ∙ sym (found_still workers real frame batch found)
      by None none = none ∙ sym (none_of (batch_in K workers real frame) (λ batch found. none-some batch (sym none ∙ found_before workers real frame batch other found)))

  module _ (s : Plain J) (frame : List ℕ) where
    -- what is known of a frame that leads somewhere
    pub record Led (t : Plain J) : Type 0 where
      pub last : ℕ
      pub number : number_after s.number frame ≡ Some last
      pub batch : PlainBatch J
      pub found : batch_in K s.ledger.set.workers 0 frame ≡ Some batch
      pub taken : applied K s batch.records ≡ Some t

    pub led : (t : Plain J) → state_after_1 K s frame ≡ Some t → Led t
    unfolding state_after_1
    led t is =
        let first = if_some_back (number_after s.number frame) _ t is in
        let second = if_some_back (batch_in K s.ledger.set.workers 0 frame) _ t first.2 in
        record { last = first.0; number = first.1; batch = second.0; found = second.1; taken = second.2 }

    pub leads_still : (t : Plain J) → state_after_1 K s frame ≡ Some t → state_after K s frame ≡ Some t
    leads_still t is =
        let parts = led t is in
        after_is K s frame t parts.last parts.batch parts.number (found_still s.ledger.set.workers s.ledger.set.real frame parts.batch parts.found) parts.taken

    pub leads_alike : slice_index frame 15 ≢ 4 → state_after_1 K s frame ≡ state_after K s frame
    unfolding state_after_1 state_after
    leads_alike other = ap (λ o. if_some (number_after s.number frame) (λ last. if_some o (λ batch. applied K s batch.records))) (same_found s.ledger.set.workers s.ledger.set.real frame other)

    pub leads_nowhere : slice_index frame 15 ≡ 4 → state_after_1 K s frame ≡ None
    leads_nowhere tag = none_of (state_after_1 K s frame) (λ t is.
        let parts = led t is in
        let spelled = batch_spelled K L s.ledger.set.workers 0 frame parts.batch parts.found in
        untagged s.ledger.set.workers parts.batch.first parts.batch.records spelled.0 (ap (λ l. slice_index l 15) (sym spelled.1) ∙ tag))

  -- a header's state stays one of it
  of_after : (h : Header) (workers count : ℕ) (s : Plain J) (done : Recorded J) → IsTrue (record_fits (form_of workers 0 count) done) → IsOf h s → IsOf h (after_record s done)
  of_after h workers count s (submitted task job) fits of = record { set = of.set; from = of.from; segment = of.segment }
  of_after h workers count s (ran row) fits of = record { set = of.set; from = of.from; segment = of.segment }
  of_after h workers count s (withdrawn task) fits of = record { set = of.set; from = of.from; segment = of.segment }
  of_after h workers count s (reweighed m ws) fits of = absurd (none_new J workers count m ws fits)

  of_applied : (h : Header) (workers count : ℕ) (s t : Plain J) (records : List (Recorded J)) → IsTrue (all_fit (form_of workers 0 count) records) → IsOf h s → applied K s records ≡ Some t → IsOf h t
  of_applied h workers count s t [] fit of is = subst (IsOf h) (some_same s t is) of
  of_applied h workers count s t (done ∷ records) fit of is =
      let parts = both (record_fits (form_of workers 0 count) done) (all_fit (form_of workers 0 count) records) fit in
      by (is_right K s done) (λ more. of_applied h workers count (after_record s done) t records parts.1 (of_after h workers count s done parts.0 of) more) is
    where
      by : (b : Bool) → (applied K (after_record s done) records ≡ Some t → IsOf h t) → (if b then applied K (after_record s done) records else None) ≡ Some t → IsOf h t
      by true on more = on more
      by false on more = absurd (none-some t more)

  pub after_of : (h : Header) (s : Plain J) (frame : List ℕ) (t : Plain J) → IsOf h s → state_after_1 K s frame ≡ Some t → IsOf h t
  after_of h s frame t of is =
      let parts = led s frame t is in
      let batch = parts.batch in
      let count = length batch.records in
      let spelled = batch_spelled K L s.ledger.set.workers 0 frame batch parts.found in
      let all = (both (counts_fit s.ledger.set.workers batch.first count) (all_fit (form_of s.ledger.set.workers 0 count) batch.records) spelled.0).1 in
      of_applied h s.ledger.set.workers count s t batch.records all of parts.taken
