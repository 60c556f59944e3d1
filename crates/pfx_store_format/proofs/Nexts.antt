-- Frames and numbers.
use Rattle.std.specs.Prelude.{◌≡◌, ℕ, ◌+◌, ◌<◌, ◌≤◌, ◌^◌, ◌==◌, ◌&&◌, nat_lt, nat_le, if◌then◌else◌, Bool, true, false, List, [], ◌∷◌, length, Some, None, IsTrue, refl}
use Rattle.std.proofs.Common.{sym, ◌∙◌, ap, arith, eq-eqb, subst}
use Rattle.std.proofs.lemmas.Bool.{cond-true, eqb-true, leb-true, le-leb, lt-ltb, ltb-true}
use Rattle.std.proofs.lemmas.Option.{none-some}
use Rattle.pfx_record_redo.specs.Applying.{applied}
use Rattle.pfx_record_redo.proofs.States.{applied_behind}
use Rattle.pfx_jobs.specs.Kind.{Kind, Laws}
use Rattle.pfx_machine.specs.Plain.{Plain}
use Rattle.pfx_record.specs.Batches.{PlainBatch, all_fit, batch_bytes, batch_fits, counts_fit}
use Rattle.pfx_record.specs.Records.{Recorded, form_of, submitted, ran, withdrawn, reweighed, record_fits}
use Rattle.pfx_record.proofs.Heads.{counts_of}
use Rattle.pfx_record.proofs.Renewed.{none_new}
use Rattle.pfx_record.proofs.Rising.{both, of_both}
use Rattle.pfx_store_format.specs.Batches.{batch_in, count_in, first_in}
use Rattle.pfx_store_format.specs.Frames.{is_next, number_after, state_after}
use Rattle.pfx_store_format.proofs.Batches.{batch_spelled, batch_there, head_there, if_some_back, if_some_is, some_same}

pub record Next (last : ℕ) (frame : List ℕ) (m : ℕ) : Type 0 where
  pub whole : 15 ≤ length frame
  pub some : 0 < count_in frame
  pub few : count_in frame ≤ 16
  pub first : first_in frame ≡ last + 1
  pub small : last + count_in frame < 2 ^ 48
  pub is : m ≡ last + count_in frame

next_parts : (last : ℕ) (frame : List ℕ) (m first count : ℕ) → first ≡ first_in frame → count ≡ count_in frame → is_next last frame first count ≡ true → m ≡ last + count → Next last frame m
next_parts last frame m first count first_is count_is h is =
    let parts = both (nat_le 15 (length frame) && (nat_lt 0 count && nat_le count 16)) ((first == last + 1) && nat_lt (last + count) (2 ^ 48)) h in
    let left = both (nat_le 15 (length frame)) (nat_lt 0 count && nat_le count 16) parts.0 in
    let counts = both (nat_lt 0 count) (nat_le count 16) left.1 in
    let right = both (first == last + 1) (nat_lt (last + count) (2 ^ 48)) parts.1 in
    record {
      whole = leb-true 15 (length frame) left.0;
      some = subst (λ n. 0 < n) count_is (ltb-true 0 count counts.0);
      few = subst (λ n. n ≤ 16) count_is (leb-true count 16 counts.1);
      first = sym first_is ∙ eqb-true first (last + 1) right.0;
      small = subst (λ n. last + n < 2 ^ 48) count_is (ltb-true (last + count) (2 ^ 48) right.1);
      is = is ∙ ap (λ n. last + n) count_is;
    }

next_by : (last : ℕ) (frame : List ℕ) (m first count : ℕ) → first ≡ first_in frame → count ≡ count_in frame → (b : Bool) → is_next last frame first count ≡ b → (if b then Some (last + count) else None) ≡ Some m → Next last frame m
next_by last frame m first count first_is count_is true is h = next_parts last frame m first count first_is count_is is (sym (some_same _ m h))
next_by last frame m first count first_is count_is false is h = absurd (none-some m h)

-- what a number after a frame says of its head
pub next_of : (last : ℕ) (frame : List ℕ) (m : ℕ) → number_after last frame ≡ Some m → Next last frame m
unfolding number_after
next_of last frame m h = next_by last frame m (first_in frame) (count_in frame) refl refl (is_next last frame (first_in frame) (count_in frame)) refl h

pub next_is : (last : ℕ) (frame : List ℕ) (count : ℕ) → 15 ≤ length frame → 0 < count → count ≤ 16 → first_in frame ≡ last + 1 → last + count < 2 ^ 48 → count_in frame ≡ count → number_after last frame ≡ Some (last + count)
unfolding number_after
next_is last frame count whole some few first small is =
    let right : is_next last frame (first_in frame) count ≡ true = of_both _ _ (of_both _ _ (le-leb _ _ whole) (of_both _ _ (lt-ltb _ _ some) (le-leb _ _ few))) (of_both _ _ (eq-eqb _ _ first) (lt-ltb _ _ small)) in
    ap (λ n. if is_next last frame (first_in frame) n then Some (last + n) else None) is ∙ cond-true _ _ _ right

-- the codec's laws of frames

pub later : (n : ℕ) (frame : List ℕ) (m : ℕ) → number_after n frame ≡ Some m → n < m
later n frame m h = let next = next_of n frame m h in let some = next.some in let is = next.is in omega (arith, some, is)

pub below : (n : ℕ) (frame : List ℕ) (m : ℕ) → number_after n frame ≡ Some m → m < 2 ^ 48
below n frame m h = let next = next_of n frame m h in let small = next.small in let is = next.is in omega (arith, small, is)

pub record After {J : Type 0} (K : Kind J) (s : Plain J) (frame : List ℕ) (t : Plain J) : Type 0 where
  pub last : ℕ
  pub number : number_after s.number frame ≡ Some last
  pub batch : PlainBatch J
  pub found : batch_in K s.ledger.set.workers s.ledger.set.real frame ≡ Some batch
  pub taken : applied K s batch.records ≡ Some t

pub after_of : {J : Type 0} (K : Kind J) (s : Plain J) (frame : List ℕ) (t : Plain J) → state_after K s frame ≡ Some t → After K s frame t
unfolding state_after
after_of K s frame t h =
    let first = if_some_back (number_after s.number frame) _ t h in
    let second = if_some_back (batch_in K s.ledger.set.workers s.ledger.set.real frame) _ t first.2 in
    record { last = first.0; number = first.1; batch = second.0; found = second.1; taken = second.2 }

pub after_is : {J : Type 0} (K : Kind J) (s : Plain J) (frame : List ℕ) (t : Plain J) (last : ℕ) (batch : PlainBatch J) → number_after s.number frame ≡ Some last → batch_in K s.ledger.set.workers s.ledger.set.real frame ≡ Some batch → applied K s batch.records ≡ Some t → state_after K s frame ≡ Some t
unfolding state_after
after_is K s frame t last batch number found taken = if_some_is (number_after s.number frame) last _ number ∙ (if_some_is (batch_in K s.ledger.set.workers s.ledger.set.real frame) batch _ found ∙ taken)

pub number_agrees : {J : Type 0} (K : Kind J) (L : Laws K) (s : Plain J) (frame : List ℕ) (t : Plain J) → state_after K s frame ≡ Some t → number_after s.number frame ≡ Some t.number
number_agrees K L s frame t h =
    let after = after_of K s frame t h in
    let spelled = batch_spelled K L s.ledger.set.workers s.ledger.set.real frame after.batch after.found in
    let head = head_there K L s.ledger.set.workers s.ledger.set.real after.batch spelled.0 in
    let count : count_in frame ≡ length after.batch.records = ap count_in spelled.1 ∙ head.count in
    let behind = (applied_behind K s t after.batch.records after.taken).number in
    let is = (next_of s.number frame after.last after.number).is in
    after.number ∙ ap Some (omega (arith, count, behind, is))

-- a batch without new weights fits whatever number of tasks is real

record_more : {J : Type 0} (workers real count : ℕ) (done : Recorded J) → IsTrue (record_fits (form_of workers 0 count) done) → IsTrue (record_fits (form_of workers real count) done)
record_more workers real count (submitted task job) h = h
record_more workers real count (ran row) h = h
record_more workers real count (withdrawn task) h = h
record_more {J} workers real count (reweighed m ws) h = absurd (none_new J workers count m ws h)

records_more : {J : Type 0} (workers real count : ℕ) (records : List (Recorded J)) → IsTrue (all_fit (form_of workers 0 count) records) → IsTrue (all_fit (form_of workers real count) records)
records_more workers real count [] h = h
records_more workers real count (done ∷ records) h =
    let parts = both (record_fits (form_of workers 0 count) done) (all_fit (form_of workers 0 count) records) h in
    of_both _ _ (record_more workers real count done parts.0) (records_more workers real count records parts.1)

pub fits_more : {J : Type 0} (workers real : ℕ) (batch : PlainBatch J) → IsTrue (batch_fits workers 0 batch) → IsTrue (batch_fits workers real batch)
fits_more workers real batch h =
    let count = length batch.records in
    let parts = both (counts_fit workers batch.first count) (all_fit (form_of workers 0 count) batch.records) h in
    of_both _ _ parts.0 (records_more workers real count batch.records parts.1)

-- a frame of right records leads to the state after them

pub frame_leads : {J : Type 0} (K : Kind J) (L : Laws K) (s t : Plain J) (batch : PlainBatch J) → IsTrue (batch_fits s.ledger.set.workers s.ledger.set.real batch) → batch.first ≡ s.number + 1 → s.number + length batch.records < 2 ^ 48 → applied K s batch.records ≡ Some t →
    state_after K s (batch_bytes K batch) ≡ Some t
frame_leads K L s t batch fits first small taken =
    let workers = s.ledger.set.workers in
    let real = s.ledger.set.real in
    let head = head_there K L workers real batch fits in
    let counts = counts_of workers batch.first (length batch.records) (both (counts_fit workers batch.first (length batch.records)) (all_fit (form_of workers real (length batch.records)) batch.records) fits).0 in
    let number = next_is s.number (batch_bytes K batch) (length batch.records) (let long = head.long in omega (arith, long)) counts.some counts.few (head.first ∙ first) small head.count in
    after_is K s (batch_bytes K batch) t _ batch number (batch_there K L workers real batch fits) taken
