-- A batch that may be appended.
use Rattle.std.specs.Prelude.{◌≡◌, ℕ, ◌+◌, ◌*◌, ◌<◌, ◌≤◌, ◌^◌, List, [], ◌∷◌, length, Bool, true, false, if◌then◌else◌, Option, Some, None, IsTrue, All, refl}
use Rattle.std.proofs.Common.{arith, sym, ◌∙◌, ap, subst, inl, inr}
use Rattle.std.proofs.Math.Nat.{le-max_left, le-max_right}
use Rattle.std.proofs.lemmas.Bool.{false≢true}
use Rattle.std.proofs.lemmas.Option.{none-some}
use Rattle.pfx_record_redo.specs.Applying.{after_record, applied, is_common, is_right}
use Rattle.pfx_record_redo.proofs.Commons.{form_common}
use Rattle.pfx_record_redo.proofs.States.{applied_behind, common_behind, right_parts}
use Rattle.pfx_store_format.specs.Frames.{state_after}
use Rattle.pfx_store_format.proofs.Batches.{some_same}
use Rattle.pfx_store_format.proofs.Nexts.{fits_more, frame_leads}
use Rattle.pfx_store_header.specs.Headers.{least_segment}
use Rattle.pfx_jobs.specs.Kind.{Kind, Laws}
use Rattle.pfx_machine.specs.Plain.{Plain}
use Rattle.pfx_machine.specs.Reweighing.{new_set, renewed}
use Rattle.pfx_machine.specs.declared.faults.MachineFault.{MachineFault}
use Rattle.pfx_machine.proofs.Fits.{fitting}
use Rattle.pfx_machine.proofs.Reweighs.{IsReweighed, accepted_set, workers_of}
use Rattle.pfx_record.specs.Batches.{PlainBatch, all_fit, batch_bytes, batch_fits, batch_most, counts_fit}
use Rattle.pfx_record.specs.Records.{Recorded, form_of, record_fits, reweighed}
use Rattle.pfx_record.proofs.Bodies.{short_batch}
use Rattle.pfx_record.proofs.Heads.{counts_of}
use Rattle.pfx_record.proofs.Rising.{both}
use Rattle.pfx_weights.specs.Sets.{FilledSet}
use Rattle.pfx_weights.proofs.Tests.{all_from}
use Rattle.pfx_store.specs.Working.{IsComing, LeadsOn}

-- where it says of no task that it is real, it has no new weights
pub batch_common : {J : Type 0} (workers : ℕ) (batch : PlainBatch J) → IsTrue (batch_fits workers 0 batch) → All (λ done. IsTrue (is_common done)) batch.records
batch_common workers batch fits =
    let form = form_of workers 0 (length batch.records) in
    all_from (record_fits form) (λ done. IsTrue (is_common done)) (λ done fit. form_common form done refl fit) batch.records (both (counts_fit workers batch.first (length batch.records)) (all_fit form batch.records) fits).1

-- New weights that are right at a state.
module _ {J : Type 0} (K : Kind J) (s : Plain J) (m : ℕ) (weights : List (ℕ × ℕ)) where
  right_by : (t : Plain J) (b : Bool) → is_right K s (reweighed m weights) ≡ b → (if b then applied K (after_record s (reweighed m weights)) [] else None) ≡ Some t →
      IsTrue (is_right K s (reweighed m weights)) × (renewed s (new_set s.ledger.set m weights) ≡ t)
  right_by t true is h = (is, some_same _ t h)
  right_by t false is h = absurd (none-some t h)

  none_of : (o : Option MachineFault) → IsTrue (elim o [ Some fault ↦ false | None ↦ true ]) → o ≡ None
  none_of None h = refl
  none_of (Some fault) h = absurd (false≢true h)

  module _ (t : Plain J) (taken : applied K s (reweighed m weights ∷ []) ≡ Some t) where
    right : IsTrue (is_right K s (reweighed m weights))
    right = (right_by t (is_right K s (reweighed m weights)) refl taken).0

    -- they lead to the state in which their set is in force
    pub renewed_to : renewed s (new_set s.ledger.set m weights) ≡ t
    renewed_to = (right_by t (is_right K s (reweighed m weights)) refl taken).1

    pub accepted_new : IsReweighed s m weights
    accepted_new = accepted_set s m weights (none_of _ (right_parts K s (reweighed m weights) right).apt)

    pub number_new : s.number + 1 < 2 ^ 48
    number_new = (fitting (after_record s (reweighed m weights)) (right_parts K s (reweighed m weights) right).good).number

-- Records that come next at a state, with the set that comes into force by them, if there is one.
module _ {J : Type 0} (K : Kind J) (L : Laws K) (s : Plain J) (workers real : ℕ) (batch : PlainBatch J) where
  abbrev Coming : Option FilledSet → Type 0
  Coming renewal = IsComing K s workers real batch.first batch.records renewal

  coming_first : (renewal : Option FilledSet) → Coming renewal → batch.first ≡ s.number + 1
  coming_first None next = next.first
  coming_first (Some set) next = next.first

  coming_workers : (renewal : Option FilledSet) → Coming renewal → workers ≡ s.ledger.set.workers
  coming_workers None next = next.workers
  coming_workers (Some set) next = next.workers

  coming_real : (renewal : Option FilledSet) → Coming renewal → real ≤ s.ledger.set.real
  coming_real None next = omega (arith, next.real)
  coming_real (Some set) next = omega (arith, next.real)

  pub coming_right : (renewal : Option FilledSet) → Coming renewal → (t : Plain J) × (applied K s batch.records ≡ Some t)
  coming_right None next = next.right
  coming_right (Some set) next = next.right

  coming_fits : (renewal : Option FilledSet) → Coming renewal → IsTrue (batch_fits workers real batch) → IsTrue (batch_fits s.ledger.set.workers s.ledger.set.real batch)
  coming_fits None next fits = fits_more s.ledger.set.workers s.ledger.set.real batch (sym (λ i. batch_fits (next.workers i) (next.real i) batch) ∙ fits)
  coming_fits (Some set) next fits = sym (λ i. batch_fits (next.workers i) (next.real i) batch) ∙ fits

  -- the batch leads where they lead
  pub batch_leads : (t : Plain J) (renewal : Option FilledSet) → IsTrue (batch_fits workers real batch) → Coming renewal → applied K s batch.records ≡ Some t → state_after K s (batch_bytes K batch) ≡ Some t
  batch_leads t renewal fits next taken =
      let counts = counts_of workers batch.first (length batch.records) (both (counts_fit workers batch.first (length batch.records)) (all_fit (form_of workers real (length batch.records)) batch.records) fits).0 in
      let last = counts.last in
      let first = coming_first renewal next in
      frame_leads K L s t batch (coming_fits renewal next fits) first (omega (arith, first, last)) taken

  -- a record of weights for so many tasks has room
  weights_room : (renewal : Option FilledSet) → Coming renewal → least_segment s.ledger.set.workers ≤ s.segment → 27 + 8 * real ≤ s.segment
  weights_room None next least = omega (arith, next.real, least)
  weights_room (Some set) next least =
      let (m, weights, is, same) = next.renews in
      let new = accepted_new K s m weights next.right.0 (sym (ap (applied K s) is) ∙ next.right.1) in
      omega (arith, next.real, new.room, le-max_right (41 + 2096 * m) (27 + 8 * s.ledger.set.real))

  module _ (renewal : Option FilledSet) (fits : IsTrue (batch_fits workers real batch)) (next : Coming renewal) where
    -- its frame has room in a segment, behind the number and with the next gate behind it
    pub frame_inside : least_segment s.ledger.set.workers ≤ s.segment → length (batch_bytes K batch) + 9 < s.segment
    frame_inside least =
        let short = short_batch K L workers real batch.first batch.records fits in
        elim short.body [
          | inl rows ↦ omega (arith, rows, short.whole, least, coming_workers renewal next)
          | inr new ↦ omega (arith, new, short.whole, weights_room renewal next least)
        ]

    -- and in as many bytes as the longest one takes
    pub frame_room : (capacity : ℕ) → batch_most s.ledger.set.workers s.ledger.set.real + 1 ≤ capacity → length (batch_bytes K batch) < capacity
    frame_room capacity most =
        let short = short_batch K L workers real batch.first batch.records fits in
        let low = le-max_left (31 + 2096 * s.ledger.set.workers) (17 + 8 * s.ledger.set.real) in
        let high = le-max_right (31 + 2096 * s.ledger.set.workers) (17 + 8 * s.ledger.set.real) in
        elim short.body [
          | inl rows ↦ omega (arith, rows, short.whole, most, low, coming_workers renewal next)
          | inr new ↦ omega (arith, new, short.whole, most, high, coming_real renewal next)
        ]

-- records that aren't of new weights lead to a state of the same store
pub common_leads : {J : Type 0} (K : Kind J) (s t : Plain J) (records : List (Recorded J)) (capacity : ℕ) → All (λ done. IsTrue (is_common done)) records → applied K s records ≡ Some t →
    least_segment s.ledger.set.workers ≤ s.segment → batch_most s.ledger.set.workers s.ledger.set.real + 1 ≤ capacity → LeadsOn K s records t capacity
common_leads K s t records capacity common taken least room =
    let behind = applied_behind K s t records taken in
    let same = (common_behind K s t records common taken).set in
    record {
      taken = taken;
      of = record {
        real = behind.real;
        segment = behind.segment;
        fits = subst (λ n. least_segment t.ledger.set.workers ≤ n) (sym behind.segment) (subst (λ (set : FilledSet). least_segment set.workers ≤ s.segment) (sym same) least);
      };
      room = subst (λ (set : FilledSet). batch_most set.workers set.real + 1 ≤ capacity) (sym same) room;
    }

-- and new weights to one in which their set is in force
pub new_leads : {J : Type 0} (K : Kind J) (s t : Plain J) (records : List (Recorded J)) (set : FilledSet) (m : ℕ) (weights : List (ℕ × ℕ)) (capacity : ℕ) → records ≡ reweighed m weights ∷ [] → set ≡ new_set s.ledger.set m weights → applied K s records ≡ Some t →
    batch_most set.workers set.real + 1 ≤ capacity → LeadsOn K s records (renewed s set) capacity
new_leads K s t records set m weights capacity is same taken room =
    let led = sym (ap (applied K s) is) ∙ taken in
    let new = accepted_new K s m weights t led in
    let workers : set.workers ≡ m = ap (λ (u : FilledSet). u.workers) same ∙ workers_of m weights (new_set s.ledger.set m weights) new.accepts in
    record {
      taken = taken ∙ ap Some (sym (renewed_to K s m weights t led) ∙ ap (renewed s) (sym same));
      of = record {
        real = ap (λ (u : FilledSet). u.real) same ∙ new.real;
        segment = refl;
        fits = omega (arith, workers, new.room, le-max_left (41 + 2096 * m) (27 + 8 * s.ledger.set.real));
      };
      room = room;
    }
