-- What is behind right records is a state of as many real tasks and the same store, with as many numbers more.
use Rattle.std.specs.Prelude.{◌≡◌, ℕ, ◌+◌, ◌&&◌, All, if◌then◌else◌, Bool, true, false, List, [], ◌∷◌, length, Option, Some, None, IsTrue, refl}
use Rattle.std.proofs.Common.{suc, sym, ◌∙◌, ap, arith, subst}
use Rattle.std.proofs.lemmas.Bool.{false≢true}
use Rattle.std.proofs.lemmas.Option.{none-some}
use Rattle.pfx_machine.specs.Fitting.{fits}
use Rattle.pfx_machine.proofs.Fits.{fitting}
use Rattle.pfx_machine.proofs.Reweighs.{accepted_set}
use Rattle.pfx_machine.specs.Reweighing.{reweigh_fault}
use Rattle.pfx_machine.specs.declared.faults.MachineFault.{MachineFault}
use Rattle.pfx_jobs.specs.Kind.{Kind}
use Rattle.pfx_machine.specs.Plain.{IsState}
use Rattle.pfx_machine.specs.Plain as machine
use Rattle.pfx_record.specs.Effect.{allocations_after, counted_from, jobs_from}
use Rattle.pfx_record.specs.Records.{Recorded, submitted, ran, withdrawn, reweighed, record_fits}
use Rattle.pfx_record.specs.declared.record.Place.{Place}
use Rattle.pfx_record.proofs.Rising.{both}
use Rattle.pfx_record_redo.specs.Applying.{after_common, after_record, applied, form_at, is_apt, is_common, is_right}
use Rattle.pfx_record_redo.proofs.Commons.{common_after, number_after}

length-counted : {J : Type 0} (row : List (Place J)) (x : ℕ) (allocs : List ℕ) → length (counted_from row x allocs) ≡ length allocs
length-counted row x [] = refl
length-counted row x (a ∷ allocs) = ap suc (length-counted row (x + 1) allocs)

length-allocations : {J : Type 0} (done : Recorded J) (allocs : List ℕ) → length (allocations_after done allocs) ≡ length allocs
length-allocations (submitted task job) allocs = refl
length-allocations (ran row) allocs = length-counted row 0 allocs
length-allocations (withdrawn task) allocs = refl
length-allocations (reweighed workers weights) allocs = refl

length-jobs : {J : Type 0} (done : Recorded J) (x : ℕ) (jobs : List (Option J)) → length (jobs_from done x jobs) ≡ length jobs
length-jobs done x [] = refl
length-jobs done x (o ∷ jobs) = ap suc (length-jobs done (x + 1) jobs)

-- each record leaves the store, and as many real tasks
segment_after : {J : Type 0} (s : machine.Plain J) (done : Recorded J) → (after_record s done).segment ≡ s.segment
segment_after s (submitted task job) = refl
segment_after s (ran row) = refl
segment_after s (withdrawn task) = refl
segment_after s (reweighed workers weights) = refl

-- the tests that a right record passes
pub record IsRight {J : Type 0} (K : Kind J) (s : machine.Plain J) (done : Recorded J) : Type 0 where
  pub form : IsTrue (record_fits (form_at s) done)
  pub apt : IsTrue (is_apt K s done)
  pub good : fits (after_record s done) ≡ true

pub right_parts : {J : Type 0} (K : Kind J) (s : machine.Plain J) (done : Recorded J) → IsTrue (is_right K s done) → IsRight K s done
right_parts K s done right =
    let first = both (record_fits (form_at s) done) (is_apt K s done && fits (after_record s done)) right in
    let rest = both (is_apt K s done) (fits (after_record s done)) first.1 in
    record { form = first.0; apt = rest.0; good = rest.1 }

by_none : (o : Option MachineFault) → IsTrue (elim o [ Some fault ↦ false | None ↦ true ]) → o ≡ None
by_none None h = refl
by_none (Some fault) h = absurd (false≢true h)

apt_weights : {J : Type 0} (K : Kind J) (s : machine.Plain J) (m : ℕ) (weights : List (ℕ × ℕ)) → IsTrue (is_right K s (reweighed m weights)) → reweigh_fault s m weights ≡ None
apt_weights K s m weights right = by_none (reweigh_fault s m weights) (right_parts K s (reweighed m weights) right).apt

real_after : {J : Type 0} (K : Kind J) (s : machine.Plain J) (done : Recorded J) → IsTrue (is_right K s done) → (after_record s done).ledger.set.real ≡ s.ledger.set.real
real_after K s (submitted task job) right = refl
real_after K s (ran row) right = refl
real_after K s (withdrawn task) right = refl
real_after K s (reweighed workers weights) right = (accepted_set s workers weights (apt_weights K s workers weights right)).real

common_state : {J : Type 0} (s : machine.Plain J) (done : Recorded J) → IsState s → IsTrue (is_common done) → fits (after_record s done) ≡ true → IsState (after_record s done)
common_state s done h common good =
    let same = common_after s done common in
    let next = fitting (after_common s done) (ap fits (sym same) ∙ good) in
    subst IsState (sym same) (record {
      number = next.number;
      slot = next.slot;
      set = h.set;
      ledger = record { set = h.ledger.set; slot = (let a = next.slot in omega (arith, a)); length = length-allocations done s.ledger.allocs ∙ h.ledger.length; fair = next.fair; sum = next.sum };
      jobs = length-jobs done 0 s.jobs ∙ h.jobs;
    })

pub right_is_state : {J : Type 0} (K : Kind J) (s : machine.Plain J) (done : Recorded J) → IsState s → IsTrue (is_right K s done) → IsState (after_record s done)
right_is_state K s (submitted task job) h right = common_state s (submitted task job) h refl (right_parts K s (submitted task job) right).good
right_is_state K s (ran row) h right = common_state s (ran row) h refl (right_parts K s (ran row) right).good
right_is_state K s (withdrawn task) h right = common_state s (withdrawn task) h refl (right_parts K s (withdrawn task) right).good
right_is_state K s (reweighed workers weights) h right =
    let good = fitting (after_record s (reweighed workers weights)) (right_parts K s (reweighed workers weights) right).good in
    let new = accepted_set s workers weights (apt_weights K s workers weights right) in
    record { number = good.number; slot = good.slot; set = new.of; ledger = new.ledger; jobs = h.jobs ∙ sym new.real }

-- one record more is taken over if it is right
applied_by : {J : Type 0} (K : Kind J) (s t : machine.Plain J) (done : Recorded J) (records : List (Recorded J)) (b : Bool) → is_right K s done ≡ b → (if b then applied K (after_record s done) records else None) ≡ Some t →
    IsTrue (is_right K s done) × (applied K (after_record s done) records ≡ Some t)
applied_by K s t done records true is h = (is, h)
applied_by K s t done records false is h = absurd (none-some t h)

pub record Behind {J : Type 0} (s t : machine.Plain J) (n : ℕ) : Type 0 where
  pub number : t.number ≡ s.number + n
  pub real : t.ledger.set.real ≡ s.ledger.set.real
  pub segment : t.segment ≡ s.segment
  pub state : IsState s → IsState t

same_state : {J : Type 0} (s t : machine.Plain J) → Some s ≡ Some t → s ≡ t
same_state s t h = ap (λ o. elim o [ Some x ↦ x | None ↦ s ]) h

same_behind : {J : Type 0} (s t : machine.Plain J) → s ≡ t → Behind s t 0
same_behind s t same =
    record { number = (let n : s.number ≡ t.number = ap (λ (r : machine.Plain _). r.number) same in omega arith); real = sym (ap (λ (r : machine.Plain _). r.ledger.set.real) same); segment = sym (ap (λ (r : machine.Plain _). r.segment) same); state = λ k. subst IsState same k }

pub applied_behind : {J : Type 0} (K : Kind J) (s t : machine.Plain J) (records : List (Recorded J)) → applied K s records ≡ Some t → Behind s t (length records)
applied_behind K s t [] h = same_behind s t (same_state s t h)
applied_behind K s t (done ∷ records) h =
    let first = applied_by K s t done records (is_right K s done) refl h in
    let rest = applied_behind K (after_record s done) t records first.1 in
    record {
      number = (let n = rest.number in let one = number_after s done in omega arith);
      real = rest.real ∙ real_after K s done first.0;
      segment = rest.segment ∙ segment_after s done;
      state = λ k. rest.state (right_is_state K s done k first.0);
    }

-- without new weights, the set stays in force
pub record InForce {J : Type 0} (s t : machine.Plain J) : Type 0 where
  pub set : t.ledger.set ≡ s.ledger.set
  pub from : t.from ≡ s.from

pub in_force : {J : Type 0} (s : machine.Plain J) (done : Recorded J) → IsTrue (is_common done) → InForce s (after_record s done)
in_force s (submitted task job) common = record { set = refl; from = refl }
in_force s (ran row) common = record { set = refl; from = refl }
in_force s (withdrawn task) common = record { set = refl; from = refl }
in_force s (reweighed workers weights) common = absurd (false≢true common)

pub common_behind : {J : Type 0} (K : Kind J) (s t : machine.Plain J) (records : List (Recorded J)) → All (λ done. IsTrue (is_common done)) records → applied K s records ≡ Some t → InForce s t
common_behind K s t [] common h =
    let same = same_state s t h in
    record { set = sym (ap (λ (r : machine.Plain _). r.ledger.set) same); from = sym (ap (λ (r : machine.Plain _). r.from) same) }
common_behind K s t (done ∷ records) common h =
    let first = applied_by K s t done records (is_right K s done) refl h in
    let one = in_force s done (common 0 done (omega arith)) in
    let rest = common_behind K (after_record s done) t records (λ k d b. common (suc k) d (omega arith)) first.1 in
    record { set = rest.set ∙ one.set; from = rest.from ∙ one.from }
