-- How a call behind another one answers, and how many calls of the disk the two take.
use Rattle.std.specs.Prelude.{◌≡◌, ◌≤◌, ◌+◌, ℕ, Bool, true, false, Result, Ok, Err, IsErrAnd, IsOk, nat_lt, if◌then◌else◌}
use Rattle.std.proofs.Common.{sym, ◌∙◌, ap, subst, refl, arith}
use Rattle.std.proofs.lemmas.Bool.{true≢false, false≢true, cond-true, lt-ltb}
use Rattle.pfx_disk.specs.Disk.{View}
use Rattle.pfx_segment.specs.Segment.{Takes}
use Rattle.pfx_store_image.specs.declared.head.TheConstants.{SEGMENT_HEAD}
use Rattle.pfx_store_file.specs.Calls.{Works}
use Rattle.pfx_store_file.specs.Checkpoints.{in_progress}
use Rattle.pfx_store_file.specs.Fitting.{IsTurnable}
use Rattle.pfx_store_file.specs.Tending.{append_calls, calls_left, calls_to_end, pieces, turn_calls}
use Rattle.pfx_store_file.specs.declared.progress.Checkpoint.{Checkpoint}
use Rattle.pfx_store_file.specs.declared.progress.Checkpoint.TheVariants.{Ended, Pending, Writing}
use Rattle.pfx_store_file.specs.declared.faults.StoreFault.{StoreFault}
use Rattle.pfx_store_file.specs.declared.faults.StoreFault.TheVariants.{Device, Broken}
use Rattle.pfx_store_file.specs.declared.places.Places.{Places}

left_bound : (body : ℕ) (checkpoint : Checkpoint) → calls_to_end body checkpoint ≤ 5 + pieces body
left_bound body Ended = omega arith
left_bound body Pending = omega arith
left_bound body (Writing done) = omega arith

append_by : (room : Bool) (left n : ℕ) → left ≤ 5 + n → (if room then 4 else 10 + left) ≤ 15 + n
append_by true left n most = omega arith
append_by false left n most = omega (arith, most)

-- no append takes more calls than this
pub append_most : (n : ℕ) (places : Places) → append_calls n places ≤ 15 + pieces places.sizes.body
append_most n places = append_by (nat_lt (places.gate + n) places.end) (calls_left places) (pieces places.sizes.body) (left_bound places.sizes.body places.checkpoint)

-- the same calls, told of another answer
pub takes_told : {S T E F : Type 0} (m n : ℕ) (a b : View) (first : Result S E) (result : Result T F) → m ≡ n → (IsOk result → IsOk first) → Takes m a b first → Takes n a b result
takes_told m n a b first result is ok one = subst (λ (k : ℕ). Takes k a b result) is (record { ok = λ here. one.ok (ok here); later = one.later; at_most = one.at_most; no_fewer = one.no_fewer })

-- a call that answered, on a file that wasn't broken

abbrev answer_of : {T : Type 0} → T → Result T StoreFault
answer_of t = Ok t

pub no_fault : {T C : Type 0} (t : T) (f : StoreFault) → answer_of t ≡ Err f → C
no_fault t f is = cc

pub works_answered : {T : Type 0} (a b : View) (was is : Bool) (t : T) → was ≡ false → is ≡ false → Works a b was is (answer_of t)
works_answered a b was is t whole goes = record {
  whole = λ _. goes;
  device = λ here. no_fault t Device here;
  breaks = λ here. no_fault t Device here;
  broken = (λ here. no_fault t Broken here, λ here. absurd (true≢false (sym here ∙ whole)));
}

-- one whose answer is another one's, whatever that was
pub works_so : {S T : Type 0} (a b : View) (was is : Bool) (s : S) (t : T) → Works a b was is (answer_of s) → Works a b was is (answer_of t)
works_so a b was is s t works = record {
  whole = λ _. works.whole refl;
  device = λ here. no_fault t Device here;
  breaks = λ here. no_fault t Device here;
  broken = (λ here. no_fault t Broken here, λ here. no_fault s Broken (works.broken.1 here));
}

pub takes_answered : {T E : Type 0} (m n : ℕ) (a b : View) (result : Result T E) → m ≡ n → (b.clock ≡ a.clock + m) × (b.failures ≡ a.failures) → Takes n a b result
takes_answered m n a b result is first =
    let (clock, fails) = first in
    record {
      ok = λ _. (omega (arith, is, clock), fails);
      later = omega (arith, clock);
      at_most = omega (arith, is, clock);
      no_fewer = omega (arith, fails);
    }

-- one whose fault was handed on

pub not_ok : {T C : Type 0} (result : Result T StoreFault) (e : StoreFault) → IsErrAnd result (λ x. x ≡ e) → IsOk result → C
not_ok (Ok t) e of ok = absurd of
not_ok (Err x) e of ok = absurd (false≢true ok)

-- a turn that is lawful takes six
pub six_calls : (places : Places) → IsTurnable places → 6 ≡ turn_calls places
six_calls places lawful =
    sym (ap (λ b. if b then 0 else (if nat_lt (places.end + SEGMENT_HEAD) (places.gate + places.sizes.segment) then 6 else 0)) (ap in_progress lawful.0) ∙ cond-true _ _ _ (lt-ltb _ _ lawful.1))
