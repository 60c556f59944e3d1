-- A step of the checkpoint, and an append behind it.
use Rattle.std.specs.Prelude.{◌≡◌, ◌≤◌, ℕ, ◌+◌, Bool, true, false, nat_lt, if◌then◌else◌, Result, Ok, Err, IsErrAnd, IsOk}
use Rattle.std.proofs.Common.{sym, ◌∙◌, ap, arith, refl, subst}
use Rattle.std.proofs.lemmas.Bool.{true≢false}
use Rattle.pfx_disk.specs.Disk.{View}
use Rattle.pfx_segment.specs.Segment.{Takes}
use Rattle.pfx_store_file.specs.Tending.{StaysPut, append_calls, calls_left, calls_of, next_step}
use Rattle.pfx_store_file.specs.declared.places.Places.{Places}
use Rattle.pfx_store_file.specs.declared.checkpoint.Tended.{Tended}
use Rattle.pfx_store_file.specs.declared.checkpoint.Tended.TheVariants.{Nothing, Closed, Piece, Finished}
use Rattle.pfx_store_engine.specs.Stepping.{command_calls}

-- the calls of the two together
together : (room : Bool) (step left mid : ℕ) → left ≡ step + mid → step + (if room then 4 else 10 + mid) ≡ (if room then step + 4 else 10 + left)
together true step left mid is = omega arith
together false step left mid is = omega (arith, is)

pub both_calls : (n : ℕ) (old mid : Places) → StaysPut old mid → calls_left old ≡ calls_of (next_step old) + calls_left mid → calls_of (next_step old) + append_calls n mid ≡ command_calls n old
both_calls n old mid put fewer =
    ap (λ (room : Bool). calls_of (next_step old) + (if room then 4 else 10 + calls_left mid)) (λ i. nat_lt (put.gate i + n) (put.end i))
    ∙ together (nat_lt (old.gate + n) old.end) (calls_of (next_step old)) (calls_left old) (calls_left mid) fewer

-- no step takes more
step_few : (t : Tended) → calls_of t ≤ 3
step_few Nothing = omega arith
step_few Closed = omega arith
step_few Piece = omega arith
step_few Finished = omega arith

step_within : (room : Bool) (step left : ℕ) → step ≤ 3 → step ≤ (if room then step + 4 else 10 + left)
step_within true step left few = omega arith
step_within false step left few = omega (arith, few)

-- a command whose step fails
pub takes_step_alone : {S T E F : Type 0} (n : ℕ) (old : Places) (a b : View) (first : Result S E) (result : Result T F) (e : F) → IsErrAnd result (λ x. x ≡ e) → Takes (calls_of (next_step old)) a b first → Takes (command_calls n old) a b result
takes_step_alone n old a b first (Err fault) e fails one =
    let most = one.at_most in
    let within = step_within (nat_lt (old.gate + n) old.end) (calls_of (next_step old)) (calls_left old) (step_few (next_step old)) in
    record { ok = λ is. absurd (true≢false (sym is)); later = one.later; at_most = omega (arith, most, within); no_fewer = one.no_fewer }
takes_step_alone n old a b first (Ok x) e fails one = absurd fails

-- a command that makes no call
pub takes_no_call : {T F : Type 0} (n : ℕ) (a : View) (fault : F) → Takes {T = T} n a a (Err fault)
takes_no_call n a fault = record { ok = λ is. absurd (true≢false (sym is)); later = omega arith; at_most = omega arith; no_fewer = omega arith }

-- an append after a step
pub takes_both : {S T E F : Type 0} (n k : ℕ) (old mid : Places) (a b c : View) (step : S) (result : Result T F) → n ≡ k → StaysPut old mid → calls_left old ≡ calls_of (next_step old) + calls_left mid →
    Takes {E = E} (calls_of (next_step old)) a b (Ok step) → Takes (append_calls n mid) b c result → Takes (command_calls k old) a c result
takes_both n k old mid a b c step result same put fewer one two =
    let first = one.ok refl in
    let clock = first.0 in
    let later = two.later in
    let most = two.at_most in
    let fails = first.1 in
    let fails_2 = two.no_fewer in
    let sum = subst (λ (j : ℕ). calls_of (next_step old) + append_calls n mid ≡ command_calls j old) same (both_calls n old mid put fewer) in
    record {
      ok = λ is. (let second = two.ok is in (let clock_2 = second.0 in (omega (arith, sum, clock, clock_2), second.1 ∙ fails)));
      later = omega (arith, clock, later);
      at_most = omega (arith, sum, clock, most);
      no_fewer = omega (arith, fails, fails_2);
    }

-- the same calls, told of another answer
pub takes_as : {S T E F : Type 0} (n : ℕ) (a b : View) (first : Result S E) (result : Result T F) → (IsOk result → IsOk first) → Takes n a b first → Takes n a b result
takes_as n a b first result f one = record { ok = λ is. one.ok (f is); later = one.later; at_most = one.at_most; no_fewer = one.no_fewer }
