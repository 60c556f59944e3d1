-- A state's bytes with its set, as they are written and read.
use Rattle.std.specs.Prelude.{◌≡◌, ◌≢◌, ℕ, ◌+◌, ◌*◌, ◌-◌, ◌≤◌, List, [], ◌++◌, length, take, drop, slice_index, Some, None, Result, Err}
use Rattle.std.proofs.Common.{sym, ◌∙◌, ap, ap₂, arith, subst, append_assoc, append-nil, length-append}
use Rattle.std.proofs.Math.ListN.{drop_of_length-le}
use Rattle.std.proofs.Math.Seq.{take-append_seam, drop-append-add}
use Rattle.std.proofs.lemmas.Bool.{cond-true, cond-false, false_from_ne_true}
use Rattle.std.proofs.lemmas.List.{drop-append-le, length-drop, length-take-le}
use Rattle.byteorder.specs.Endian.{little_bytes}
use Rattle.pfx_jobs.specs.Kind.{Kind}
use Rattle.pfx_jobs.proofs.Codings.{bytes_eq-same, bytes_eq-true}
use Rattle.pfx_machine.specs.Plain.{Plain}
use Rattle.pfx_weights.specs.Bytes.{weights_of}
use Rattle.pfx_weights.specs.Sets.{FilledSet, IsFilled}
use Rattle.pfx_weights.proofs.Tests.{sets_from}
use Rattle.pfx_weights.proofs.Written.{length-weights_of}
use Rattle.pfx_checkpoint.specs.Found.{number_at, read_state, Reads}
use Rattle.pfx_checkpoint.specs.Spelling.{state_len}
use Rattle.pfx_checkpoint.specs.Whole.{whole_bytes, whole_len, set_at, inner, if_some, checked, read_of_set, read_whole}
use Rattle.pfx_checkpoint.specs.declared.faults.CheckpointFault.{CheckpointFault}
use Rattle.pfx_checkpoint.specs.declared.faults.CheckpointFault.TheVariants.{Damaged, NoMemory}
use Rattle.pfx_checkpoint.proofs.Accepted.{real_of}
use Rattle.pfx_checkpoint.proofs.Fronts.{length-eight, place_out}

-- what is written over the front of bytes that stand behind others, up to the end of those bytes
pub over_front : (old body head : List ℕ) (at tasks end : ℕ) → at ≤ length old → tasks ≡ at + 16 → end ≡ at + length body → 16 ≤ length body → length head ≡ tasks →
    (rest : List ℕ) → take end (head ++ drop tasks (take at old ++ (body ++ rest))) ≡ head ++ drop 16 body
over_front old body head at tasks end within next ends room long rest =
    let front = take at old in
    let front_long : length front ≡ at = length-take-le at old within in
    let split : tasks ≡ length front + 16 = omega (arith, next, front_long) in
    let tail : drop tasks (front ++ (body ++ rest)) ≡ drop 16 body ++ rest =
    ap (λ n. drop n (front ++ (body ++ rest))) split ∙ (drop-append-add front (body ++ rest) 16 ∙ drop-append-le 16 body rest room) in
    let both = head ++ drop 16 body in
    let left = length-drop 16 body in
    let both_long : end ≡ length both = (let all = length-append head (drop 16 body) in omega (arith, all, left, ends, next, long, room)) in
    ap (λ t. take end (head ++ t)) tail
    ∙ (ap (take end) (sym (append_assoc head (drop 16 body) rest))
    ∙ (ap (λ n. take n (both ++ rest)) both_long ∙ take-append_seam both rest))

-- and the same with other bytes behind them, up to the last
pub all_over : (old body head zeros : List ℕ) (at tasks end n : ℕ) → at ≤ length old → tasks ≡ at + 16 → end ≡ at + length body → 16 ≤ length body → length head ≡ tasks →
    (rest : List ℕ) → length (head ++ drop tasks (take at old ++ (body ++ rest))) ≤ end + n →
    take end (head ++ drop tasks (take at old ++ (body ++ rest))) ++ (zeros ++ drop n (drop end (head ++ drop tasks (take at old ++ (body ++ rest))))) ≡ head ++ (drop 16 body ++ zeros)
all_over old body head zeros at tasks end n within next ends room long rest past =
    let all = head ++ drop tasks (take at old ++ (body ++ rest)) in
    let none : drop n (drop end all) ≡ [] = drop_of_length-le (drop end all) (let left = length-drop end all in omega (arith, left, past)) in
    ap₂ (λ x y. x ++ (zeros ++ y)) (over_front old body head at tasks end within next ends room long rest) none
    ∙ (ap (λ t. (head ++ drop 16 body) ++ t) (append-nil zeros) ∙ append_assoc head (drop 16 body) zeros)

-- as many bytes stand there as before
pub over_long : (old body head : List ℕ) (at k tasks : ℕ) → length body ≡ k → at + k ≤ length old → tasks ≤ at + k → length head ≡ tasks →
    length (head ++ drop tasks (take at old ++ (body ++ drop k (drop at old)))) ≡ length old
over_long old body head at k tasks is within less long =
    let rest = drop k (drop at old) in
    let a = length-take-le at old (omega (arith, within)) in
    let b = length-drop at old in
    let c = length-drop k (drop at old) in
    let two = length-append body rest in
    let three = length-append (take at old) (body ++ rest) in
    let left = length-drop tasks (take at old ++ (body ++ rest)) in
    let all = length-append head (drop tasks (take at old ++ (body ++ rest))) in
    omega (arith, is, within, less, long, a, b, c, two, three, left, all)

-- the bytes of the state alone are as many as those of each state of the set
pub inner_long : (set : FilledSet) (bytes : List ℕ) → IsFilled set → length bytes ≡ whole_len set.real → length (inner set bytes) ≡ state_len set
inner_long set bytes filled long =
    let front = filled.front in
    let few = filled.few in
    let len = place_out set.real (length set.weights) front in
    let n = number_at 0 bytes in
    let t = number_at 8 bytes - number_at 16 bytes in
    let tasks = drop (25 + 8 * set.real) bytes in
    let left = length-drop (25 + 8 * set.real) bytes in
    let rest = length-take-le (state_len set - 16) tasks (omega (arith, front, few, len, left, long)) in
    let a = length-eight n in
    let b = length-eight t in
    let two = length-append (little_bytes 8 t) (take (state_len set - 16) tasks) in
    let all = length-append (little_bytes 8 n) (little_bytes 8 t ++ take (state_len set - 16) tasks) in
    omega (arith, len, rest, a, b, two, all)

-- what is read, by what stands there

-- a set that stands there has so many real tasks
pub set_real : (n : ℕ) (bytes : List ℕ) (set : FilledSet) → set_at n bytes ≡ Some set → set.real ≡ n
set_real n bytes set is = real_of _ _ set (sets_from (slice_index bytes 24) (weights_of n (drop 25 bytes)) set is) ∙ length-weights_of n (drop 25 bytes)

module _ {J : Type 0} (K : Kind J) (bytes : List ℕ) where
  pub checked_is : (s : Plain J) → bytes ≡ whole_bytes K s → checked K bytes s ≡ Some s
  checked_is s same = cond-true _ _ _ (bytes_eq-same bytes (whole_bytes K s) same)

  pub checked_none : (s : Plain J) → bytes ≢ whole_bytes K s → checked K bytes s ≡ None
  checked_none s other = cond-false _ _ _ (false_from_ne_true _ (λ is. other (bytes_eq-true bytes (whole_bytes K s) is)))

  -- a state that was read, and compared
  pub compared : (segment : ℕ) (set : FilledSet) (s : Plain J) (r : Result (Plain J) CheckpointFault) → read_state K (number_at 16 bytes) segment set (inner set bytes) ≡ Some s →
      Reads (checked K bytes s) r → Reads (read_of_set K segment bytes set) r
  compared segment set s r found h = subst (λ o. Reads o r) (sym (ap (λ o. if_some o (checked K bytes)) found)) h

  pub no_state : (segment : ℕ) (set : FilledSet) → read_state K (number_at 16 bytes) segment set (inner set bytes) ≡ None → read_of_set K segment bytes set ≡ None
  no_state segment set none = ap (λ o. if_some o (checked K bytes)) none

  pub failed : (segment : ℕ) (set : FilledSet) (f : CheckpointFault) → Reads (read_state K (number_at 16 bytes) segment set (inner set bytes)) (Err f) → Reads (read_of_set K segment bytes set) (Err f)
  failed segment set Damaged none = no_state segment set none
  failed segment set NoMemory none = tt

  -- a set that was found
  pub of_set : (n segment : ℕ) (set : FilledSet) (r : Result (Plain J) CheckpointFault) → set_at n bytes ≡ Some set → Reads (read_of_set K segment bytes set) r → Reads (read_whole K n segment bytes) r
  unfolding read_whole
  of_set n segment set r found h = subst (λ o. Reads o r) (sym (ap (λ o. if_some o (read_of_set K segment bytes)) found)) h

  pub no_set : (n segment : ℕ) → set_at n bytes ≡ None → read_whole K n segment bytes ≡ None
  unfolding read_whole
  no_set n segment none = ap (λ o. if_some o (read_of_set K segment bytes)) none
