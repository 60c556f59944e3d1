-- A state's bytes with its set are read as that state, and no other bytes are.
use Rattle.std.specs.Prelude.{◌≡◌, ℕ, ◌+◌, ◌*◌, ◌-◌, if◌then◌else◌, Bool, true, false, List, [], ◌∷◌, ◌++◌, length, take, drop, replicate, slice_index, Option, Some, None, refl}
use Rattle.std.specs.Str.{bytes_eq}
use Rattle.std.proofs.Common.{sym, ◌∙◌, ap, ap₂, subst, arith, append_assoc, length-append, length-take}
use Rattle.std.proofs.Math.Seq.{take-append_seam, drop-append_seam, drop-append-add}
use Rattle.std.proofs.lemmas.Bool.{cond-true}
use Rattle.std.proofs.lemmas.List.{length-drop, length-replicate}
use Rattle.std.proofs.lemmas.Option.{none-some}
use Rattle.byteorder.specs.Endian.{little_bytes}
use Rattle.pfx_weights.specs.Bytes.{weights_bytes, weights_of}
use Rattle.pfx_weights.specs.Sets.{FilledSet}
use Rattle.pfx_weights.specs.Tests.{set_of}
use Rattle.pfx_weights.proofs.Tests.{sets_ok, sets_from}
use Rattle.pfx_weights.proofs.Written.{length-weights, length-weights_of, weights_back, small_weights}
use Rattle.pfx_columns.specs.Ledgers.{total}
use Rattle.pfx_jobs.specs.Kind.{Kind, Laws}
use Rattle.pfx_jobs.proofs.Codings.{bytes_eq-same, bytes_eq-true}
use Rattle.pfx_machine.specs.Plain.{Plain, whole, IsState}
use Rattle.pfx_checkpoint.specs.Spelling.{state_bytes, state_len, place_of}
use Rattle.pfx_checkpoint.specs.Found.{number_at, read_state}
use Rattle.pfx_checkpoint.specs.Whole.{real_tasks, before_bytes, head_bytes, spare, whole_bytes, whole_len, set_at, inner, if_some, checked, read_of_set, read_whole}
use Rattle.pfx_checkpoint.proofs.Accepted.{filled_of, of_tasks, real_of}
use Rattle.pfx_checkpoint.proofs.Fronts.{length-front, length-eight, place_out}
use Rattle.pfx_checkpoint.proofs.Readings.{number_seam, flag_of, bytes_begin, frozen_read, only_states, read_segment}

-- the parts of the bytes

module _ {J : Type 0} (K : Kind J) (L : Laws K) (s : Plain J) (h : IsState s) where
  abbrev Rest : List ℕ
  Rest = drop 16 (state_bytes K s) ++ replicate (spare s.ledger.set) 0

  abbrev Weights : List ℕ
  Weights = weights_bytes (real_tasks s.ledger.set)

  split : whole_bytes K s ≡ little_bytes 8 s.number ++ (little_bytes 8 (whole s) ++ (little_bytes 8 s.from ++ (s.ledger.set.workers ∷ (Weights ++ Rest))))
  unfolding whole_bytes
  split =
      let behind = Weights ++ Rest in
      append_assoc (before_bytes s) Weights Rest
      ∙ (append_assoc (little_bytes 8 s.number) (little_bytes 8 (whole s) ++ (little_bytes 8 s.from ++ s.ledger.set.workers ∷ [])) behind
      ∙ (ap (λ t. little_bytes 8 s.number ++ t) (append_assoc (little_bytes 8 (whole s)) (little_bytes 8 s.from ++ s.ledger.set.workers ∷ []) behind)
      ∙ ap (λ t. little_bytes 8 s.number ++ (little_bytes 8 (whole s) ++ t)) (append_assoc (little_bytes 8 s.from) (s.ledger.set.workers ∷ []) behind)))

  pub number_is : number_at 0 (whole_bytes K s) ≡ s.number
  number_is = (let n = h.number in ap (number_at 0) split ∙ number_seam [] (little_bytes 8 (whole s) ++ (little_bytes 8 s.from ++ (s.ledger.set.workers ∷ (Weights ++ Rest)))) 0 s.number refl (omega (arith, n)))

  slot_is : number_at 8 (whole_bytes K s) ≡ whole s
  slot_is = (let t = h.slot in ap (number_at 8) split ∙ number_seam (little_bytes 8 s.number) (little_bytes 8 s.from ++ (s.ledger.set.workers ∷ (Weights ++ Rest))) 8 (whole s) (length-eight s.number) (omega (arith, t)))

  abbrev Two : List ℕ
  Two = little_bytes 8 s.number ++ little_bytes 8 (whole s)

  two_long : length Two ≡ 16
  two_long = (let a = length-eight s.number in let b = length-eight (whole s) in length-append (little_bytes 8 s.number) (little_bytes 8 (whole s)) ∙ omega (arith, a, b))

  split_two : whole_bytes K s ≡ Two ++ (little_bytes 8 s.from ++ (s.ledger.set.workers ∷ (Weights ++ Rest)))
  split_two = split ∙ sym (append_assoc (little_bytes 8 s.number) (little_bytes 8 (whole s)) _)

  from_is : number_at 16 (whole_bytes K s) ≡ s.from
  from_is = (let t = h.slot in ap (number_at 16) split_two ∙ number_seam Two (s.ledger.set.workers ∷ (Weights ++ Rest)) 16 s.from two_long (omega (arith, t)))

  abbrev Three : List ℕ
  Three = Two ++ little_bytes 8 s.from

  three_long : length Three ≡ 24
  three_long = (let b = length-eight s.from in length-append Two (little_bytes 8 s.from) ∙ omega (arith, two_long, b))

  split_three : whole_bytes K s ≡ Three ++ (s.ledger.set.workers ∷ (Weights ++ Rest))
  split_three = split_two ∙ sym (append_assoc Two (little_bytes 8 s.from) _)

  workers_is : slice_index (whole_bytes K s) 24 ≡ s.ledger.set.workers
  workers_is = ap (λ xs. slice_index xs 24) split_three ∙ flag_of Three (s.ledger.set.workers ∷ (Weights ++ Rest)) 24 three_long

  behind_is : drop 25 (whole_bytes K s) ≡ Weights ++ Rest
  behind_is =
      let at : 25 ≡ length Three + 1 = omega (arith, three_long) in
      ap (drop 25) split_three ∙ (ap (λ n. drop n (Three ++ (s.ledger.set.workers ∷ (Weights ++ Rest)))) at
      ∙ drop-append-add Three (s.ledger.set.workers ∷ (Weights ++ Rest)) 1)

  real_is : length (real_tasks s.ledger.set) ≡ s.ledger.set.real
  real_is = (let f = h.ledger.set.front in length-take s.ledger.set.real s.ledger.set.weights ∙ omega (arith, f))

  set_is : set_at s.ledger.set.real (whole_bytes K s) ≡ Some s.ledger.set
  set_is =
      let tasks : weights_of s.ledger.set.real (drop 25 (whole_bytes K s)) ≡ real_tasks s.ledger.set =
      ap (weights_of s.ledger.set.real) behind_is
      ∙ (ap (λ n. weights_of n (Weights ++ Rest)) (sym real_is)
      ∙ weights_back (real_tasks s.ledger.set) Rest (small_weights _ _ _ h.set)) in
      ap₂ set_of workers_is tasks ∙ sets_ok _ _ _ h.set

  -- the state alone

  alone : (rest : List ℕ) × (state_bytes K s ≡ little_bytes 8 s.number ++ (little_bytes 8 s.ledger.slot ++ rest))
  alone = bytes_begin K s

  alone_behind : drop 16 (state_bytes K s) ≡ alone.0
  alone_behind =
      let front = little_bytes 8 s.number ++ little_bytes 8 s.ledger.slot in
      let a = length-eight s.number in
      let b = length-eight s.ledger.slot in
      let long : length front ≡ 16 = length-append (little_bytes 8 s.number) (little_bytes 8 s.ledger.slot) ∙ omega (arith, a, b) in
      ap (drop 16) (alone.1 ∙ sym (append_assoc (little_bytes 8 s.number) (little_bytes 8 s.ledger.slot) alone.0))
      ∙ (ap (λ n. drop n (front ++ alone.0)) (sym long) ∙ drop-append_seam front alone.0)

  pub alone_long : length (state_bytes K s) ≡ state_len s.ledger.set
  unfolding state_bytes
  alone_long = length-front K L s (total s.ledger) ∙ ap (λ n. place_of n (total s.ledger)) h.jobs

  pub len_is : state_len s.ledger.set ≡ 16 + 137 * s.ledger.set.real + 8 * (length s.ledger.set.weights - s.ledger.set.real)
  len_is = place_out s.ledger.set.real (length s.ledger.set.weights) h.ledger.set.front

  tasks_long : length (drop 16 (state_bytes K s)) ≡ state_len s.ledger.set - 16
  tasks_long = length-drop 16 (state_bytes K s) ∙ omega (arith, alone_long)

  abbrev Head : List ℕ
  Head = head_bytes s

  pub head_long : length Head ≡ 25 + 8 * s.ledger.set.real
  head_long =
      let a = length-eight s.number in
      let b = length-eight (whole s) in
      let c = length-eight s.from in
      let w = length-weights (real_tasks s.ledger.set) in
      let one = length-append (little_bytes 8 s.number) (little_bytes 8 (whole s) ++ (little_bytes 8 s.from ++ s.ledger.set.workers ∷ [])) in
      let two = length-append (little_bytes 8 (whole s)) (little_bytes 8 s.from ++ s.ledger.set.workers ∷ []) in
      let three = length-append (little_bytes 8 s.from) (s.ledger.set.workers ∷ []) in
      let all = length-append (before_bytes s) Weights in
      omega (arith, a, b, c, w, one, two, three, all, real_is)

  tail_is : drop (25 + 8 * s.ledger.set.real) (whole_bytes K s) ≡ Rest
  unfolding whole_bytes
  tail_is = ap (λ n. drop n (Head ++ Rest)) (sym head_long) ∙ drop-append_seam Head Rest

  inner_is : inner s.ledger.set (whole_bytes K s) ≡ state_bytes K s
  inner_is =
      let n : little_bytes 8 (number_at 0 (whole_bytes K s)) ≡ little_bytes 8 s.number = ap (little_bytes 8) number_is in
      let t : little_bytes 8 (number_at 8 (whole_bytes K s) - number_at 16 (whole_bytes K s)) ≡ little_bytes 8 s.ledger.slot =
      (let d : number_at 8 (whole_bytes K s) - number_at 16 (whole_bytes K s) ≡ s.ledger.slot = omega (arith, slot_is, from_is) in ap (little_bytes 8) d) in
      let r : take (state_len s.ledger.set - 16) (drop (25 + 8 * s.ledger.set.real) (whole_bytes K s)) ≡ alone.0 =
      ap (take (state_len s.ledger.set - 16)) tail_is
      ∙ (ap (λ k. take k Rest) (sym tasks_long) ∙ (take-append_seam (drop 16 (state_bytes K s)) (replicate (spare s.ledger.set) 0) ∙ alone_behind)) in
      ap₂ (λ x y. x ++ y) n (ap₂ (λ x y. x ++ y) t r) ∙ sym alone.1

  pub whole_long : length (whole_bytes K s) ≡ whole_len s.ledger.set.real
  unfolding whole_bytes
  whole_long =
      let all = length-append Head Rest in
      let rest = length-append (drop 16 (state_bytes K s)) (replicate (spare s.ledger.set) 0) in
      let none : ℕ = 0 in
      let zeros : length (replicate (spare s.ledger.set) 0) ≡ spare s.ledger.set = length-replicate (spare s.ledger.set) none in
      let few = h.ledger.set.few in
      let front = h.ledger.set.front in
      omega (arith, all, rest, zeros, few, front, head_long, tasks_long, len_is)

  pub whole_read : read_whole K s.ledger.set.real s.segment (whole_bytes K s) ≡ Some s
  unfolding read_whole
  whole_read =
      let bytes = whole_bytes K s in
      let found : read_state K (number_at 16 bytes) s.segment s.ledger.set (inner s.ledger.set bytes) ≡ Some s =
      ap₂ (λ f xs. read_state K f s.segment s.ledger.set xs) from_is inner_is ∙ frozen_read K L s h in
      ap (λ o. if_some o (read_of_set K s.segment bytes)) set_is
      ∙ (ap (λ o. if_some o (checked K bytes)) found
      ∙ cond-true _ _ _ (bytes_eq-same bytes bytes refl))

-- only these

some_from : {A B : Type 0} (o : Option A) (f : A → Option B) (y : B) → if_some o f ≡ Some y → (x : A) × (o ≡ Some x) × (f x ≡ Some y)
some_from None f y e = absurd (none-some y e)
some_from (Some x) f y e = (x, refl, e)

checked_from : {J : Type 0} (K : Kind J) (t s : Plain J) (b : Bool) → (if b then Some t else None) ≡ Some s → (b ≡ true) × (t ≡ s)
checked_from K t s true e = (refl, (let same : t ≡ s = cc in same))
checked_from K t s false e = absurd (none-some s e)

pub only_whole : {J : Type 0} (K : Kind J) (n segment : ℕ) (bytes : List ℕ) (s : Plain J) → read_whole K n segment bytes ≡ Some s →
    IsState s × (s.ledger.set.real ≡ n) × (s.segment ≡ segment) × (whole_bytes K s ≡ bytes)
unfolding read_whole
only_whole K n segment bytes s e =
    let a = some_from (set_at n bytes) _ s e in
    let set = a.0 in
    let accepts = sets_from (slice_index bytes 24) (weights_of n (drop 25 bytes)) set a.1 in
    let b = some_from (read_state K (number_at 16 bytes) segment set (inner set bytes)) (checked K bytes) s a.2 in
    let t = b.0 in
    let c = checked_from K t s (bytes_eq bytes (whole_bytes K t)) b.2 in
    let only = only_states K (number_at 16 bytes) segment set (inner set bytes) t (of_tasks _ _ set accepts) (filled_of _ _ set accepts) b.1 in
    let of_set : s.ledger.set ≡ set = sym (ap (λ (u : Plain _). u.ledger.set) c.1) ∙ only.1 in (
      subst IsState c.1 only.0,
      ap (λ (u : FilledSet). u.real) of_set ∙ (real_of _ _ set accepts ∙ length-weights_of n (drop 25 bytes)),
      sym (ap (λ (u : Plain _). u.segment) c.1) ∙ read_segment K (number_at 16 bytes) segment set (inner set bytes) t b.1,
      sym (ap (whole_bytes K) c.1) ∙ sym (bytes_eq-true _ _ c.0),
    )
