-- One task of a row in the bytes.
use Rattle.std.proofs.Common.{◌≡◌, ◌≢◌, ◌≤◌, ◌<◌, ◌⊎◌, inl, inr, ℕ, ◌+◌, ◌-◌, ◌^◌, List, [], ◌∷◌, ◌++◌, length, get_or, drop, Option, Some, None, sym, ◌∙◌, ap, subst, arith, length-append, length-drop}
use Rattle.std.proofs.lemmas.List.{drop-drop, get_or-drop}
use Rattle.pfx_jobs.specs.Kind.{Kind, Laws}
use Rattle.pfx_record.specs.Begins.{Begins}
use Rattle.pfx_record.specs.Numbers.{number_bytes}
use Rattle.pfx_record.specs.Records.{state_bytes, place_bytes}
use Rattle.pfx_record.specs.declared.record.Place.{Place}
use Rattle.pfx_record.proofs.Again.{length-number_bytes}
use Rattle.pfx_record.proofs.Fronts.{begins_left, begins_behind, begins_with, begins_head, begins_tail, begins_one, begins_cons, begins_len}
use Rattle.pfx_record.proofs.Spellings.{same_number}

pub head_at : (n : ℕ) (bytes : List ℕ) → get_or (drop n bytes) 0 0 ≡ get_or bytes n 0
head_at n bytes = get_or-drop n bytes 0 0 ∙ ap (λ (k : ℕ). get_or bytes k 0) (none n)
  where
    none : (n : ℕ) → n + 0 ≡ n
    none n = omega arith

module _ {J : Type 0} (K : Kind J) (L : Laws K) (bytes : List ℕ) (at : ℕ) where
  behind : (n : ℕ) (xs ys : List ℕ) → length xs ≡ n → Begins (drop at bytes) (xs ++ ys) → Begins (drop (at + n) bytes) ys
  behind n xs ys long b = subst (λ (l : List ℕ). Begins l ys) (drop-drop n at bytes) (begins_behind n (drop at bytes) xs ys long b)

  put_behind : (n : ℕ) (xs ys : List ℕ) → length xs ≡ n → Begins (drop at bytes) xs → Begins (drop (at + n) bytes) ys → Begins (drop at bytes) (xs ++ ys)
  put_behind n xs ys long b c = begins_with n (drop at bytes) xs ys long b (subst (λ (l : List ℕ). Begins l ys) (sym (drop-drop n at bytes)) c)

  place_task : (place : Place J) → Begins (drop at bytes) (place_bytes K place) → Begins (drop at bytes) (number_bytes 2 place.task)
  place_task place b = begins_left (drop at bytes) (number_bytes 2 place.task) (state_bytes K place.state) b

  place_state : (place : Place J) → Begins (drop at bytes) (place_bytes K place) → Begins (drop (at + 2) bytes) (state_bytes K place.state)
  place_state place b = behind 2 (number_bytes 2 place.task) (state_bytes K place.state) (length-number_bytes 2 place.task) b

  some_byte : (o : Option J) → 0 < length (state_bytes K o)
  some_byte None = omega arith
  some_byte (Some s) = omega arith

  pub short : length bytes - at < 3 → (place : Place J) → Begins (drop at bytes) (place_bytes K place) → ⊥
  short less place b = omega (arith, some_byte place.state, begins_len (drop (at + 2) bytes) (state_bytes K place.state) (place_state place b), length-drop (at + 2) bytes)

  pub low_task : (task low : ℕ) → task < 2 ^ 16 → Begins (drop at bytes) (number_bytes 2 task) → task < low
      → (place : Place J) → low ≤ place.task → place.task < 2 ^ 16 → Begins (drop at bytes) (place_bytes K place) → ⊥
  low_task task low small stands less place above small_place b =
      omega (arith, less, above, same_number 2 (drop at bytes) task place.task (omega (arith, small)) (omega (arith, small_place)) stands (place_task place b))

  -- the flag says whether a state follows
  pub flagged : (place : Place J) → Begins (drop at bytes) (place_bytes K place)
      → (get_or bytes (at + 2) 0 ≡ 0) ⊎ ((get_or bytes (at + 2) 0 ≡ 1) × ((s : J) × Begins (drop (at + 3) bytes) (K.spelling s)))
  flagged place b = by_state place.state (place_state place b)
    where
      next : drop 1 (drop (at + 2) bytes) ≡ drop (at + 3) bytes
      next = drop-drop 1 (at + 2) bytes ∙ ap (λ (k : ℕ). drop k bytes) (omega arith)

      by_state : (o : Option J) → Begins (drop (at + 2) bytes) (state_bytes K o) → (get_or bytes (at + 2) 0 ≡ 0) ⊎ ((get_or bytes (at + 2) 0 ≡ 1) × ((s : J) × Begins (drop (at + 3) bytes) (K.spelling s)))
      by_state None f = inl (sym (head_at (at + 2) bytes) ∙ begins_head (drop (at + 2) bytes) 0 [] f)
      by_state (Some s) f = inr (sym (head_at (at + 2) bytes) ∙ begins_head (drop (at + 2) bytes) 1 (K.spelling s) f, (s, subst (λ (l : List ℕ). Begins l (K.spelling s)) next (begins_tail (drop (at + 2) bytes) 1 (K.spelling s) f)))

  pub other_flag : get_or bytes (at + 2) 0 ≢ 0 → get_or bytes (at + 2) 0 ≢ 1 → (place : Place J) → Begins (drop at bytes) (place_bytes K place) → ⊥
  other_flag not_0 not_1 place b = elim (flagged place b) [ inl is ↦ not_0 is | inr is ↦ not_1 is.0 ]

  pub no_state : get_or bytes (at + 2) 0 ≢ 0 → ((s : J) → Begins (drop (at + 3) bytes) (K.spelling s) → ⊥) → (place : Place J) → Begins (drop at bytes) (place_bytes K place) → ⊥
  no_state not_0 none place b = elim (flagged place b) [ inl is ↦ not_0 is | inr is ↦ none is.1.0 is.1.1 ]

  pub short_state : length bytes - at < 131 → (s : J) → Begins (drop (at + 3) bytes) (K.spelling s) → ⊥
  short_state less s b = omega (arith, less, L.long s, begins_len (drop (at + 3) bytes) (K.spelling s) b, length-drop (at + 3) bytes)

  module _ (task : ℕ) (stands : Begins (drop at bytes) (number_bytes 2 task)) where
    pub without_state : at + 3 ≤ length bytes → get_or bytes (at + 2) 0 ≡ 0 → Begins (drop at bytes) (number_bytes 2 task ++ (0 ∷ []))
    without_state long flag = put_behind 2 (number_bytes 2 task) (0 ∷ []) (length-number_bytes 2 task) stands (begins_one (drop (at + 2) bytes) 0 (omega (arith, long, length-drop (at + 2) bytes)) (head_at (at + 2) bytes ∙ flag))

    pub with_state : at + 3 ≤ length bytes → get_or bytes (at + 2) 0 ≡ 1 → (s : J) → Begins (drop (at + 3) bytes) (K.spelling s) → Begins (drop at bytes) (number_bytes 2 task ++ (1 ∷ K.spelling s))
    with_state long flag s b = put_behind 2 (number_bytes 2 task) (1 ∷ K.spelling s) (length-number_bytes 2 task) stands
        (begins_cons (drop (at + 2) bytes) 1 (K.spelling s) (omega (arith, long, length-drop (at + 2) bytes)) (head_at (at + 2) bytes ∙ flag)
        (subst (λ (l : List ℕ). Begins l (K.spelling s)) (sym (drop-drop 1 (at + 2) bytes ∙ ap (λ (k : ℕ). drop k bytes) (omega arith))) b))

  pub length_without : (task : ℕ) → 3 ≡ length (number_bytes 2 task ++ (0 ∷ []))
  length_without task = omega (arith, length-append (number_bytes 2 task) (0 ∷ []), length-number_bytes 2 task)

  pub length_with : (task : ℕ) (s : J) → 131 ≡ length (number_bytes 2 task ++ (1 ∷ K.spelling s))
  length_with task s = omega (arith, length-append (number_bytes 2 task) (1 ∷ K.spelling s), length-number_bytes 2 task, L.long s)
