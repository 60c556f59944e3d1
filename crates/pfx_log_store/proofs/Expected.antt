-- Which frames may stand in a file: up to a number such as end there at the latest, and behind it these, one behind the other.
use Rattle.std.proofs.Common.{◌≡◌, ⊎_elim, ℕ, ◌≤◌, ◌<◌, List, [], ◌∷◌, ◌++◌, get_or, drop, refl, sym, ◌∙◌, ap, subst, arith, append_assoc, Bool, true, false, Option, Some, None, ◌==◌}
use Rattle.std.specs.Prelude.{if◌then◌else◌, nat_le, nat_lt}
use Rattle.std.specs.Str.{bytes_eq}
use Rattle.std.proofs.lemmas.Bool.{cases_lt, false≢true, le-leb, le-ltb, leb-true, lt-ltb}
use Rattle.std.proofs.lemmas.Option.{same_Some}
use Rattle.std.proofs.lemmas.Slice.Eq.{bytes_eq-Decides}
use Rattle.pfx_store_image.specs.Codec.{Codec, Laws}
use Rattle.pfx_store_image.specs.Store.{Numbers}
use Rattle.pfx_store_image.proofs.Runs.{numbers_rise, other_false, same_true}
use Rattle.pfx_log_store.proofs.Fitted.{AllMay, may_joined}

abbrev pub on_next : Option ℕ → (ℕ → Bool) → Bool
on_next (Some k) f = f k
on_next None f = false

on_next_is : (o : Option ℕ) (f : ℕ → Bool) → on_next o f ≡ true → (k : ℕ) × (o ≡ Some k) × (f k ≡ true)
on_next_is (Some k) f is = (k, refl, is)
on_next_is None f is = absurd (false≢true is)

module _ {H S : Type 0} (K : Codec H S) (laws : Laws K) where
  -- the frame is the one that begins behind number n, of these, which begin behind number m
  abbrev pub expected : ℕ → List (List ℕ) → ℕ → List ℕ → Bool
  expected m [] n frame = false
  expected m (first ∷ frames) n frame = if n == m then bytes_eq first frame else on_next (K.after m first) (λ k. expected k frames n frame)

  expected_here : (m : ℕ) (first : List ℕ) (frames : List (List ℕ)) (n : ℕ) (frame : List ℕ) → n ≡ m → expected m (first ∷ frames) n frame ≡ bytes_eq first frame
  expected_here m first frames n frame same = ap (λ b. if b then bytes_eq first frame else on_next (K.after m first) (λ k. expected k frames n frame)) (same_true n m same)

  expected_on : (m : ℕ) (first : List ℕ) (frames : List (List ℕ)) (n : ℕ) (frame : List ℕ) (k : ℕ) → m < n → K.after m first ≡ Some k → expected m (first ∷ frames) n frame ≡ expected k frames n frame
  expected_on m first frames n frame k less after =
      ap (λ b. if b then bytes_eq first frame else on_next (K.after m first) (λ k. expected k frames n frame)) (other_false n m (λ same. omega (arith, less, same)))
      ∙ ap (λ o. on_next o (λ k. expected k frames n frame)) after

  expected_at : (m : ℕ) (done : List (List ℕ)) (n : ℕ) (x : List ℕ) (others : List (List ℕ)) → Numbers K m done n → expected m (done ++ x ∷ others) n x ≡ true
  expected_at m [] n x others is = expected_here m x others n x (sym is) ∙ (bytes_eq-Decides x x).1 refl
  expected_at m (d ∷ done) n x others is =
      expected_on m d (done ++ x ∷ others) n x is.0 (let low = laws.later m d is.0 is.1 in let rise = numbers_rise K laws is.0 done n is.2 in omega (arith, low, rise)) is.1
      ∙ expected_at is.0 done n x others is.2

  expected_is : (m : ℕ) (done : List (List ℕ)) (n : ℕ) (x : List ℕ) (rest : List (List ℕ)) → Numbers K m done n → expected m (done ++ rest) n x ≡ true → (others : List (List ℕ)) × (rest ≡ x ∷ others)
  expected_is m [] n x [] is there = absurd (false≢true there)
  expected_is m [] n x (f ∷ rest) is there = (rest, ap (λ l. l ∷ rest) ((bytes_eq-Decides f x).0 (sym (expected_here m f rest n x (sym is)) ∙ there)))
  expected_is m (d ∷ done) n x rest is there =
      expected_is is.0 done n x rest is.2
      (sym (expected_on m d (done ++ rest) n x is.0 (let low = laws.later m d is.0 is.1 in let rise = numbers_rise K laws is.0 done n is.2 in omega (arith, low, rise)) is.1) ∙ there)

  pub numbers_more : (m : ℕ) (done : List (List ℕ)) (n : ℕ) (x : List ℕ) (k : ℕ) → Numbers K m done n → K.after n x ≡ Some k → Numbers K m (done ++ x ∷ []) k
  numbers_more m [] n x k is after = (k, ap (λ l. K.after l x) is ∙ after, refl)
  numbers_more m (d ∷ done) n x k is after = (is.0, is.1, numbers_more is.0 done n x k is.2 after)

  -- two of which the one begins as the other, up to the same number, are the same up to there
  pub prefix_same : (m e : ℕ) (us vs ys zs : List (List ℕ)) → us ++ vs ≡ ys ++ zs → Numbers K m us e → Numbers K m ys e → us ≡ ys
  prefix_same m e [] vs [] zs same one other = refl
  prefix_same m e [] vs (y ∷ ys) zs same one other = absurd (let low = laws.later m y other.0 other.1 in let rise = numbers_rise K laws other.0 ys e other.2 in omega (arith, low, rise, one))
  prefix_same m e (u ∷ us) vs [] zs same one other = absurd (let low = laws.later m u one.0 one.1 in let rise = numbers_rise K laws one.0 us e one.2 in omega (arith, low, rise, other))
  prefix_same m e (u ∷ us) vs (y ∷ ys) zs same one other =
      let first : u ≡ y = ap (λ l. get_or l 0 []) same in
      let rest : us ++ vs ≡ ys ++ zs = ap (λ l. drop 1 l) same in
      let k : other.0 ≡ one.0 = same_Some other.0 one.0 (sym other.1 ∙ ap (λ f. K.after m f) (sym first) ∙ one.1) in
      ap (λ l. l ∷ us) first ∙ ap (λ l. y ∷ l) (prefix_same one.0 e us vs ys zs rest one.2 (subst (λ n. Numbers K n ys e) k other.2))

  module _ (last : ℕ) (rest : List (List ℕ)) where
    abbrev pub may : ℕ → List ℕ → Bool
    may n frame = if nat_lt n last then on_next (K.after n frame) (λ k. nat_le k last) else expected last rest n frame

    may_early : (n : ℕ) (frame : List ℕ) → n < last → may n frame ≡ on_next (K.after n frame) (λ k. nat_le k last)
    may_early n frame less = ap (λ b. if b then on_next (K.after n frame) (λ k. nat_le k last) else expected last rest n frame) (lt-ltb n last less)

    may_late : (n : ℕ) (frame : List ℕ) → last ≤ n → may n frame ≡ expected last rest n frame
    may_late n frame high = ap (λ b. if b then on_next (K.after n frame) (λ k. nat_le k last) else expected last rest n frame) (le-ltb n last high)

    -- what comes behind the number is expected
    comes : (n e : ℕ) (done xs others : List (List ℕ)) → last ≤ n → Numbers K last done n → Numbers K n xs e → AllMay K.after may n xs → rest ≡ done ++ others → (zs : List (List ℕ)) × (others ≡ xs ++ zs)
    comes n e done [] others high so_far numbers all whole = (others, refl)
    comes n e done (x ∷ xs) others high so_far numbers all whole =
        let (next, same) = expected_is last done n x others so_far (ap (λ l. expected last l n x) (sym whole) ∙ sym (may_late n x high) ∙ all.0) in
        let on = comes numbers.0 e (done ++ x ∷ []) xs next
        (let low = laws.later n x numbers.0 numbers.1 in omega (arith, high, low))
        (numbers_more last done n x numbers.0 so_far numbers.1) numbers.2 (all.1 numbers.0 numbers.1)
        (whole ∙ ap (λ l. done ++ l) same ∙ sym (append_assoc done (x ∷ []) next)) in
        (on.0, same ∙ ap (λ l. x ∷ l) on.1)

    -- frames that lead over the number: others up to it, and then the first of those expected
    pub record IsSplit (n : ℕ) (xs : List (List ℕ)) : Type 0 where
      pub front : List (List ℕ)
      pub ys : List (List ℕ)
      pub zs : List (List ℕ)
      pub whole : xs ≡ front ++ ys
      pub reaches : Numbers K n front last
      pub prefix : rest ≡ ys ++ zs

    split_on : (n e : ℕ) (x : List ℕ) (xs : List (List ℕ)) → n ≤ last → Numbers K n (x ∷ xs) e → AllMay K.after may n (x ∷ xs)
        → ((k : ℕ) → k ≤ last → Numbers K k xs e → AllMay K.after may k xs → IsSplit k xs) → IsSplit n (x ∷ xs)
    split_on n e x xs low numbers all further = ⊎_elim early late (cases_lt n last)
      where
        early : n < last → IsSplit n (x ∷ xs)
        early less =
            let next = on_next_is (K.after n x) (λ k. nat_le k last) (sym (may_early n x less) ∙ all.0) in
            let same : numbers.0 ≡ next.0 = same_Some numbers.0 next.0 (sym numbers.1 ∙ next.1) in
            let on = further next.0 (leb-true next.0 last next.2) (subst (λ m. Numbers K m xs e) same numbers.2) (all.1 next.0 next.1) in
            record { front = x ∷ on.front; ys = on.ys; zs = on.zs; whole = ap (λ l. x ∷ l) on.whole; reaches = (next.0, next.1, on.reaches); prefix = on.prefix }

        late : last ≤ n → IsSplit n (x ∷ xs)
        late reached =
            let here : last ≡ n = omega (arith, low, reached) in
            let behind = comes n e [] (x ∷ xs) rest reached here numbers all refl in
            record { front = []; ys = x ∷ xs; zs = behind.0; whole = refl; reaches = sym here; prefix = behind.1 }

    pub splits : (n e : ℕ) (xs : List (List ℕ)) → n ≤ last → last ≤ e → Numbers K n xs e → AllMay K.after may n xs → IsSplit n xs
    splits n e [] low high numbers all = record { front = []; ys = []; zs = rest; whole = refl; reaches = omega (arith, low, high, numbers); prefix = refl }
    splits n e (x ∷ xs) low high numbers all = split_on n e x xs low numbers all (λ k less there fits. splits k e xs less high there fits)

    -- and these may
    front_may : (n : ℕ) (front : List (List ℕ)) → Numbers K n front last → AllMay K.after may n front
    front_may n [] is = tt
    front_may n (f ∷ front) is =
        let low = laws.later n f is.0 is.1 in
        let rise = numbers_rise K laws is.0 front last is.2 in (
          may_early n f (omega (arith, low, rise)) ∙ ap (λ o. on_next o (λ k. nat_le k last)) is.1 ∙ le-leb is.0 last rise,
          λ k next. front_may k front (subst (λ m. Numbers K m front last) (same_Some is.0 k (sym is.1 ∙ next)) is.2),
        )

    rest_may : (n e : ℕ) (done ys zs : List (List ℕ)) → last ≤ n → Numbers K last done n → Numbers K n ys e → rest ≡ done ++ (ys ++ zs) → AllMay K.after may n ys
    rest_may n e done [] zs high so_far numbers whole = tt
    rest_may n e done (y ∷ ys) zs high so_far numbers whole = (
      may_late n y high ∙ ap (λ l. expected last l n y) whole ∙ expected_at last done n y (ys ++ zs) so_far,
      λ k next.
          let same : numbers.0 ≡ k = same_Some numbers.0 k (sym numbers.1 ∙ next) in
          rest_may k e (done ++ y ∷ []) ys zs (let low = laws.later n y k next in omega (arith, high, low)) (numbers_more last done n y k so_far next) (subst (λ m. Numbers K m ys e) same numbers.2)
          (whole ∙ sym (append_assoc done (y ∷ []) (ys ++ zs))),
    )

    pub these_may : (n e : ℕ) (front ys zs : List (List ℕ)) → Numbers K n front last → Numbers K last ys e → rest ≡ ys ++ zs → AllMay K.after may n (front ++ ys)
    these_may n e front ys zs reaches numbers whole =
        may_joined K laws may n front last ys reaches (front_may n front reaches) (rest_may last e [] ys zs (omega arith) refl numbers whole)

    -- and so may the next of those expected
    pub next_may : (n : ℕ) (done : List (List ℕ)) (x : List ℕ) (others : List (List ℕ)) → Numbers K last done n → rest ≡ done ++ x ∷ others → may n x ≡ true
    next_may n done x others so_far whole =
        may_late n x (numbers_rise K laws last done n so_far) ∙ ap (λ l. expected last l n x) whole ∙ expected_at last done n x others so_far
