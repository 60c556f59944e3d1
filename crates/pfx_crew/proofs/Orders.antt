-- Results that arrive in any order come to their places.
use Rattle.std.proofs.Common.{◌≡◌, ◌≢◌, ◌≤◌, ◌<◌, ℕ, zero, suc, ◌+◌, List, [], ◌∷◌, ◌++◌, length, map, set, Option, Some, None, Bool, true, false, refl, sym, ap, ◌∙◌, subst, arith, append_assoc, append-nil, eqb, true≢false}
use Rattle.std.specs.Prelude.{slice_get, IsPermutation, unwrap_or}
use Rattle.std.specs.List.{AllByRecursion, sum_by}
use Rattle.std.proofs.lemmas.Bool.{eq-eqb, eqb-true}
use Rattle.std.proofs.lemmas.Option.{slice_get-get_or, slice_get_within, none-some}
use Rattle.std.proofs.lemmas.List.Elements.{recursion_from_All}
use Rattle.std.proofs.lemmas.List.Sorted.{All-permutation, sum_by-IsPermutation}
use Rattle.std.proofs.lemmas.List.Sums.{sum_by-cons}
use Rattle.pfx_machine.specs.Slots.{Deal}
use Rattle.pfx_crew.specs.declared.gathering.GatherFault.{GatherFault}
use Rattle.pfx_crew.specs.declared.gathering.GatherFault.TheVariants.{Double, Stranger}
use Rattle.pfx_crew.specs.Balance.{weigh}
use Rattle.pfx_crew.specs.Gathering.{Puts, Refuses}
use Rattle.pfx_crew.specs.Laws.{NoTaskTwice, free, Arrive, ComeOut}
use Rattle.pfx_crew.proofs.Moves.{weigh-append}

some_is : {A : Type 0} (a b : A) → Some a ≡ Some b → a ≡ b
some_is a b e = ap (λ o. unwrap_or o a) e

module _ {A : Type 0} where
  weigh_is : (h : A → ℕ) (xs : List A) → weigh h xs ≡ sum_by h xs
  weigh_is h [] = refl
  weigh_is h (x ∷ xs) = let r = weigh_is h xs in omega (arith, r, sum_by-cons h x xs)

  weigh_permuted : (h : A → ℕ) (xs ys : List A) → IsPermutation xs ys → weigh h ys ≡ weigh h xs
  weigh_permuted h xs ys p = weigh_is h ys ∙ sum_by-IsPermutation h xs ys p ∙ sym (weigh_is h xs)

  weigh_ones : (xs : List A) → weigh (λ _. 1) xs ≡ length xs
  weigh_ones [] = refl
  weigh_ones (x ∷ xs) = let r = weigh_ones xs in omega (arith, r)

  get_set : (l : List A) (i : ℕ) (a b : A) → slice_get l i ≡ Some b → slice_get (set l i a) i ≡ Some a
  get_set [] i a b e = absurd (none-some b e)
  get_set (x ∷ xs) zero a b e = refl
  get_set (x ∷ xs) (suc i) a b e = get_set xs i a b e

  get_set_else : (l : List A) (i j : ℕ) (a : A) → j ≢ i → slice_get (set l i a) j ≡ slice_get l j
  get_set_else [] i j a n = refl
  get_set_else (x ∷ xs) zero zero a n = absurd (n refl)
  get_set_else (x ∷ xs) zero (suc j) a n = refl
  get_set_else (x ∷ xs) (suc i) zero a n = refl
  get_set_else (x ∷ xs) (suc i) (suc j) a n = get_set_else xs i j a (λ e. n (ap suc e))

  all_front : (P : A → Type 0) (front : List A) (x : A) (rest : List A) → AllByRecursion P (front ++ x ∷ rest) → AllByRecursion P front × P x
  all_front P [] x rest all = (tt, all.0)
  all_front P (y ∷ front) x rest all = let r = all_front P front x rest all.1 in ((all.0, r.0), r.1)

-- the results at places, weighed and added up
abbrev weigh_at : {D : Type 0} → (D → ℕ) → List (Option D) → ℕ
weigh_at h [] = 0
weigh_at h (None ∷ ps) = weigh_at h ps
weigh_at h (Some x ∷ ps) = h x + weigh_at h ps

module _ {D : Type 0} where
  weigh_put : (h : D → ℕ) (ps : List (Option D)) (i : ℕ) (x : D) → slice_get ps i ≡ Some None → weigh_at h (set ps i (Some x)) ≡ weigh_at h ps + h x
  weigh_put h [] i x e = absurd (none-some None e)
  weigh_put h (None ∷ ps) zero x e = omega arith
  weigh_put h (Some y ∷ ps) zero x e = absurd (none-some y (sym (some_is (Some y) None e)))
  weigh_put h (None ∷ ps) (suc i) x e = weigh_put h ps i x e
  weigh_put h (Some y ∷ ps) (suc i) x e = let r = weigh_put h ps i x e in omega (arith, r)

  weigh_one : (h : D → ℕ) (ps : List (Option D)) (i : ℕ) (x : D) → slice_get ps i ≡ Some (Some x) → h x ≤ weigh_at h ps
  weigh_one h [] i x e = absurd (none-some (Some x) e)
  weigh_one h (None ∷ ps) zero x e = absurd (none-some x (some_is None (Some x) e))
  weigh_one h (Some y ∷ ps) zero x e = let s = ap h (some_is y x (some_is (Some y) (Some x) e)) in omega (arith, s)
  weigh_one h (None ∷ ps) (suc i) x e = weigh_one h ps i x e
  weigh_one h (Some y ∷ ps) (suc i) x e = let r = weigh_one h ps i x e in omega (arith, r)

  ones_at_most : (ps : List (Option D)) → weigh_at (λ _. 1) ps ≤ length ps
  ones_at_most [] = omega arith
  ones_at_most (None ∷ ps) = let r = ones_at_most ps in omega (arith, r)
  ones_at_most (Some x ∷ ps) = let r = ones_at_most ps in omega (arith, r)

  -- places that hold no other result than their own, and as many as there are, hold them all
  all_full : (ps : List (Option D)) (results : List D) → length ps ≡ length results
      → ((i : ℕ) (y : D) → slice_get ps i ≡ Some (Some y) → slice_get results i ≡ Some y) → weigh_at (λ _. 1) ps ≡ length results → ps ≡ map Some results
  all_full [] [] long sound full = refl
  all_full [] (r ∷ rs) long sound full = absurd (omega (arith, long))
  all_full (p ∷ ps) [] long sound full = absurd (omega (arith, long))
  all_full (None ∷ ps) (r ∷ rs) long sound full = let m = ones_at_most ps in absurd (omega (arith, long, full, m))
  all_full (Some y ∷ ps) (r ∷ rs) long sound full =
      let same : r ≡ y = some_is r y (sound 0 y refl) in
      let rest = all_full ps rs (omega (arith, long)) (λ i z e. sound (suc i) z e) (omega (arith, full)) in
      cc (same, rest)

module _ {J D : Type 0} where
  free_weighs : (h : D → ℕ) (quanta : List (Deal J)) → weigh_at h (free {D = D} quanta) ≡ 0
  free_weighs h [] = refl
  free_weighs h (q ∷ qs) = free_weighs h qs

  free_holds : (quanta : List (Deal J)) (i : ℕ) (y : D) → slice_get (free {D = D} quanta) i ≡ Some (Some y) → ⊥
  free_holds [] i y e = none-some (Some y) e
  free_holds (q ∷ qs) zero y e = none-some y (some_is None (Some y) e)
  free_holds (q ∷ qs) (suc i) y e = free_holds qs i y e

free_long : {J : Type 0} (D : Type 0) (quanta : List (Deal J)) → length (free {D = D} quanta) ≡ length quanta
free_long D [] = refl
free_long D (q ∷ qs) = ap suc (free_long D qs)

module _ {J D : Type 0} (asked : D → Deal J) where
  map_long : (xs : List D) → length (map asked xs) ≡ length xs
  map_long [] = refl
  map_long (x ∷ xs) = ap suc (map_long xs)

  asked_at : (xs : List D) (i : ℕ) (x : D) → slice_get xs i ≡ Some x → slice_get (map asked xs) i ≡ Some (asked x)
  asked_at [] i x e = absurd (none-some x e)
  asked_at (y ∷ ys) zero x e = ap (λ z. Some (asked z)) (some_is y x e)
  asked_at (y ∷ ys) (suc i) x e = asked_at ys i x e

  abbrev Has : List D → D → Type 0
  Has results x = (j : ℕ) × (slice_get results j ≡ Some x)

  has_all : (results arrivals : List D) → IsPermutation results arrivals → AllByRecursion (Has results) arrivals
  has_all results arrivals p = recursion_from_All (Has results) arrivals (All-permutation (Has results) results arrivals p (λ k d lt. (k, slice_get-get_or results k d lt)))

  -- the place of a result's quantum is that of the result
  its_place : (results : List D) (x : D) (at : ℕ) → NoTaskTwice (map asked results) → Has results x → slice_get (map asked results) at ≡ Some (asked x) → slice_get results at ≡ Some x
  its_place results x at apart (j, there) here =
      let same : j ≡ at = apart j at (asked x) (asked x) (asked_at results j x there) here refl in
      subst (λ k. slice_get results k ≡ Some x) same there

  -- how far it has come: no place holds another result than its own, and they hold what has arrived
  record Filled (results front : List D) (places : List (Option D)) : Type 0 where
    long : length places ≡ length results
    sound : (i : ℕ) (y : D) → slice_get places i ≡ Some (Some y) → slice_get results i ≡ Some y
    weight : (h : D → ℕ) → weigh_at h places ≡ weigh h front

  none_yet : (results : List D) → Filled results [] (free (map asked results))
  none_yet results = record {
    long = free_long D (map asked results) ∙ map_long results;
    sound = λ i y e. absurd (free_holds (map asked results) i y e);
    weight = λ h. free_weighs h (map asked results);
  }

  length_set : {A : Type 0} (l : List A) (i : ℕ) (a : A) → length (set l i a) ≡ length l
  length_set [] i a = refl
  length_set (x ∷ xs) zero a = refl
  length_set (x ∷ xs) (suc i) a = ap suc (length_set xs i a)

  put_sound : (results : List D) (old : List (Option D)) (at : ℕ) (x : D) → slice_get old at ≡ Some None → slice_get results at ≡ Some x
      → ((i : ℕ) (y : D) → slice_get old i ≡ Some (Some y) → slice_get results i ≡ Some y)
      → (i : ℕ) (y : D) (b : Bool) → eqb i at ≡ b → slice_get (set old at (Some x)) i ≡ Some (Some y) → slice_get results i ≡ Some y
  put_sound results old at x was its sound i y true e holds =
      let same : i ≡ at = eqb-true i at e in
      let here = get_set old at (Some x) None was in
      let is : x ≡ y = some_is x y (some_is (Some x) (Some y) (sym here ∙ subst (λ k. slice_get (set old at (Some x)) k ≡ Some (Some y)) same holds)) in
      subst (λ k. slice_get results k ≡ Some y) (sym same) (its ∙ ap Some is)
  put_sound results old at x was its sound i y false e holds =
      let apart : i ≢ at = λ same. true≢false (sym (eq-eqb i at same) ∙ e) in
      sound i y (sym (get_set_else old at i (Some x) apart) ∙ holds)

  one_more : (results front : List D) (x : D) (old new : List (Option D)) → NoTaskTwice (map asked results) → Has results x → Filled results front old
      → Puts (map asked results) (asked x) old new (Some x) → Filled results (front ++ x ∷ []) new
  one_more results front x old new apart has filled (at, first, was, is) =
      let its = its_place results x at apart has first.0 in
      subst (Filled results (front ++ x ∷ [])) (sym is) (record {
        long = length_set old at (Some x) ∙ filled.long;
        sound = λ i y e. put_sound results old at x was its filled.sound i y (eqb i at) refl e;
        weight = λ h. weigh_put h old at x was ∙ (let w = filled.weight h in omega (arith, w, weigh-append h front (x ∷ [])));
      })

  all_more : (results front xs : List D) (old new : List (Option D)) → NoTaskTwice (map asked results) → AllByRecursion (Has results) xs → Filled results front old
      → Arrive asked (map asked results) xs old new → Filled results (front ++ xs) new
  all_more results front [] old new apart has filled arrive = subst (λ l. Filled results l new) (sym (append-nil front)) (subst (Filled results front) (sym arrive) filled)
  all_more results front (x ∷ xs) old new apart has filled (between, puts, arrive) =
      subst (λ l. Filled results l new) (append_assoc front (x ∷ []) xs)
      (all_more results (front ++ x ∷ []) xs between new apart has.1 (one_more results front x old between apart has.0 filled puts) arrive)

  -- whether a result is of the task t, as a number
  abbrev bit : Bool → ℕ
  bit true = 1
  bit false = 0

  abbrev mark : ℕ → D → ℕ
  mark t z = bit (eqb (asked z).task t)

  none_marked : (xs : List D) (t : ℕ) → ((j : ℕ) (z : D) → slice_get xs j ≡ Some z → (asked z).task ≢ t) → weigh (mark t) xs ≡ 0
  none_marked [] t others = refl
  none_marked (x ∷ xs) t others =
      let r = none_marked xs t (λ j z e. others (suc j) z e) in
      let m : mark t x ≡ 0 = unmarked (eqb (asked x).task t) refl in
      omega (arith, r, m)
    where
      unmarked : (b : Bool) → eqb (asked x).task t ≡ b → bit b ≡ 0
      unmarked true e = absurd (others 0 x refl (eqb-true (asked x).task t e))
      unmarked false e = refl

  marked_once : (xs : List D) (t : ℕ) → NoTaskTwice (map asked xs) → weigh (mark t) xs ≤ 1
  marked_once [] t apart = omega arith
  marked_once (x ∷ xs) t apart = by_first (eqb (asked x).task t) refl (marked_once xs t (λ i j d f di dj same. let r = apart (suc i) (suc j) d f di dj same in omega (arith, r)))
    where
      by_first : (b : Bool) → eqb (asked x).task t ≡ b → weigh (mark t) xs ≤ 1 → bit b + weigh (mark t) xs ≤ 1
      by_first true e rest =
          let none = none_marked xs t (λ j z at same.
          let r : 0 ≡ suc j = apart 0 (suc j) (asked x) (asked z) refl (asked_at xs j z at) (eqb-true (asked x).task t e ∙ sym same) in
          absurd (omega (arith, r))) in
          omega (arith, none)
      by_first false e rest = omega (arith, rest)

  full_or_free : (results : List D) (x : D) (y : Option D) (at : ℕ) (front rest : List D) (places : List (Option D)) → NoTaskTwice (map asked results)
      → weigh (mark (asked x).task) (front ++ x ∷ rest) ≤ 1 → Filled results front places → slice_get results at ≡ Some x → slice_get places at ≡ Some y → y ≡ None
  full_or_free results x None at front rest places apart once filled its is = refl
  full_or_free results x (Some y) at front rest places apart once filled its is =
      let h = mark (asked x).task in
      let same : y ≡ x = some_is y x (sym (filled.sound at y is) ∙ its) in
      let one : h x ≡ 1 = ap bit (eq-eqb (asked x).task (asked x).task refl) in
      let held = weigh_one h places at y is in
      let also : h y ≡ h x = ap h same in
      let w = filled.weight h in
      absurd (omega (arith, once, one, held, also, w, weigh-append h front (x ∷ rest)))

  pub come_out : (results arrivals : List D) → NoTaskTwice (map asked results) → IsPermutation results arrivals → ComeOut asked results arrivals
  come_out results arrivals apart p = record { none_refused = none_refused; all_placed = all_placed }
    where
      has : AllByRecursion (Has results) arrivals
      has = has_all results arrivals p

      none_refused : (front : List D) (x : D) (rest : List D) (places : List (Option D)) (fault : GatherFault) → arrivals ≡ front ++ x ∷ rest
          → Arrive asked (map asked results) front (free (map asked results)) places → Refuses (map asked results) (asked x) places fault → ⊥
      none_refused front x rest places (Stranger task) is arrive refuses =
          let its = (all_front (Has results) front x rest (subst (AllByRecursion (Has results)) is has)).1 in
          refuses.1 its.0 (omega arith) (asked_at results its.0 x its.1)
      none_refused front x rest places (Double task) is arrive (_, (at, first, full)) =
          let split = all_front (Has results) front x rest (subst (AllByRecursion (Has results)) is has) in
          let filled = all_more results [] front (free (map asked results)) places apart split.0 (none_yet results) arrive in
          let its = its_place results x at apart split.1 first.0 in
          let below : at < length places = let w = slice_get_within results at x its in omega (arith, w, filled.long) in
          let once : weigh (mark (asked x).task) (front ++ x ∷ rest) ≤ 1
          = subst (λ l. weigh (mark (asked x).task) l ≤ 1) is (let m = marked_once results (asked x).task apart in let q = weigh_permuted (mark (asked x).task) results arrivals p in omega (arith, m, q)) in
          let held = slice_get-get_or places at None below in
          full (held ∙ ap Some (full_or_free results x _ at front rest places apart once filled its held))

      all_placed : (places : List (Option D)) → Arrive asked (map asked results) arrivals (free (map asked results)) places → places ≡ map Some results
      all_placed places arrive =
          let filled = all_more results [] arrivals (free (map asked results)) places apart has (none_yet results) arrive in
          let w = filled.weight (λ _. 1) in
          all_full places results filled.long filled.sound (w ∙ weigh_permuted (λ _. 1) results arrivals p ∙ weigh_ones results)
