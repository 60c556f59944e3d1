-- Results at their quanta's places.
use Rattle.std.specs.Prelude.{slice_get, slice_set, slice_index_or, unwrap_or, option_map, is_some, ◌⊎◌, Result, Ok, Err, OnOk, OnErr, IfErr, take}
use Rattle.std.proofs.Common.{◌≡◌, ◌≢◌, ◌<◌, ℕ, zero, suc, ◌+◌, List, [], ◌∷◌, ◌++◌, length, map, set, Option, Some, None, refl, sym, ◌∙◌, ap, subst, arith, inl, inr, true, true≢false, ◌≤◌}
use Rattle.std.proofs.lemmas.Bool.{cases_lt}
use Rattle.pfx_crew.specs.Gathering.{Puts, Refuses}
use Rattle.pfx_crew.specs.declared.gathering.GatherFault.{GatherFault}
use Rattle.pfx_crew.specs.declared.gathering.GatherFault.TheVariants.{Double, Stranger}
use Rattle.std.proofs.lemmas.Option.{none-some}
use Rattle.pfx_machine.specs.Slots.{Deal}
use Rattle.pfx_book_slot.specs.Dealt.{Answers, AllBack}

some_is : {A : Type 0} (a b : A) → Some a ≡ Some b → a ≡ b
some_is a b e = ap (λ o. unwrap_or o a) e

some_none : {A : Type 0} (a : A) → Some (Some a) ≡ Some None → ⊥
some_none a e = none-some a (sym (some_is (Some a) None e))

module _ {A B : Type 0} (f : A → B) where
  pub get_map : (xs : List A) (i : ℕ) (x : A) → slice_get xs i ≡ Some x → slice_get (map f xs) i ≡ Some (f x)
  get_map [] i x e = absurd (none-some x e)
  get_map (y ∷ ys) zero x e = ap (λ z. Some (f z)) (some_is y x e)
  get_map (y ∷ ys) (suc i) x e = get_map ys i x e

  pub map_set : (xs : List A) (i : ℕ) (x : A) → map f (slice_set xs i x) ≡ slice_set (map f xs) i (f x)
  map_set [] i x = refl
  map_set (y ∷ ys) zero x = refl
  map_set (y ∷ ys) (suc i) x = ap (λ l. f y ∷ l) (map_set ys i x)

  pub get_empty : (xs : List (Option A)) (i : ℕ) → slice_get (map (option_map f) xs) i ≡ Some None → slice_get xs i ≡ Some None
  get_empty [] i e = absurd (none-some None e)
  get_empty (None ∷ ys) zero e = refl
  get_empty (Some y ∷ ys) zero e = absurd (some_none (f y) e)
  get_empty (y ∷ ys) (suc i) e = get_empty ys i e

pub length_set : {A : Type 0} (xs : List A) (i : ℕ) (x : A) → length (slice_set xs i x) ≡ length xs
length_set [] i x = refl
length_set (y ∷ ys) zero x = refl
length_set (y ∷ ys) (suc i) x = ap suc (length_set ys i x)

module _ {J : Type 0} where
  pub answers_none : {Q : Type 0} (f : Q → Deal J) (qs : List Q) → Answers (map f qs) (map (λ q. None) qs)
  answers_none f [] = tt
  answers_none f (q ∷ qs) = answers_none f qs

  pub answers_set : (quanta : List (Deal J)) (back : List (Option (Deal J))) (i : ℕ) (d : Deal J) → slice_get quanta i ≡ Some d → Answers quanta back → Answers quanta (slice_set back i (Some d))
  answers_set [] [] i d e h = tt
  answers_set [] (b ∷ back) i d e h = absurd h
  answers_set (q ∷ quanta) [] i d e h = absurd h
  answers_set (q ∷ quanta) (None ∷ back) zero d e h = (sym (some_is q d e), h)
  answers_set (q ∷ quanta) (Some x ∷ back) zero d e h = (sym (some_is q d e), h.1)
  answers_set (q ∷ quanta) (None ∷ back) (suc i) d e h = answers_set quanta back i d e h
  answers_set (q ∷ quanta) (Some x ∷ back) (suc i) d e h = (h.0, answers_set quanta back i d e h.1)

  -- results, all of them back, are the quanta
  pub answers_all : {D : Type 0} (f : D → Deal J) (quanta : List (Deal J)) (back : List (Option (Deal J))) (dones : List D) → Answers quanta back → map (λ d. Some (f d)) dones ≡ back → map f dones ≡ quanta
  answers_all {D = D} f quanta back dones h e = all quanta dones (subst (λ b. Answers quanta b) (sym e) h)
    where
      all : (qs : List (Deal J)) (ds : List D) → Answers qs (map (λ d. Some (f d)) ds) → map f ds ≡ qs
      all [] [] a = refl
      all [] (d ∷ ds) a = absurd a
      all (q ∷ qs) [] a = absurd a
      all (q ∷ qs) (d ∷ ds) a = λ i. a.0 i ∷ all qs ds a.1 i

  pub all_back_none : (xs : List (Option (Deal J))) (rest : List (Option (Deal J))) → AllBack (xs ++ None ∷ rest) → ⊥
  all_back_none [] rest h = h
  all_back_none (None ∷ xs) rest h = h
  all_back_none (Some d ∷ xs) rest h = all_back_none xs rest h

  pub all_back : {D : Type 0} (f : D → Deal J) (back : List (Option D)) → ((k : ℕ) → k < length back → slice_get back k ≢ Some None) → AllBack (map (option_map f) back)
  all_back f [] h = tt
  all_back f (None ∷ back) h = absurd (h zero (omega arith) refl)
  all_back f (Some d ∷ back) h = all_back f back (λ k below. h (suc k) (omega (arith, below)))

  pub none_there : {D : Type 0} (f : D → Deal J) (all xs rest : List (Option D)) → all ≡ xs ++ None ∷ rest → AllBack (map (option_map f) all) → ⊥
  none_there {D = D} f all xs rest is h = go xs (subst (λ l. AllBack (map (option_map f) l)) is h)
    where
      go : (ys : List (Option D)) → AllBack (map (option_map f) (ys ++ None ∷ rest)) → ⊥
      go [] a = a
      go (None ∷ ys) a = a
      go (Some d ∷ ys) a = go ys a

  -- the loop over the places looked at one more
  pub seen_more : {D : Type 0} (f : D → Deal J) (view : List (Option (Deal J))) (back : List (Option D)) (n : ℕ) (x : Option D) → map (option_map f) back ≡ view → x ≡ slice_index_or back n x → n < length back → is_some x ≡ true
      → ((k : ℕ) → k < n → slice_get view k ≡ Some None → ⊥) → (k : ℕ) → k < n + 1 → slice_get view k ≡ Some None → ⊥
  seen_more {D = D} f view back n x is at below some before k lt here = elim (cases_lt k n) [
    | inl less ↦ before k less here
    | inr ge ↦
        let same : k ≡ n = omega (arith, lt, ge) in
        empty x some (at_index back n x at below (subst (λ j. slice_get back j ≡ Some None) same (get_empty f back k (subst (λ v. slice_get v k ≡ Some None) (sym is) here))))
  ]
    where
      at_index : (xs : List (Option D)) (i : ℕ) (y : Option D) → y ≡ slice_index_or xs i y → i < length xs → slice_get xs i ≡ Some None → y ≡ None
      at_index [] i y e b s = absurd (omega (arith, b))
      at_index (z ∷ zs) zero y e b s = e ∙ some_is z None s
      at_index (z ∷ zs) (suc i) y e b s = at_index zs i y e (omega (arith, b)) s

      empty : (y : Option D) → is_some y ≡ true → y ≡ None → ⊥
      empty None e n = true≢false (sym e)
      empty (Some d) e n = none-some d (sym n)

  pub seen_all : {D : Type 0} (f : D → Deal J) (view : List (Option (Deal J))) (back : List (Option D)) (n : ℕ) → map (option_map f) back ≡ view → length back ≤ n
      → ((k : ℕ) → k < n → slice_get view k ≡ Some None → ⊥) → AllBack view
  seen_all f view back n is le h = subst AllBack is (all_back f back (λ k below at. h k (omega (arith, le, below)) (subst (λ v. slice_get v k ≡ Some None) is (get_map (option_map f) back k None at))))

  -- a result put at its place
  pub put_keeps : {D : Type 0} (f : D → Deal J) (quanta : List (Deal J)) (old new : List (Option D)) (done : D) → Puts quanta (f done) old new (Some done) → Answers quanta (map (option_map f) old)
      → Answers quanta (map (option_map f) new) × (length new ≡ length old) × Puts quanta (f done) (map (option_map f) old) (map (option_map f) new) (Some (f done))
  put_keeps f quanta old new done p h =
      let e = ap (map (option_map f)) p.3 ∙ map_set (option_map f) old p.0 (Some done) in (
        subst (λ b. Answers quanta b) (sym e) (answers_set quanta (map (option_map f) old) p.0 (f done) p.1.0 h),
        ap length p.3 ∙ length_set old p.0 (Some done),
        (p.0, p.1, get_map (option_map f) old p.0 None p.2, e),
      )

  pub refuses_too : {D : Type 0} (f : D → Deal J) (quanta : List (Deal J)) (d : Deal J) (old : List (Option D)) (fault : GatherFault) → Refuses quanta d old fault → Refuses quanta d (map (option_map f) old) fault
  refuses_too f quanta d old (Stranger task) r = r
  refuses_too f quanta d old (Double task) r = (r.0, (r.1.0, r.1.1, λ e. r.1.2 (get_empty f old r.1.0 e)))

  pub give_ok : {D : Type 0} (f : D → Deal J) (r : Result (Unit {0}) GatherFault) (quanta : List (Deal J)) (old new : List (Option D)) (done : D)
      → OnOk r (Puts quanta (f done) old new (Some done)) → Answers quanta (map (option_map f) old) → OnOk r (Puts quanta (f done) (map (option_map f) old) (map (option_map f) new) (Some (f done)))
  give_ok f (Ok u) quanta old new done p h = (put_keeps f quanta old new done p h).2
  give_ok f (Err e) quanta old new done p h = tt

  pub give_err : {D : Type 0} (f : D → Deal J) (r : Result (Unit {0}) GatherFault) (quanta : List (Deal J)) (d : Deal J) (old : List (Option D))
      → IfErr r (λ fault. Refuses quanta d old fault) → IfErr r (λ fault. Refuses quanta d (map (option_map f) old) fault)
  give_err f (Ok u) quanta d old p = tt
  give_err f (Err e) quanta d old p = refuses_too f quanta d old e p

  pub give_keeps : {D : Type 0} (f : D → Deal J) (r : Result (Unit {0}) GatherFault) (quanta : List (Deal J)) (old new : List (Option D)) (done : D)
      → OnOk r (Puts quanta (f done) old new (Some done)) → OnErr r (new ≡ old) → Answers quanta (map (option_map f) old) → Answers quanta (map (option_map f) new) × (length new ≡ length old)
  give_keeps f (Ok u) quanta old new done p q h = let k = put_keeps f quanta old new done p h in (k.0, k.1)
  give_keeps f (Err e) quanta old new done p q h = (subst (λ b. Answers quanta (map (option_map f) b)) (sym q) h, ap length q)

pub on_err : (r : Result (Unit {0}) GatherFault) (A B : Type 0) → (A → B) → OnErr r A → OnErr r B
on_err (Ok u) A B f a = tt
on_err (Err e) A B f a = f a

pub take_own : {A : Type 0} (n : ℕ) (xs rest : List A) → length xs ≡ n → take n (xs ++ rest) ≡ xs
take_own {A = A} n xs rest e = subst (λ k. take k (xs ++ rest) ≡ xs) e (own xs)
  where
    own : (ys : List A) → take (length ys) (ys ++ rest) ≡ ys
    own [] = refl
    own (y ∷ ys) = ap (λ l. y ∷ l) (own ys)

-- as many empty places as there are quanta
pub no_results : {Q D R : Type 0} (f : Q → D) (qs : List Q) → map {B = Option R} (λ q. None) qs ≡ map (λ d. None) (map f qs)
no_results f [] = refl
no_results f (q ∷ qs) = ap (λ l. None ∷ l) (no_results f qs)
