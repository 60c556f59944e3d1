-- A tagged list that is one entry longer.
use Rattle.std.proofs.Common.{◌≡◌, ◌≢◌, ℕ, zero, suc, ◌+◌, ◌<◌, ◌≤◌, ◌==◌, List, get_or, take, [], ◌∷◌, ◌++◌, length, set, Some, Bool, true, false, true≢false, refl, sym, ap, ◌∙◌, arith, eq-eqb, ne_eqb}
use Rattle.std.specs.Prelude.{slice_get, ◌&&◌, if◌then◌else◌, nat_lt, nat_le, unwrap_or}
use Rattle.std.proofs.lemmas.Bool.{lt-ltb, le-leb, leb-true}
use Rattle.std.proofs.lemmas.List.{set-get_or, take_more_set}
use Rattle.pfx_book.specs.Merging.{of, lists_from, Tagged}

pub and_left : (a b : Bool) → a && b ≡ true → a ≡ true
and_left true b e = refl
and_left false b e = e

pub and_right : (a b : Bool) → a && b ≡ true → b ≡ true
and_right true b e = e
and_right false b e = absurd (true≢false (sym e))

pub and_both : (a b : Bool) → a ≡ true → b ≡ true → a && b ≡ true
and_both a b p q = ap (λ x. x && b) p ∙ q

pub some_is : {A : Type 0} (a b : A) → Some a ≡ Some b → a ≡ b
some_is a b e = ap (λ o. unwrap_or o a) e

module _ {A : Type 0} where
  pub behind : (b : Bool) (y : A) (zs : List A) (e : A) → (if b then y ∷ (zs ++ e ∷ []) else (zs ++ e ∷ [])) ≡ (if b then y ∷ zs else zs) ++ e ∷ []
  behind true y zs e = refl
  behind false y zs e = refl

  pub of_same : (j k : ℕ) (e : A) → j ≡ k → (xs : List (ℕ × A)) → of j (xs ++ (k, e) ∷ []) ≡ of j xs ++ e ∷ []
  of_same j k e same [] = ap (λ (b : Bool). if b then e ∷ [] else []) (eq-eqb j k same)
  of_same j k e same (x ∷ xs) = ap (λ (r : List A). if j == x.0 then x.1 ∷ r else r) (of_same j k e same xs) ∙ behind (j == x.0) x.1 (of j xs) e

  pub of_else : (j k : ℕ) (e : A) → j ≢ k → (xs : List (ℕ × A)) → of j (xs ++ (k, e) ∷ []) ≡ of j xs
  of_else j k e other [] = ap (λ (b : Bool). if b then e ∷ [] else []) (ne_eqb j k other)
  of_else j k e other (x ∷ xs) = ap (λ (r : List A). if j == x.0 then x.1 ∷ r else r) (of_else j k e other xs)

  pub lists_else : (j n k : ℕ) (e : A) → k < j → (xs : List (ℕ × A)) → lists_from j n (xs ++ (k, e) ∷ []) ≡ lists_from j n xs
  lists_else j zero k e h xs = refl
  lists_else j (suc n) k e h xs = λ i. of_else j k e (λ s. omega arith) xs i ∷ lists_else (suc j) n k e (omega arith) xs i

  pub lists_get : (j n i : ℕ) (m : List A) (xs : List (ℕ × A)) → slice_get (lists_from j n xs) i ≡ Some m → (i < n) × (of (j + i) xs ≡ m)
  lists_get j zero i m xs e = absurd (cc)
  lists_get j (suc n) zero m xs e = let z : j + 0 ≡ j = omega arith in (omega arith, ap (λ k. of k xs) z ∙ some_is (of j xs) m e)
  lists_get j (suc n) (suc i) m xs e = let r = lists_get (suc j) n i m xs e in let z : j + suc i ≡ suc j + i = omega arith in (omega (arith, r.0), ap (λ k. of k xs) z ∙ r.1)

  pub lists_set : (j n i : ℕ) (e : A) (xs : List (ℕ × A)) → i < n → set (lists_from j n xs) i (of (j + i) xs ++ e ∷ []) ≡ lists_from j n (xs ++ (j + i, e) ∷ [])
  lists_set j zero i e xs h = absurd (omega arith)
  lists_set j (suc n) zero e xs h =
      let z : j + 0 ≡ j = omega arith in
      λ i. (ap (λ k. of k xs ++ e ∷ []) z ∙ sym (of_same j (j + 0) e (sym z) xs)) i ∷ sym (lists_else (suc j) n (j + 0) e (omega arith) xs) i
  lists_set j (suc n) (suc i) e xs h =
      let z : j + suc i ≡ suc j + i = omega arith in
      λ k. sym (of_else j (j + suc i) e (λ s. omega arith) xs) k ∷ (ap (λ (a : ℕ). set (lists_from (suc j) n xs) i (of a xs ++ e ∷ [])) z ∙ lists_set (suc j) n i e xs (omega arith) ∙ ap (λ (a : ℕ). lists_from (suc j) n (xs ++ (a, e) ∷ [])) (sym z)) k

  pub tagged_more : (n k : ℕ) (e : A) (xs : List (ℕ × A)) → Tagged n xs ≡ true → 0 < k → k ≤ n → Tagged n (xs ++ (k, e) ∷ []) ≡ true
  tagged_more n k e [] t pos le = and_both (nat_lt 0 k) (nat_le k n && true) (lt-ltb 0 k pos) (and_both (nat_le k n) true (le-leb k n le) refl)
  tagged_more n k e (x ∷ xs) t pos le =
      let a = nat_lt 0 x.0 in
      let b = nat_le x.0 n in
      let r = and_right a (b && Tagged n xs) t in
      and_both a (b && Tagged n (xs ++ (k, e) ∷ [])) (and_left a (b && Tagged n xs) t) (and_both b (Tagged n (xs ++ (k, e) ∷ [])) (and_left b (Tagged n xs) r) (tagged_more n k e xs (and_right b (Tagged n xs) r) pos le))

module _ {A : Type 0} where
  pub length_lists : (j n : ℕ) (xs : List (ℕ × A)) → length (lists_from j n xs) ≡ n
  length_lists j zero xs = refl
  length_lists j (suc n) xs = ap suc (length_lists (suc j) n xs)

  pub lists_more : (j n : ℕ) (xs : List (ℕ × A)) → lists_from j n xs ++ of (j + n) xs ∷ [] ≡ lists_from j (suc n) xs
  lists_more j zero xs = let z : j + 0 ≡ j = omega arith in ap (λ k. of k xs ∷ []) z
  lists_more j (suc n) xs = let z : j + suc n ≡ suc j + n = omega arith in λ i. of j xs ∷ (ap (λ k. lists_from (suc j) n xs ++ of k xs ∷ []) z ∙ lists_more (suc j) n xs) i

  pub of_beyond : (n k : ℕ) (xs : List (ℕ × A)) → Tagged n xs ≡ true → n < k → of k xs ≡ []
  of_beyond n k [] t h = refl
  of_beyond n k (x ∷ xs) t h =
      let a = nat_lt 0 x.0 in
      let b = nat_le x.0 n in
      let r = and_right a (b && Tagged n xs) t in
      let le = leb-true x.0 n (and_left b (Tagged n xs) r) in
      ap (λ (q : Bool). if q then x.1 ∷ of k xs else of k xs) (ne_eqb k x.0 (λ e. omega arith)) ∙ of_beyond n k xs (and_right b (Tagged n xs) r) h

  pub tagged_wider : (n m : ℕ) (xs : List (ℕ × A)) → Tagged n xs ≡ true → n ≤ m → Tagged m xs ≡ true
  tagged_wider n m [] t h = refl
  tagged_wider n m (x ∷ xs) t h =
      let a = nat_lt 0 x.0 in
      let b = nat_le x.0 n in
      let r = and_right a (b && Tagged n xs) t in
      let le = leb-true x.0 n (and_left b (Tagged n xs) r) in
      and_both a (nat_le x.0 m && Tagged m xs) (and_left a (b && Tagged n xs) t) (and_both (nat_le x.0 m) (Tagged m xs) (le-leb x.0 m (omega arith)) (tagged_wider n m xs (and_right b (Tagged n xs) r) h))

-- one pass more was looked at
pub looked_more : {A : Type 0} (lists : List (List A)) (i n : ℕ) (old d new : List A) (session : List (ℕ × A))
    → n ≡ i + 1 → i < length lists → old ≡ get_or lists i d → new ≡ old → old ≡ of n session → take i lists ≡ lists_from 1 i session
    → (set lists i new ≡ lists) × (take (i + 1) (set lists i new) ≡ lists_from 1 (i + 1) session)
looked_more lists i n old d new session is below at same its before =
    let z : n ≡ 1 + i = omega (arith, is) in
    let w : i + 1 ≡ suc i = omega arith in (
      ap (λ v. set lists i v) (same ∙ at) ∙ set-get_or lists i d,
      take_more_set lists i new below ∙ (λ t. before t ++ (same ∙ its ∙ ap (λ k. of k session) z) t ∷ []) ∙ lists_more 1 i session ∙ ap (λ k. lists_from 1 k session) (sym w),
    )
