-- Each step keeps the rule.
use Rattle.std.proofs.Common.{◌≡◌, ◌≢◌, ◌⊎◌, ℕ, zero, suc, ◌<◌, List, [], ◌∷◌, ◌++◌, length, set, Some, Bool, true, false, true≢false, inl, inr, refl, sym, ap, ◌∙◌, subst, ⊎_elim, arith, eq-eqb, ne_eqb, eqb}
use Rattle.std.specs.Prelude.{slice_get}
use mathlib.Core.Option.{some, some-ne-none, some-injective}
use lib.ListN.{get_elem?}
use Rattle.atomic_table.specs.Table.{Me, Step, keeps, Allows, Splits, Joins}
use Rattle.atomic_table.proofs.Lists.{at_set, set_again}
use Rattle.pfx_token.specs.declared.seats.View.{View}
use Rattle.pfx_token.specs.Seats.{keeper, token, nobody, with_one_more, next_token, holding, let_go, held, Fits, Kept, KeptIn, said_list, Added}

abbrev pick : Bool → ℕ → ℕ → ℕ
pick true a b = a
pick false a b = b

-- the owner of k becomes by
abbrev moved : (ℕ → ℕ) → ℕ → ℕ → ℕ → ℕ
moved owner k by n = pick (eqb n k) by (owner n)

moved_here : (owner : ℕ → ℕ) (k by n : ℕ) → n ≡ k → moved owner k by n ≡ by
moved_here owner k by n e = ap (λ b. pick b by (owner n)) (eq-eqb n k e)

moved_else : (owner : ℕ → ℕ) (k by n : ℕ) → n ≢ k → moved owner k by n ≡ owner n
moved_else owner k by n e = ap (λ b. pick b by (owner n)) (ne_eqb n k e)

off : false ≡ true → ⊥
off e = true≢false (sym e)

module _ {A : Type 0} where
  get_below : (l : List A) (i : ℕ) (a : A) → get_elem? l i ≡ some a → i < length l
  get_below [] i a e = absurd (some-ne-none a (sym e))
  get_below (x ∷ xs) zero a e = omega arith
  get_below (x ∷ xs) (suc i) a e = let h = get_below xs i a e in omega arith

  at_end : (l : List A) (a b : A) (j : ℕ) → get_elem? (l ++ a ∷ []) j ≡ some b → (get_elem? l j ≡ some b) ⊎ ((j ≡ length l) × (a ≡ b))
  at_end [] a b zero e = inr (refl, some-injective a b e)
  at_end [] a b (suc j) e = absurd (some-ne-none b (sym e))
  at_end (x ∷ xs) a b zero e = inl e
  at_end (x ∷ xs) a b (suc j) e = ⊎_elim (λ t. inl t) (λ t. inr (ap suc t.0, t.1)) (at_end xs a b j e)

  get_below' : (l : List A) (i : ℕ) (a : A) → slice_get l i ≡ Some a → i < length l
  get_below' [] i a e = absurd (cc)
  get_below' (x ∷ xs) zero a e = omega arith
  get_below' (x ∷ xs) (suc i) a e = let h = get_below' xs i a e in omega arith

  get_front : (l m : List A) (i : ℕ) (a : A) → slice_get l i ≡ Some a → slice_get (l ++ m) i ≡ Some a
  get_front [] m i a e = absurd (cc)
  get_front (x ∷ xs) m zero a e = e
  get_front (x ∷ xs) m (suc i) a e = get_front xs m i a e

  get_last : (l : List A) (a : A) → slice_get (l ++ a ∷ []) (length l) ≡ Some a
  get_last [] a = refl
  get_last (x ∷ xs) a = get_last xs a

  get_set : (l : List A) (i : ℕ) (a b : A) → slice_get l i ≡ Some b → slice_get (set l i a) i ≡ Some a
  get_set [] i a b e = absurd (cc)
  get_set (x ∷ xs) zero a b e = refl
  get_set (x ∷ xs) (suc i) a b e = get_set xs i a b e

  get_set_else : (l : List A) (i j : ℕ) (a : A) → j ≢ i → slice_get (set l i a) j ≡ slice_get l j
  get_set_else [] i j a n = refl
  get_set_else (x ∷ xs) zero zero a n = absurd (n refl)
  get_set_else (x ∷ xs) zero (suc j) a n = refl
  get_set_else (x ∷ xs) (suc i) zero a n = refl
  get_set_else (x ∷ xs) (suc i) (suc j) a n = get_set_else xs i j a (λ e. n (ap suc e))

module _ {E : Type 0} where
  fits_set : (seat : ℕ) (owner : ℕ → ℕ) (lists : List (List E)) (views : List (View E)) (by : ℕ) (w : View E)
      → ((j : ℕ) (u : View E) → j ≢ by → get_elem? views j ≡ some u → Fits seat owner lists j u) → Fits seat owner lists by w
      → (j : ℕ) (u : View E) → get_elem? (set views by w) j ≡ some u → Fits seat owner lists j u
  fits_set seat owner lists views by w others mine j u e =
      ⊎_elim
      (λ (x : (j ≡ by) × (w ≡ u)). subst (λ (y : ℕ × View E). Fits seat owner lists y.0 y.1) (λ i. (sym x.0 i, x.1 i)) mine)
      (λ (x : (j ≢ by) × (get_elem? views j ≡ some u)). others j u x.0 x.1)
      (at_set views by j w u e)

  fits_end : (seat : ℕ) (owner : ℕ → ℕ) (lists : List (List E)) (views : List (View E)) (w : View E)
      → ((j : ℕ) (u : View E) → j < length views → get_elem? views j ≡ some u → Fits seat owner lists j u) → Fits seat owner lists (length views) w
      → (j : ℕ) (u : View E) → get_elem? (views ++ w ∷ []) j ≡ some u → Fits seat owner lists j u
  fits_end seat owner lists views w others mine j u e =
      ⊎_elim
      (λ x. others j u (get_below views j u x) x)
      (λ (x : (j ≡ length views) × (w ≡ u)). subst (λ (y : ℕ × View E). Fits seat owner lists y.0 y.1) (λ i. (sym x.0 i, x.1 i)) mine)
      (at_end views w u j e)

  pub begins : Kept {E = E} (keeper [] ∷ [])
  begins = (0, (λ _. 0), [], one)
    where
      one : (by : ℕ) (v : View E) → get_elem? (keeper [] ∷ []) by ≡ some v → Fits 0 (λ _. 0) [] by v
      one zero v e = subst (Fits 0 (λ _. 0) [] 0) (some-injective _ _ e) ((λ _. (refl, refl)), (λ c. absurd (off c)))
      one (suc by) v e = absurd (some-ne-none v (sym e))

  -- a seat that knows nothing comes
  pub blanks : (by : ℕ) (v : View E) (views : List (View E)) → Kept views → get_elem? views by ≡ some v → Kept (set views by v ++ nobody ∷ [])
  blanks by v views h at = subst (λ l. Kept (l ++ nobody ∷ [])) (sym (set_again views by v at))
      (h.0, h.1, h.2, fits_end h.0 h.1 h.2 views nobody (λ j u _ e. h.3 j u e) ((λ k. absurd (off k)), (λ c. absurd (off c))))

  pub makes : (by : ℕ) (lists : List (List E)) (views : List (View E)) → Kept views → get_elem? views by ≡ some (keeper lists)
      → Kept (set views by (keeper (lists ++ [] ∷ [])) ++ token (length lists) [] ∷ [])
  makes by lists views h at =
      let seat = h.0 in
      let owner = h.1 in
      let mine = (h.3 by (keeper lists) at).0 refl in
      let k = length lists in
      let w = keeper (lists ++ [] ∷ []) in
      let now = lists ++ [] ∷ [] in
      let new = length (set views by w) in
      let owner' = moved owner k new in
      let below : (j : ℕ) (u : View E) → get_elem? views j ≡ some u → u.claims ≡ true → u.number < length lists
      = λ j u e c. get_below' lists u.number u.mine (subst (λ l. slice_get l u.number ≡ Some u.mine) (sym mine.1) ((h.3 j u e).1 c).1) in (
        seat,
        owner',
        now,
        fits_end seat owner' now (set views by w) (token k [])
            (λ j u _ e. fits_set seat owner' now views by w
            (λ j u apart e. (
              (λ kp. absurd (apart (((h.3 j u e).0 kp).0 ∙ sym mine.0))),
              (λ c.
                  let b = below j u e c in (
                    moved_else owner k new u.number (λ same. omega arith) ∙ ((h.3 j u e).1 c).0,
                    get_front lists ([] ∷ []) u.number u.mine (subst (λ l. slice_get l u.number ≡ Some u.mine) (sym mine.1) ((h.3 j u e).1 c).1),
                  )),
            ))
            ((λ _. (mine.0, refl)), (λ c. absurd (off c))) j u e)
            ((λ kp. absurd (off kp)), (λ _. (moved_here owner k new k refl, get_last lists []))),
      )

  pub takes : (by : ℕ) (lists : List (List E)) (other number : ℕ) (mine : List E) (views : List (View E)) → Kept views → get_elem? views by ≡ some (keeper lists) → ¬ (other ≡ by)
      → get_elem? (set views by (holding (keeper lists) (token number mine))) other ≡ some (token number mine)
      → Kept (set (set views by (holding (keeper lists) (token number mine))) other nobody)
  takes by lists other number mine views h at apart there =
      let seat = h.0 in
      let owner = h.1 in
      let known = (h.3 by (keeper lists) at).0 refl in
      let w = holding (keeper lists) (token number mine) in
      let was : get_elem? views other ≡ some (token number mine)
      = ⊎_elim (λ (t : (other ≡ by) × (w ≡ token number mine)). absurd (apart t.0)) (λ (t : (other ≢ by) × (get_elem? views other ≡ some (token number mine))). t.1) (at_set views by other w (token number mine) there) in
      let its = (h.3 other (token number mine) was).1 refl in
      let owner' = moved owner number by in (
        seat,
        owner',
        h.2,
        fits_set seat owner' h.2 (set views by w) other nobody
            (λ j u notother e. ⊎_elim
            (λ (t : (j ≡ by) × (w ≡ u)). subst (λ (y : ℕ × View E). Fits seat owner' h.2 y.0 y.1) (λ i. (sym t.0 i, t.1 i)) ((λ _. known), (λ _. (moved_here owner number by number refl, its.1))))
            (λ (t : (j ≢ by) × (get_elem? views j ≡ some u)). (
              (h.3 j u t.1).0,
              (λ c.
                  let theirs = (h.3 j u t.1).1 c in
                  (moved_else owner number by u.number (λ same. notother (sym theirs.0 ∙ ap owner same ∙ its.0)) ∙ theirs.0, theirs.1)),
            ))
            (at_set views by j w u e))
            ((λ kp. absurd (off kp)), (λ c. absurd (off c))),
      )

  abbrev pub hand : List (List E) → ℕ → List E → View E
  hand lists number mine = record { keeps = true; lists = lists; claims = true; number = number; mine = mine }

  pub knows : (by : ℕ) (lists : List (List E)) (number : ℕ) (mine : List E) (views : List (View E)) → Kept views → get_elem? views by ≡ some (hand lists number mine) → slice_get lists number ≡ Some mine
  knows by lists number mine views h at =
      let all = h.3 by (hand lists number mine) at in
      subst (λ l. slice_get l number ≡ Some mine) (sym (all.0 refl).1) (all.1 refl).1

  pub adds : (by : ℕ) (lists : List (List E)) (number : ℕ) (mine xs : List E) (views : List (View E)) → Kept views → get_elem? views by ≡ some (hand lists number mine)
      → Kept (set views by (hand (set lists number (mine ++ xs)) number (mine ++ xs)))
  adds by lists number mine xs views h at =
      let seat = h.0 in
      let owner = h.1 in
      let all = h.3 by (hand lists number mine) at in
      let known = all.0 refl in
      let its = all.1 refl in
      let now = set lists number (mine ++ xs) in
      let here = knows by lists number mine views h at in (
        seat,
        owner,
        now,
        fits_set seat owner now views by (hand now number (mine ++ xs))
            (λ j u apart e. (
              (λ kp. absurd (apart (((h.3 j u e).0 kp).0 ∙ sym known.0))),
              (λ c.
                  let theirs = (h.3 j u e).1 c in
                  (theirs.0, get_set_else lists number u.number (mine ++ xs) (λ same. apart (sym theirs.0 ∙ ap owner same ∙ its.0)) ∙ subst (λ l. slice_get l u.number ≡ Some u.mine) (sym known.1) theirs.1)),
            ))
            ((λ _. (known.0, refl)), (λ _. (its.0, get_set lists number (mine ++ xs) mine here))),
      )

  pub gives : (by : ℕ) (lists : List (List E)) (number : ℕ) (mine : List E) (views : List (View E)) → Kept views → get_elem? views by ≡ some (hand lists number mine)
      → Kept (set views by (keeper lists) ++ token number mine ∷ [])
  gives by lists number mine views h at =
      let seat = h.0 in
      let owner = h.1 in
      let all = h.3 by (hand lists number mine) at in
      let known = all.0 refl in
      let its = all.1 refl in
      let w : View E = keeper lists in
      let new = length (set views by w) in
      let owner' = moved owner number new in (
        seat,
        owner',
        h.2,
        fits_end seat owner' h.2 (set views by w) (token number mine)
            (λ j u _ e. fits_set seat owner' h.2 views by w
            (λ j u apart e. (
              (h.3 j u e).0,
              (λ c.
                  let theirs = (h.3 j u e).1 c in
                  (moved_else owner number new u.number (λ same. apart (sym theirs.0 ∙ ap owner same ∙ its.0)) ∙ theirs.0, theirs.1)),
            ))
            ((λ _. known), (λ c. absurd (off c))) j u e)
            ((λ kp. absurd (off kp)), (λ _. (moved_here owner number new number refl, its.1))),
      )

  -- the moves, as the table asks for them
  pub blanks_as : (id : ℕ) (v : View E) → Splits (KeptIn {E = E}) id v v nobody
  blanks_as id v s h at = blanks id v s.views h at

  pub makes_as : (id : ℕ) (v : View E) (lists : List (List E)) → v ≡ keeper lists → Splits (KeptIn {E = E}) id v (with_one_more v) (next_token v)
  makes_as id v lists is = subst (λ (u : View E). Splits (KeptIn {E = E}) id u (with_one_more u) (next_token u)) (sym is) (λ s h at. makes id lists s.views h at)

  pub takes_as : (id : ℕ) (v : View E) (lists : List (List E)) (other : ℕ) (w : View E) (number : ℕ) (mine : List E) → v ≡ keeper lists → w ≡ token number mine → Joins (KeptIn {E = E}) id v other w (holding v w) nobody
  takes_as id v lists other w number mine is that = subst (λ (p : View E × View E). Joins (KeptIn {E = E}) id p.0 other p.1 (holding p.0 p.1) nobody) (λ i. (sym is i, sym that i)) (λ s h at apart there. takes id lists other number mine s.views h at apart there)

  pub gives_as : (id : ℕ) (v : View E) (lists : List (List E)) (number : ℕ) (mine : List E) → v ≡ hand lists number mine → Splits (KeptIn {E = E}) id v (let_go v) (held v)
  gives_as id v lists number mine is = subst (λ (u : View E). Splits (KeptIn {E = E}) id u (let_go u) (held u)) (sym is) (λ s h at. gives id lists number mine s.views h at)

  pub adds_as : (slots id word : ℕ) (f : ℕ → ℕ) (st : Step E) (me : Me E (View E)) (lists : List (List E)) (number : ℕ) (mine : List E) → me ≡ (hand lists number mine, [])
      → Allows (KeptIn {E = E}) slots id me word f (Added st me)
  adds_as slots id word f st me lists number mine is = subst (λ (m : Me E (View E)). Allows (KeptIn {E = E}) slots id m word f (Added st m)) (sym is)
      (λ s h _ at _. (hand (set lists number (mine ++ said_list st.said)) number (mine ++ said_list st.said), keeps, tt, adds id lists number mine (said_list st.said) s.views h at, (refl, knows id lists number mine s.views h at)))

  pub learns_as : (slots id word : ℕ) (me : Me E (View E)) (lists : List (List E)) (number : ℕ) (mine : List E) → me ≡ (hand lists number mine, [])
      → Allows (KeptIn {E = E}) slots id me word (λ n. n) (λ n after. (after ≡ me) × (slice_get me.0.lists me.0.number ≡ Some me.0.mine))
  learns_as slots id word me lists number mine is = subst (λ (m : Me E (View E)). Allows (KeptIn {E = E}) slots id m word (λ n. n) (λ n after. (after ≡ m) × (slice_get m.0.lists m.0.number ≡ Some m.0.mine))) (sym is)
      (λ s h _ at _. (hand lists number mine, keeps, tt, subst Kept (sym (set_again s.views id (hand lists number mine) at)) h, (refl, knows id lists number mine s.views h at)))
