-- The passes' lists, gathered.
use Rattle.std.specs.Prelude.{if◌then◌else◌, ◌==◌, ◌&&◌, nat_lt, nat_le}
use Rattle.std.proofs.Common.{◌≡◌, ℕ, zero, suc, ◌+◌, ◌<◌, ◌≤◌, get_or, take, map, List, [], ◌∷◌, length, set, Bool, true, false, refl, sym, ap, ◌∙◌, subst, arith}
use Rattle.std.proofs.lemmas.Bool.{leb-true, ltb-true}
use Rattle.std.proofs.lemmas.List.{set-get_or}
use Rattle.pfx_book.specs.Merging.{of, lists_from, numbers_from, Tagged, IsMerge}
use Rattle.pfx_book.specs.declared.note.Note.{Note}
use Rattle.pfx_book.specs.Notes.{is_entry, entries_of, answers_of}
use Rattle.pfx_book.proofs.Merges.{looked_more, and_left, and_right, and_both}
use Rattle.pfx_book.proofs.Taking.{length_map}

module _ {J : Type 0} where
  of_if : (b : Bool) (k : ℕ) (x : ℕ × Note J) (rest : List (ℕ × Note J)) → of k (if b then x ∷ rest else rest) ≡ (if b then (if k == x.0 then x.1 ∷ of k rest else of k rest) else of k rest)
  of_if true k x rest = refl
  of_if false k x rest = refl

  answers_if : (a : Bool) (x : Note J) (rest : List (Note J)) → answers_of (if a then x ∷ rest else rest) ≡ (if a then (if is_entry x then x ∷ answers_of rest else answers_of rest) else answers_of rest)
  answers_if true x rest = refl
  answers_if false x rest = refl

  swapped : (a b : Bool) (x : Note J) (rest : List (Note J)) → (if b then (if a then x ∷ rest else rest) else rest) ≡ (if a then (if b then x ∷ rest else rest) else rest)
  swapped true true x rest = refl
  swapped true false x rest = refl
  swapped false true x rest = refl
  swapped false false x rest = refl

  -- the entries of a pass are its notes without losses
  pub of_entries : (k : ℕ) (xs : List (ℕ × Note J)) → of k (entries_of xs) ≡ answers_of (of k xs)
  of_entries k [] = refl
  of_entries k (x ∷ xs) =
      let same = of_entries k xs in
      of_if (is_entry x.1) k x (entries_of xs)
      ∙ ap (λ (r : List (Note J)). if is_entry x.1 then (if k == x.0 then x.1 ∷ r else r) else r) same
      ∙ swapped (k == x.0) (is_entry x.1) x.1 (answers_of (of k xs))
      ∙ sym (answers_if (k == x.0) x.1 (of k xs))

get_or_map : {A B : Type 0} (f : A → B) (xs : List A) (i : ℕ) (d : A) → get_or (map f xs) i (f d) ≡ f (get_or xs i d)
get_or_map f [] i d = refl
get_or_map f (x ∷ xs) zero d = refl
get_or_map f (x ∷ xs) (suc i) d = get_or_map f xs i d

-- passes that are numbered from 1 on
numbered : (k n i d : ℕ) → i < n → get_or (numbers_from k n) i d ≡ k + i
numbered k zero i d below = absurd (omega (arith, below))
numbered k (suc n) zero d below = omega arith
numbered k (suc n) (suc i) d below = numbered (suc k) n i d (omega (arith, below)) ∙ omega arith

numbers_long : (k n : ℕ) → length (numbers_from k n) ≡ n
numbers_long k zero = refl
numbers_long k (suc n) = ap suc (numbers_long (suc k) n)

pub all_long : {A : Type 0} (passes : List (ℕ × A)) (n : ℕ) → map (λ p. p.0) passes ≡ numbers_from 1 n → length passes ≡ n
all_long passes n all = let long = length_map (λ (p : ℕ × _). p.0) passes in let same = ap length all in omega (arith, long, same, numbers_long 1 n)

pub pass_here : {A : Type 0} (passes : List (ℕ × A)) (i n : ℕ) (old d : ℕ × A) → map (λ p. p.0) passes ≡ numbers_from 1 n → i < length passes → old ≡ get_or passes i d → old.0 ≡ i + 1
pass_here passes i n old d all below at =
    ap (λ (p : ℕ × _). p.0) at ∙ sym (get_or_map (λ (p : ℕ × _). p.0) passes i d) ∙ ap (λ l. get_or l i d.0) all
    ∙ numbered 1 n i d.0 (let long = all_long passes n all in omega (arith, below, long)) ∙ omega arith

-- one pass more was looked at
pub gathered_more : {P A : Type 0} (f : P → List A) (passes : List P) (i n : ℕ) (old d new : P) (session : List (ℕ × A))
    → n ≡ i + 1 → i < length passes → old ≡ get_or passes i d → new ≡ old → f old ≡ of n session → take i (map f passes) ≡ lists_from 1 i session
    → (set passes i new ≡ passes) × (take (i + 1) (map f (set passes i new)) ≡ lists_from 1 (i + 1) session)
gathered_more f passes i n old d new session is below at same its before =
    let kept : set passes i new ≡ passes = ap (λ v. set passes i v) (same ∙ at) ∙ set-get_or passes i d in
    let m = looked_more (map f passes) i n (f old) (f d) (f new) session is (omega (arith, below, length_map f passes)) (ap f at ∙ sym (get_or_map f passes i d)) (ap f same) its before in
    (kept, ap (λ l. take (i + 1) (map f l)) kept ∙ ap (take (i + 1)) (sym m.0) ∙ m.1)

take_whole : {A : Type 0} (n : ℕ) (xs : List A) → length xs ≤ n → take n xs ≡ xs
take_whole zero [] h = refl
take_whole (suc n) [] h = refl
take_whole zero (x ∷ xs) h = absurd (omega (arith, h))
take_whole (suc n) (x ∷ xs) h = ap (λ l. x ∷ l) (take_whole n xs (omega (arith, h)))

module _ {J : Type 0} where
  kept_tagged : (b : Bool) (n : ℕ) (x : ℕ × Note J) (rest : List (ℕ × Note J)) → nat_lt 0 x.0 ≡ true → nat_le x.0 n ≡ true → Tagged n rest ≡ true → Tagged n (if b then x ∷ rest else rest) ≡ true
  kept_tagged true n x rest a b t = and_both (nat_lt 0 x.0) (nat_le x.0 n && Tagged n rest) a (and_both (nat_le x.0 n) (Tagged n rest) b t)
  kept_tagged false n x rest a b t = t

  tagged_entries : (n : ℕ) (xs : List (ℕ × Note J)) → Tagged n xs ≡ true → Tagged n (entries_of xs) ≡ true
  tagged_entries n [] t = refl
  tagged_entries n (x ∷ xs) t =
      let r = and_right (nat_lt 0 x.0) (nat_le x.0 n && Tagged n xs) t in
      kept_tagged (is_entry x.1) n x (entries_of xs) (and_left (nat_lt 0 x.0) (nat_le x.0 n && Tagged n xs) t) (and_left (nat_le x.0 n) (Tagged n xs) r) (tagged_entries n xs (and_right (nat_le x.0 n) (Tagged n xs) r))

  -- all passes were looked at
  pub gathered_all : {P : Type 0} (f : P → List (Note J)) (passes : List P) (i n : ℕ) (session all : List (ℕ × Note J)) → n ≡ length passes → i ≤ length passes → length passes ≤ i
      → take i (map f passes) ≡ lists_from 1 i session → session ≡ entries_of all → Tagged n all ≡ true → IsMerge (map f passes) session
  gathered_all f passes i n session all is low high lists same tagged =
      let long = length_map f passes in
      let m : i ≡ length (map f passes) = omega (arith, low, high, long) in
      let k : n ≡ length (map f passes) = omega (arith, is, long) in record {
        tagged = (λ j. Tagged (sym k j) (same j)) ∙ tagged_entries n all tagged;
        lists_are = sym (take_whole i (map f passes) (omega (arith, high, long))) ∙ lists ∙ ap (λ (j : ℕ). lists_from 1 j session) m;
      }

  both_one : (e : Note J) (k : ℕ) (xs : List (ℕ × Note J)) → nat_lt 0 k ≡ true → nat_le k 1 ≡ true → xs ≡ map (λ v. (1, v)) (of 1 xs) → (k, e) ∷ xs ≡ map (λ v. (1, v)) (of 1 ((k, e) ∷ xs))
  both_one e zero xs low high rest = let h = ltb-true 0 0 low in absurd (omega (arith, h))
  both_one e (suc zero) xs low high rest = ap (λ l. (1, e) ∷ l) rest
  both_one e (suc (suc k)) xs low high rest = let h = leb-true (suc (suc k)) 1 high in absurd (omega (arith, h))

  -- a session whose entries are all of the first pass
  first_alone : (xs : List (ℕ × Note J)) → Tagged 1 xs ≡ true → xs ≡ map (λ v. (1, v)) (of 1 xs)
  first_alone [] t = refl
  first_alone ((k, e) ∷ xs) t =
      let r = and_right (nat_lt 0 k) (nat_le k 1 && Tagged 1 xs) t in
      both_one e k xs (and_left (nat_lt 0 k) (nat_le k 1 && Tagged 1 xs) t) (and_left (nat_le k 1) (Tagged 1 xs) r) (first_alone xs (and_right (nat_le k 1) (Tagged 1 xs) r))

  pub sole_session : (notes : List (Note J)) (n : ℕ) (session all : List (ℕ × Note J)) → n ≡ 1 → session ≡ entries_of all → Tagged n all ≡ true → answers_of notes ≡ of 1 session → session ≡ map (λ v. (1, v)) (answers_of notes)
  sole_session notes n session all one same tagged its =
      first_alone session ((λ j. Tagged 1 (same j)) ∙ tagged_entries 1 all (subst (λ (k : ℕ). Tagged k all ≡ true) one tagged)) ∙ ap (map (λ v. (1, v))) (sym its)
