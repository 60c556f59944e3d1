-- What bytes begin with, in parts.
use Rattle.std.proofs.Common.{◌≡◌, ◌≤◌, ◌<◌, ℕ, List, [], ◌∷◌, ◌++◌, length, get_or, take, drop, refl, sym, ◌∙◌, ap, ap₂, subst, arith, append_assoc, append-nil, length-append}
use Rattle.std.proofs.Math.Seq.{take-append_seam, drop-append_seam}
use Rattle.std.proofs.lemmas.List.{take-append-drop, drop-drop}
use Rattle.pfx_record.specs.Begins.{Begins, joined}

pub begins_take : (bytes xs : List ℕ) → Begins bytes xs → take (length xs) bytes ≡ xs
begins_take bytes xs b = ap (take (length xs)) b.is ∙ take-append_seam xs b.rest

pub taken_begins : (n : ℕ) (bytes : List ℕ) → Begins bytes (take n bytes)
taken_begins n bytes = record { rest = drop n bytes; is = sym (take-append-drop n bytes) }

pub begins_len : (bytes xs : List ℕ) → Begins bytes xs → length xs ≤ length bytes
begins_len bytes xs b = omega (arith, ap length b.is, length-append xs b.rest)

pub begins_left : (bytes xs ys : List ℕ) → Begins bytes (xs ++ ys) → Begins bytes xs
begins_left bytes xs ys b = record { rest = ys ++ b.rest; is = b.is ∙ append_assoc xs ys b.rest }

pub begins_right : (bytes xs ys : List ℕ) → Begins bytes (xs ++ ys) → Begins (drop (length xs) bytes) ys
begins_right bytes xs ys b = record { rest = b.rest; is = ap (drop (length xs)) (b.is ∙ append_assoc xs ys b.rest) ∙ drop-append_seam xs (ys ++ b.rest) }

pub begins_join : (bytes xs ys : List ℕ) → Begins bytes xs → Begins (drop (length xs) bytes) ys → Begins bytes (xs ++ ys)
begins_join bytes xs ys b c = record {
  rest = c.rest;
  is = sym (take-append-drop (length xs) bytes) ∙ ap (λ (l : List ℕ). l ++ drop (length xs) bytes) (begins_take bytes xs b)
      ∙ ap (λ (l : List ℕ). xs ++ l) c.is ∙ sym (append_assoc xs ys c.rest);
}

-- two fronts of one length are one
pub begins_same : (bytes xs ys : List ℕ) → Begins bytes xs → Begins bytes ys → length xs ≡ length ys → xs ≡ ys
begins_same bytes xs ys b c long = sym (begins_take bytes xs b) ∙ ap (λ (n : ℕ). take n bytes) long ∙ begins_take bytes ys c

-- the same, if the first part is known to have n bytes
pub begins_behind : (n : ℕ) (bytes xs ys : List ℕ) → length xs ≡ n → Begins bytes (xs ++ ys) → Begins (drop n bytes) ys
begins_behind n bytes xs ys long b = subst (λ (k : ℕ). Begins (drop k bytes) ys) long (begins_right bytes xs ys b)

pub begins_with : (n : ℕ) (bytes xs ys : List ℕ) → length xs ≡ n → Begins bytes xs → Begins (drop n bytes) ys → Begins bytes (xs ++ ys)
begins_with n bytes xs ys long b c = begins_join bytes xs ys b (subst (λ (k : ℕ). Begins (drop k bytes) ys) (sym long) c)

-- the first byte
pub begins_head : (bytes : List ℕ) (x : ℕ) (xs : List ℕ) → Begins bytes (x ∷ xs) → get_or bytes 0 0 ≡ x
begins_head bytes x xs b = ap (λ (l : List ℕ). get_or l 0 0) b.is

pub begins_tail : (bytes : List ℕ) (x : ℕ) (xs : List ℕ) → Begins bytes (x ∷ xs) → Begins (drop 1 bytes) xs
begins_tail bytes x xs b = begins_behind 1 bytes (x ∷ []) xs refl b

pub begins_one : (bytes : List ℕ) (x : ℕ) → 0 < length bytes → get_or bytes 0 0 ≡ x → Begins bytes (x ∷ [])
begins_one [] x some is = absurd (omega (arith, some))
begins_one (b ∷ bytes) x some is = record { rest = bytes; is = ap (λ (k : ℕ). k ∷ bytes) is }

pub begins_cons : (bytes : List ℕ) (x : ℕ) (xs : List ℕ) → 0 < length bytes → get_or bytes 0 0 ≡ x → Begins (drop 1 bytes) xs → Begins bytes (x ∷ xs)
begins_cons bytes x xs some is b = begins_with 1 bytes (x ∷ []) xs refl (begins_one bytes x some is) b

-- a fact of each
abbrev pub Each : {X : Type 0} → (X → Type 0) → List X → Type 0
Each P [] = Unit {0}
Each P (x ∷ xs) = P x × Each P xs

pub joined-push : {X : Type 0} (f : X → List ℕ) (xs : List X) (x : X) → joined f (xs ++ x ∷ []) ≡ joined f xs ++ f x
joined-push f [] x = append-nil (f x)
joined-push f (first ∷ xs) x = ap (λ (l : List ℕ). f first ++ l) (joined-push f xs x) ∙ sym (append_assoc (f first) (joined f xs) (f x))

-- If each of some things is told by what bytes begin with, the longer of two lists that bytes begin with goes on
-- from the shorter one.
module _ {X : Type 0} (f : X → List ℕ) (Good : X → Type 0) (told : (bytes : List ℕ) (x y : X) → Good x → Good y → Begins bytes (f x) → Begins bytes (f y) → x ≡ y) where
  abbrev pub GoesOn : List ℕ → List X → List X → Type 0
  GoesOn bytes xs ys = (zs : List X) × (ys ≡ xs ++ zs) × Begins (drop (length (joined f xs)) bytes) (joined f zs)

  pub goes_on : (bytes : List ℕ) (xs ys : List X) → Each Good xs → Each Good ys → length xs ≤ length ys → Begins bytes (joined f xs) → Begins bytes (joined f ys) → GoesOn bytes xs ys
  goes_on bytes [] ys good_x good_y long b c = (ys, refl, c)
  goes_on bytes (x ∷ xs) [] good_x good_y long b c = absurd (omega (arith, long))
  goes_on bytes (x ∷ xs) (y ∷ ys) good_x good_y long b c =
      let same : x ≡ y = told bytes x y good_x.0 good_y.0 (begins_left bytes (f x) (joined f xs) b) (begins_left bytes (f y) (joined f ys) c) in
      let rest = goes_on (drop (length (f x)) bytes) xs ys good_x.1 good_y.1 (omega (arith, long)) (begins_right bytes (f x) (joined f xs) b) (begins_behind (length (f x)) bytes (f y) (joined f ys) (ap (λ (z : X). length (f z)) (sym same)) c) in
      (rest.0, ap₂ (λ (z : X) (l : List X). z ∷ l) (sym same) rest.1, subst (λ (l : List ℕ). Begins l (joined f rest.0)) (drop_twice (f x) (joined f xs) bytes) rest.2)
    where
      drop_twice : (a b bytes : List ℕ) → drop (length b) (drop (length a) bytes) ≡ drop (length (a ++ b)) bytes
      drop_twice a b bytes = drop-drop (length b) (length a) bytes ∙ ap (λ (k : ℕ). drop k bytes) (omega (arith, length-append a b))
