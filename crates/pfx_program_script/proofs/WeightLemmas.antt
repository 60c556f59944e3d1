-- Reading the weights of a text one after the other.
use Rattle.std.proofs.Common.{◌≡◌, ◌<◌, ◌==◌, ℕ, ◌+◌, List, [], ◌∷◌, ◌++◌, length, get_or, drop, Option, Some, None, is_none, true, false, refl, sym, ap, ap₂, ◌∙◌, append_assoc, append-nil, arith}
use Rattle.std.specs.List.{before_first, after_first}
use Rattle.std.proofs.lemmas.List.{at_drop_more, at_drop_all}
use Rattle.pfx_program_script.specs.Weights.{number_within, paired, weight_in, with_weight, weights_of_parts}

-- weights before others, if these are there
abbrev pub with_all : List (ℕ × ℕ) → Option (List (ℕ × ℕ)) → Option (List (ℕ × ℕ))
with_all front None = None
with_all front (Some rest) = Some (front ++ rest)

-- what is left of the parts behind the first n of them decides, with the weights of these
pub record ReadSoFar (parts : List (List ℕ)) (n : ℕ) (front : List (ℕ × ℕ)) : Type 0 where
  pub goes : weights_of_parts parts ≡ with_all front (weights_of_parts (drop n parts))

none_before : (parts : List (List ℕ)) → weights_of_parts parts ≡ with_all [] (weights_of_parts parts)
none_before parts = go (weights_of_parts parts)
  where
    go : (o : Option (List (ℕ × ℕ))) → o ≡ with_all [] o
    go None = refl
    go (Some rest) = refl

pub reads_none : (parts : List (List ℕ)) → ReadSoFar parts 0 []
reads_none parts = record { goes = none_before parts }

one_more : (front : List (ℕ × ℕ)) (w : ℕ × ℕ) (o : Option (List (ℕ × ℕ))) → with_all front (with_weight (Some w) o) ≡ with_all (front ++ w ∷ []) o
one_more front w None = refl
one_more front w (Some rest) = ap Some (sym (append_assoc front (w ∷ []) rest))

weights-cons : (part : List ℕ) (parts : List (List ℕ)) → weights_of_parts (part ∷ parts) ≡ with_weight (weight_in part) (weights_of_parts parts)
unfolding weights_of_parts
weights-cons part parts = refl

-- the part at a place comes first of those that are left
weights-at : (parts : List (List ℕ)) (n : ℕ) (part : List ℕ) → n < length parts → part ≡ get_or parts n part
    → weights_of_parts (drop n parts) ≡ with_weight (weight_in part) (weights_of_parts (drop (n + 1) parts))
weights-at parts n part below is =
    at_drop_more weights_of_parts parts n part below ∙ weights-cons (get_or parts n part) (drop (n + 1) parts) ∙ ap (λ p. with_weight (weight_in p) (weights_of_parts (drop (n + 1) parts))) (sym is)

pub reads_more : (parts : List (List ℕ)) (n : ℕ) (front : List (ℕ × ℕ)) (part : List ℕ) (w : ℕ × ℕ) → ReadSoFar parts n front → (n < length parts) × (part ≡ get_or parts n part) → weight_in part ≡ Some w
    → ReadSoFar parts (n + 1) (front ++ w ∷ [])
reads_more parts n front part w h at is = record {
  goes = h.goes ∙ ap (with_all front) (weights-at parts n part at.0 at.1 ∙ ap (λ o. with_weight o (weights_of_parts (drop (n + 1) parts))) is) ∙ one_more front w (weights_of_parts (drop (n + 1) parts));
}

-- a part that is no weight: there are none
pub reads_no_weight : (parts : List (List ℕ)) (n : ℕ) (front : List (ℕ × ℕ)) (part : List ℕ) → ReadSoFar parts n front → (n < length parts) × (part ≡ get_or parts n part) → weight_in part ≡ None
    → weights_of_parts parts ≡ None
reads_no_weight parts n front part h at is =
    h.goes ∙ ap (with_all front) (weights-at parts n part at.0 at.1 ∙ ap (λ o. with_weight o (weights_of_parts (drop (n + 1) parts))) is)

weights-nil : weights_of_parts [] ≡ Some []
unfolding weights_of_parts
weights-nil = refl

pub reads_all : (parts : List (List ℕ)) (n : ℕ) (front : List (ℕ × ℕ)) → ReadSoFar parts n front → n ≡ length parts → weights_of_parts parts ≡ Some front
reads_all parts n front h all =
    h.goes ∙ ap (with_all front) (at_drop_all weights_of_parts parts n (omega arith) ∙ weights-nil) ∙ ap Some (append-nil front)

pub weight_by : (text front rest : List ℕ) → front ≡ before_first (λ b. b == 47) text → rest ≡ after_first (λ b. b == 47) text → weight_in text ≡ paired (number_within front) (number_within rest)
unfolding weight_in
weight_by text front rest e f = ap₂ (λ a b. paired (number_within a) (number_within b)) (sym e) (sym f)

-- a part more, if it is a weight
pub reads_one : (parts : List (List ℕ)) (n : ℕ) (part : List ℕ) (o : Option (ℕ × ℕ)) → (front : List (ℕ × ℕ)) × ReadSoFar parts n front → (n < length parts) × (part ≡ get_or parts n part)
    → weight_in part ≡ o → is_none o ≡ false → (front : List (ℕ × ℕ)) × ReadSoFar parts (n + 1) front
reads_one parts n part (Some w) (front, h) at is there = (front ++ w ∷ [], reads_more parts n front part w h at is)
reads_one parts n part None (front, h) at is there = cc

pub is_no_weight : (part : List ℕ) (o : Option (ℕ × ℕ)) → weight_in part ≡ o → is_none o ≡ true → weight_in part ≡ None
is_no_weight part (Some w) is there = cc
is_no_weight part None is there = is
