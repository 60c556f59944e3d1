-- Which weights a record says.
use Rattle.std.specs.Prelude.{ℕ, ◌==◌, nat_le, if◌then◌else◌, List, [], ◌∷◌, Option, Some, None, option_map, unwrap_or}
use Rattle.std.specs.List.{before_first, after_first, slice_split}
use Rattle.pfx_kinds_decimal.specs.Numerals.{number_in}

-- a number of 1 to 10 digits; 0 in place of one above 4,294,967,295
abbrev pub number_within : List ℕ → Option ℕ
number_within text = option_map (λ n. if nat_le n 4294967295 then n else 0) (number_in 10 text)

-- two numbers, if both are there
abbrev pub paired : Option ℕ → Option ℕ → Option (ℕ × ℕ)
paired (Some e) (Some p) = Some (e, p)
paired (Some e) None = None
paired None p = None

-- a weight `E/P`: a number before the first slash, and one after it
unfoldable pub weight_in : List ℕ → Option (ℕ × ℕ)
weight_in text = paired (number_within (before_first (λ b. b == 47) text)) (number_within (after_first (λ b. b == 47) text))

-- a weight before others, if all are there
abbrev pub with_weight : Option (ℕ × ℕ) → Option (List (ℕ × ℕ)) → Option (List (ℕ × ℕ))
with_weight (Some w) (Some rest) = Some (w ∷ rest)
with_weight (Some w) None = None
with_weight None rest = None

-- each text as a weight
unfoldable pub weights_of_parts : List (List ℕ) → Option (List (ℕ × ℕ))
weights_of_parts [] = Some []
weights_of_parts (part ∷ parts) = with_weight (weight_in part) (weights_of_parts parts)

-- one weight or more, with single spaces between them
abbrev pub weights_in : List ℕ → Option (List (ℕ × ℕ))
weights_in text = weights_of_parts (slice_split (λ b. b == 32) text)

-- the weights that a text says; none if it has another form
abbrev pub said_weights : List ℕ → List (ℕ × ℕ)
said_weights text = unwrap_or (weights_in text) []
