-- Weights as bytes, eight for each.
use Rattle.std.specs.Prelude.{ℕ, zero, suc, List, [], ◌∷◌, ◌++◌, drop}
use Rattle.byteorder.specs.Endian.{little_bytes, little_number}

-- a weight e/p is e and then p, in four bytes each
abbrev pub weight_bytes : ℕ × ℕ → List ℕ
weight_bytes w = little_bytes 4 w.0 ++ little_bytes 4 w.1

-- the bytes of weights, one after the other
abbrev pub weights_bytes : List (ℕ × ℕ) → List ℕ
weights_bytes [] = []
weights_bytes (w ∷ weights) = weight_bytes w ++ weights_bytes weights

-- the weight in the first eight bytes
abbrev pub weight_of : List ℕ → ℕ × ℕ
weight_of bytes = (little_number 4 bytes, little_number 4 (drop 4 bytes))

-- the weights in the first n times eight bytes
abbrev pub weights_of : ℕ → List ℕ → List (ℕ × ℕ)
weights_of zero bytes = []
weights_of (suc n) bytes = weight_of bytes ∷ weights_of n (drop 8 bytes)
