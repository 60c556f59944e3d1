-- The numbers and the bytes of an Own.
use Rattle.std.specs.Prelude.{ℕ, ◌^◌, Bool, ◌&&◌, not, nat_lt, nat_eq, List, [], ◌∷◌, ◌++◌, length, take, drop, slice_index}
use Rattle.std.specs.List.{list_all}
use Rattle.std.specs.Int.{is_in_range}
use Rattle.byteorder.specs.Endian.{little_bytes, little_number}
use Rattle.pfx_kinds.specs.Scans.{are_zeros}

pub record OwnFields : Type 0 where
  -- the number of the unit that was answered last
  pub answered : ℕ
  -- the slot from which on the weights are in force that its units are counted in
  pub since : ℕ
  pub text_length : ℕ
  -- the answer, followed by zeros
  pub text : List ℕ

-- a byte of an answer is 0x21 to 0x7E, and no quote, comma or backslash
abbrev pub is_visible : ℕ → Bool
is_visible byte = is_in_range 33 126 byte && not (nat_eq byte 34) && not (nat_eq byte 44) && not (nat_eq byte 92)

-- an answer in front of its zeros
abbrev pub own_list_fits : ℕ → List ℕ → Bool
own_list_fits a text = nat_eq (length text) 106 && are_zeros (drop a text) && list_all is_visible (take a text)

abbrev pub own_numbers_fit : ℕ → ℕ → ℕ → Bool
own_numbers_fit answered since a = nat_lt answered (2 ^ 40) && nat_lt since (2 ^ 40) && nat_lt a 107

abbrev pub own_fits : ℕ → ℕ → ℕ → List ℕ → Bool
own_fits answered since a text = own_numbers_fit answered since a && own_list_fits a text

-- the 128 bytes: the kind 4, no steps left, the unit's number, the answer's length, the answer, the slot of the weights, two zeros, and the kind
-- again, since the other kinds have a 0 there: so no state of another kind becomes one of this kind by one changed byte
abbrev pub own_end : List ℕ
own_end = 0 ∷ 0 ∷ 4 ∷ []

unfoldable pub own_bytes : OwnFields → List ℕ
own_bytes f = (4 ∷ 0 ∷ 0 ∷ 0 ∷ 0 ∷ little_bytes 8 f.answered ++ f.text_length ∷ []) ++ (f.text ++ (little_bytes 5 f.since ++ own_end))

-- the numbers at their places in bytes
abbrev pub own_found : List ℕ → OwnFields
own_found bytes = record {
  answered = little_number 8 (drop 5 bytes);
  since = little_number 5 (drop 120 bytes);
  text_length = slice_index bytes 13;
  text = take 106 (drop 14 bytes);
}
