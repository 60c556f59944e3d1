-- Rows that show which texts are numerals.
use Rattle.std.proofs.Common.{◌≡◌, codes, refl, Some, None}
use Rattle.pfx_kinds_decimal.specs.Numerals.{number_in}

pub a_number : number_in 3 (codes "405") ≡ Some 405
unfolding number_in
a_number = refl

pub leading_zeros : number_in 4 (codes "0070") ≡ Some 70
unfolding number_in
leading_zeros = refl

pub a_digit_too_many : number_in 3 (codes "0405") ≡ None
unfolding number_in
a_digit_too_many = refl

pub no_digit : number_in 3 (codes "") ≡ None
unfolding number_in
no_digit = refl

pub a_sign : number_in 3 (codes "+4") ≡ None
unfolding number_in
a_sign = refl
