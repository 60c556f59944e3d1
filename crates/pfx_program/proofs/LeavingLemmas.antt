-- The text of a ledger, written number by number.
use Rattle.std.proofs.Common.{◌≡◌, ◌<◌, ◌≤◌, ℕ, ◌+◌, List, [], ◌∷◌, ◌++◌, length, get_or, drop, refl, sym, ap, ◌∙◌, append_assoc, append-nil, codes}
use Rattle.std.specs.Fmt.{decimal}
use Rattle.std.proofs.lemmas.List.{at_drop_more, at_drop_all}
use Rattle.pfx_program.specs.Leaving.{numbers_after}

pub numbers-cons : (sign : List ℕ) (n : ℕ) (ns : List ℕ) → numbers_after sign (n ∷ ns) ≡ sign ++ (decimal n ++ numbers_after (codes ",") ns)
unfolding numbers_after
numbers-cons sign n ns = refl

pub numbers-nil : (sign : List ℕ) → numbers_after sign [] ≡ []
unfolding numbers_after
numbers-nil sign = refl

pub numbers_more : (allocs : List ℕ) (x : ℕ) (sign so_far now whole : List ℕ) → x < length allocs → so_far ++ numbers_after sign (drop x allocs) ≡ whole → now ≡ (so_far ++ sign) ++ decimal (get_or allocs x 0)
    → now ++ numbers_after (codes ",") (drop (x + 1) allocs) ≡ whole
numbers_more allocs x sign so_far now whole below h is =
    let number = decimal (get_or allocs x 0) in
    let rest = numbers_after (codes ",") (drop (x + 1) allocs) in
    let step = at_drop_more (numbers_after sign) allocs x 0 below ∙ numbers-cons sign (get_or allocs x 0) (drop (x + 1) allocs) in
    rw is (append_assoc (so_far ++ sign) number rest ∙ append_assoc so_far sign (number ++ rest) ∙ (ap (λ (t : List ℕ). so_far ++ t) (sym step) ∙ h))

pub numbers_over : (allocs : List ℕ) (x : ℕ) (sign so_far whole : List ℕ) → length allocs ≤ x → so_far ++ numbers_after sign (drop x allocs) ≡ whole → so_far ≡ whole
numbers_over allocs x sign so_far whole past h =
    sym (append-nil so_far) ∙ (ap (λ (t : List ℕ). so_far ++ t) (sym (at_drop_all (numbers_after sign) allocs x past ∙ numbers-nil sign)) ∙ h)
