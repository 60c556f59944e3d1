-- Worked rows of the definitions.
use Rattle.std.specs.Prelude.{◌≡◌, ℕ, ◌-◌, nat_lt, [], ◌∷◌, slice_index, Some, None, refl}
use Rattle.pfx_jobs.specs.Coding.{Coding, decoded_by}
use Rattle.pfx_jobs.specs.Steps.{times}

three_times : times 3 (λ n. n - 2) 10 ≡ 4
three_times = refl

-- a state that is a number below 10, written as a byte behind a 7: it is read back from these two bytes, and neither
-- from another number, nor from bytes with something added
abbrev small : Coding ℕ ℕ
small = record { fits = λ n. nat_lt n 10; fields = λ n. n; made = λ n fits. n; spelled = λ n. 7 ∷ n ∷ []; found = λ bytes. slice_index bytes 1 }

read_back : decoded_by small (7 ∷ 3 ∷ []) ≡ Some 3
read_back = refl

out_of_range : decoded_by small (7 ∷ 10 ∷ []) ≡ None
out_of_range = refl

another_tag : decoded_by small (8 ∷ 3 ∷ []) ≡ None
another_tag = refl

something_added : decoded_by small (7 ∷ 3 ∷ 0 ∷ []) ≡ None
something_added = refl
