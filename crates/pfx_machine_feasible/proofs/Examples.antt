-- Worked rows of the definitions of lives.
use Rattle.std.specs.Prelude.{◌≡◌, ℕ, List, [], ◌∷◌, refl}
use Rattle.std.proofs.Common.{arith}
use Rattle.pfx_weights.specs.Sets.{FilledSet}
use Rattle.pfx_machine.specs.declared.plain.Happening.{Happening}
use Rattle.pfx_machine.specs.declared.plain.Happening.TheVariants.{Given as given, Taken as taken, Ran as ran, Reweighed as reweighed}
use Rattle.pfx_machine.specs.declared.command.Command.TheVariants.{Submit, Withdraw}
use Rattle.pfx_machine.specs.Plain.{empty}
use Rattle.pfx_machine_feasible.specs.Lives.{Epoch, fresh, epochs, life, Fraction, plus, share, due, got, IsWithinOne, gone_on, rows_in}

-- three tasks of 2/3 on two workers, and then of 1/3 on one
abbrev two_thirds : FilledSet
two_thirds = record { workers = 2; real = 3; hyper = 3; weights = (2, 3) ∷ (2, 3) ∷ (2, 3) ∷ [] }

abbrev thirds : FilledSet
thirds = record { workers = 1; real = 3; hyper = 3; weights = (1, 3) ∷ (1, 3) ∷ (1, 3) ∷ [] }

-- three slots, the new weights, and two slots more
abbrev week : List (Happening ℕ)
week = given 0 9 ∷ ran 0 (0 ∷ 1 ∷ []) ∷ ran 1 (0 ∷ 2 ∷ []) ∷ ran 2 (1 ∷ 2 ∷ []) ∷ reweighed 3 thirds ∷ ran 3 (0 ∷ []) ∷ taken 0 ∷ ran 4 (1 ∷ []) ∷ []

abbrev first : Epoch
first = record { set = two_thirds; rows = (0 ∷ 1 ∷ []) ∷ (0 ∷ 2 ∷ []) ∷ (1 ∷ 2 ∷ []) ∷ [] }

abbrev second : Epoch
second = record { set = thirds; rows = (0 ∷ []) ∷ (1 ∷ []) ∷ [] }

two_epochs : epochs two_thirds week ≡ first ∷ second ∷ []
two_epochs = refl

-- without a slot there is an epoch all the same
no_slot : epochs {J = ℕ} two_thirds (given 0 9 ∷ []) ≡ fresh two_thirds ∷ []
no_slot = refl

of_the_start : life {J = ℕ} (empty two_thirds 16777216) (Submit 0 9 ∷ Withdraw 0 ∷ []) ≡ fresh two_thirds ∷ []
of_the_start = refl

none_between : epochs {J = ℕ} two_thirds (reweighed 0 thirds ∷ ran 0 (2 ∷ []) ∷ []) ≡ fresh two_thirds ∷ record { set = thirds; rows = (2 ∷ []) ∷ [] } ∷ []
none_between = refl

abbrev fraction : ℕ → ℕ → Fraction
fraction n d = record { numerator = n; denominator = d }

half_and_third : plus (fraction 1 2) (fraction 1 3) ≡ fraction 5 6
half_and_third = refl

in_four_slots : share (2, 3) 4 ≡ fraction 8 3
in_four_slots = refl

-- 2/3 of three slots and 1/3 of two are 8/3
due_in_both : due 0 (first ∷ second ∷ []) ≡ fraction 24 9
due_in_both = refl

got_in_both : got 0 week ≡ 3
got_in_both = refl

got_in_the_first : got 2 week ≡ 2
got_in_the_first = refl

-- of 8/3 a task may have got two or three slots, and no other number
two : IsWithinOne (fraction 24 9) 2
two = record { above = omega arith; below = omega arith }

three : IsWithinOne (fraction 24 9) 3
three = record { above = omega arith; below = omega arith }

not_one : IsWithinOne (fraction 24 9) 1 → ⊥
not_one h = omega (arith, h.below)

not_four : IsWithinOne (fraction 24 9) 4 → ⊥
not_four h = omega (arith, h.above)

-- of a whole number just that
not_one_less : IsWithinOne (fraction 6 3) 1 → ⊥
not_one_less h = omega (arith, h.below)

not_one_more : IsWithinOne (fraction 6 3) 3 → ⊥
not_one_more h = omega (arith, h.above)

-- one more of each that happens
job_more : gone_on {J = ℕ} (first ∷ second ∷ []) (given 1 4) ≡ first ∷ second ∷ []
job_more = refl

withdrawn : gone_on {J = ℕ} (first ∷ second ∷ []) (taken 1) ≡ first ∷ second ∷ []
withdrawn = refl

row_more : gone_on {J = ℕ} (first ∷ fresh thirds ∷ []) (ran 3 (0 ∷ [])) ≡ first ∷ record { set = thirds; rows = (0 ∷ []) ∷ [] } ∷ []
row_more = refl

set_more : gone_on {J = ℕ} (first ∷ second ∷ []) (reweighed 5 two_thirds) ≡ first ∷ second ∷ fresh two_thirds ∷ []
set_more = refl

all_five : rows_in (first ∷ second ∷ []) ≡ (0 ∷ 1 ∷ []) ∷ (0 ∷ 2 ∷ []) ∷ (1 ∷ 2 ∷ []) ∷ (0 ∷ []) ∷ (1 ∷ []) ∷ []
all_five = refl
