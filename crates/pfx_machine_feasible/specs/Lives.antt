-- What a task is due and what it gets over its whole life, over all its weights.
use Rattle.std.specs.Prelude.{ℕ, ◌+◌, ◌*◌, ◌<◌, List, [], ◌∷◌, ◌++◌, length, slice_index_or}
use Rattle.pfx_weights.specs.Rows.{Schedule}
use Rattle.pfx_weights.specs.Sets.{FilledSet}
use Rattle.pfx_choice.specs.Plans.{times_in}
use Rattle.pfx_machine.specs.Plain.{Plain}
use Rattle.pfx_machine.specs.Happenings.{rows_of, happenings}
use Rattle.pfx_machine.specs.declared.plain.Happening.{Happening}
use Rattle.pfx_machine.specs.declared.plain.Happening.TheVariants.{Given as given, Taken as taken, Ran as ran, Reweighed as reweighed}
use Rattle.pfx_machine.specs.declared.command.Command.{Command}

-- the time in which one set was in force: the set, and the rows of its slots
pub record Epoch : Type 0 where
  pub set : FilledSet
  pub rows : Schedule

-- an epoch in which no slot was run
abbrev pub fresh : FilledSet → Epoch
fresh set = record { set = set; rows = [] }

-- a row before those of the first epoch
abbrev pub with_row : List ℕ → List Epoch → List Epoch
with_row row [] = []
with_row row (now ∷ later) = record { set = now.set; rows = row ∷ now.rows } ∷ later

-- the epochs of what happened; `set` is in force before it
abbrev pub epochs : {J : Type 0} → FilledSet → List (Happening J) → List Epoch
epochs set [] = fresh set ∷ []
epochs set (given task job ∷ happened) = epochs set happened
epochs set (taken task ∷ happened) = epochs set happened
epochs set (ran slot row ∷ happened) = with_row row (epochs set happened)
epochs set (reweighed slot new ∷ happened) = fresh set ∷ epochs new happened

-- the epochs of a list of commands
abbrev pub life : {J : Type 0} → Plain J → List (Command J) → List Epoch
life B H = epochs B.ledger.set (happenings B H)

-- a fraction of slots
pub record Fraction : Type 0 where
  pub numerator : ℕ
  pub denominator : ℕ

-- the sum of two
abbrev pub plus : Fraction → Fraction → Fraction
plus a b = record { numerator = a.numerator * b.denominator + b.numerator * a.denominator; denominator = a.denominator * b.denominator }

-- what a task of weight e/p is due in so many slots: e/p of each
abbrev pub share : ℕ × ℕ → ℕ → Fraction
share w slots = record { numerator = w.0 * slots; denominator = w.1 }

-- what task x was due in all these epochs: the sum of its shares, each by its weight in that epoch
abbrev pub due : ℕ → List Epoch → Fraction
due x [] = record { numerator = 0; denominator = 1 }
due x (epoch ∷ others) = plus (share (slice_index_or epoch.set.weights x (0, 0)) (length epoch.rows)) (due x others)

-- how many slots it got: how many of all the rows that were run hold it
abbrev pub got : {J : Type 0} → ℕ → List (Happening J) → ℕ
got x happened = times_in (rows_of happened) x

-- the fraction less the number lies strictly between minus one and one
pub record IsWithinOne (f : Fraction) (n : ℕ) : Type 0 where
  pub above : n * f.denominator < f.numerator + f.denominator
  pub below : f.numerator < n * f.denominator + f.denominator

-- an epoch, and what happens behind it: a row is one more of its rows, and a new set begins the next epoch
abbrev pub followed : {J : Type 0} → Epoch → Happening J → List Epoch
followed now (given task job) = now ∷ []
followed now (taken task) = now ∷ []
followed now (ran slot row) = record { set = now.set; rows = now.rows ++ row ∷ [] } ∷ []
followed now (reweighed slot new) = now ∷ fresh new ∷ []

-- the same behind the last of epochs
abbrev pub gone_on : {J : Type 0} → List Epoch → Happening J → List Epoch
gone_on [] h = []
gone_on (now ∷ []) h = followed now h
gone_on (past ∷ next ∷ later) h = past ∷ gone_on (next ∷ later) h

-- all rows of epochs, in their order
abbrev pub rows_in : List Epoch → Schedule
rows_in [] = []
rows_in (epoch ∷ others) = epoch.rows ++ rows_in others
