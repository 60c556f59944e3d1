-- The definitions at work, with numbers as jobs.
use Rattle.std.proofs.Common.{◌≡◌, ℕ, [], ◌∷◌, Option, Some, None, true, false, refl}
use Rattle.pfx_record.specs.Records.{form_of, submitted, ran, withdrawn, reweighed, record_fits}
use Rattle.pfx_record.specs.Effect.{Standing, recorded}
use Rattle.pfx_record.specs.declared.record.Place.{Place}

abbrev place : ℕ → Option ℕ → Place ℕ
place task state = record { task = task; state = state }

abbrev bare : ℕ → Place ℕ
bare task = place task None

abbrev start : Standing ℕ
start = record { number = 4; slot = 3; allocations = 2 ∷ 2 ∷ 2 ∷ []; jobs = Some 70 ∷ None ∷ Some 90 ∷ [] }

-- a slot gives its tasks an allocation each, and one of them the state of its job after a step
one_slot : recorded start (ran (place 0 (Some 71) ∷ place 2 None ∷ []) ∷ []) ≡ record { number = 5; slot = 4; allocations = 3 ∷ 2 ∷ 3 ∷ []; jobs = Some 71 ∷ None ∷ Some 90 ∷ [] }
one_slot = refl

-- a job given and one taken away
jobs_alone : recorded start (submitted 1 80 ∷ withdrawn 2 ∷ []) ≡ record { number = 6; slot = 3; allocations = 2 ∷ 2 ∷ 2 ∷ []; jobs = Some 70 ∷ Some 80 ∷ None ∷ [] }
jobs_alone = refl

-- rows rise strictly, and are as long as there are workers
rising : record_fits (form_of 2 0 1) (ran (bare 0 ∷ bare 1 ∷ [])) ≡ true
rising = refl

twice : record_fits (form_of 2 0 1) (ran (bare 1 ∷ bare 1 ∷ [])) ≡ false
twice = refl

falling : record_fits (form_of 2 0 1) (ran (bare 1 ∷ bare 0 ∷ [])) ≡ false
falling = refl

too_short : record_fits (form_of 3 0 1) (ran (bare 0 ∷ bare 1 ∷ [])) ≡ false
too_short = refl

-- new weights are one for each real task, and alone
renewed : record_fits {J = ℕ} (form_of 2 3 1) (reweighed 1 ((1, 2) ∷ (1, 3) ∷ (1, 6) ∷ [])) ≡ true
renewed = refl

renewed_among_others : record_fits {J = ℕ} (form_of 2 3 2) (reweighed 1 ((1, 2) ∷ (1, 3) ∷ (1, 6) ∷ [])) ≡ false
renewed_among_others = refl

renewed_too_few : record_fits {J = ℕ} (form_of 2 3 1) (reweighed 1 ((1, 2) ∷ (1, 3) ∷ [])) ≡ false
renewed_too_few = refl

renewed_before_tasks_are_real : record_fits {J = ℕ} (form_of 2 0 1) (reweighed 1 []) ≡ false
renewed_before_tasks_are_real = refl
