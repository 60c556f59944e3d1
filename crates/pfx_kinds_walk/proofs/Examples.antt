-- Worked rows of the definitions.
use Rattle.std.specs.Prelude.{◌≡◌, ◌-◌, ◌^◌, take, ◌∷◌, [], refl}
use Rattle.pfx_kinds_walk.specs.Walks.{drawn, moved, walk_bytes}

-- the first numbers of the published generator from 0 on
first_drawn : drawn 0 ≡ 1442695040888963407
unfolding drawn
first_drawn = refl

second_drawn : drawn 1442695040888963407 ≡ 1876011003808476466
unfolding drawn
second_drawn = refl

-- the ends of the line meet
one_down : moved 0 5 ≡ 2 ^ 64 - 1
unfolding moved
one_down = refl

one_up : moved (2 ^ 64 - 1) (2 ^ 63) ≡ 0
unfolding moved
one_up = refl

front : take 14 (walk_bytes (record { left = 3; seed = 9; place = 4 })) ≡ 200 ∷ 3 ∷ 0 ∷ 0 ∷ 0 ∷ 9 ∷ 0 ∷ 0 ∷ 0 ∷ 0 ∷ 0 ∷ 0 ∷ 0 ∷ 4 ∷ []
unfolding walk_bytes
front = refl
