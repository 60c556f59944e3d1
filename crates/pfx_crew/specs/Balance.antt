-- The rule of a lane.
use Rattle.std.specs.Prelude.{◌≡◌, ℕ, ◌+◌, List, [], ◌∷◌}
use Rattle.pfx_crew.specs.declared.balance.Hand.{Hand}

-- the weights of the things, added up
abbrev pub weigh : {T : Type 0} → (T → ℕ) → List T → ℕ
weigh h [] = 0
weigh h (x ∷ xs) = h x + weigh h xs

module _ {T : Type 0} where
  abbrev pub hand : List T → List T → Hand T
  hand put taken = record { put = put; taken = taken }

  -- however things are weighed, what all hands put in weighs what they took out and what is inside
  pub record Balanced (inside : List T) (hands : List (Hand T)) : Type 0 where
    pub balance : (h : T → ℕ) → weigh (λ v. weigh h v.put) hands ≡ weigh (λ v. weigh h v.taken) hands + weigh h inside
