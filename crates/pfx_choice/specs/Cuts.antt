-- Where the workers run out, by the places of the tasks.
use Rattle.std.specs.Prelude.{◌≡◌, ℕ, ◌+◌, ◌<◌, ◌≤◌, nat_lt, List, length, slice_index_or}
use Rattle.pfx_weights.specs.Rows.{count}
use Rattle.pfx_choice.specs.declared.cuts.Cut.{Cut}

-- how many of the places are below d
abbrev pub below : List ℕ → ℕ → ℕ
below places d = count (length places) (λ x. nat_lt (slice_index_or places x 0) d)

-- at the cut's place m workers run out: there is one for each task below it, and none is left over for those beyond it
pub record IsCut (places : List ℕ) (m : ℕ) (cut : Cut) : Type 0 where
  pub some : 0 < cut.place
  pub few : cut.place < 255
  pub all : below places cut.place + cut.left ≡ m
  pub enough : m ≤ below places (cut.place + 1)
