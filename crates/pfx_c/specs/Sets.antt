-- What a caller is told of a set.
use Rattle.std.specs.Prelude.{◌≡◌, ℕ, ◌+◌, List, length}
use Rattle.pfx_weights.specs.Sets.{FilledSet, Accepts, demand}
use Rattle.pfx_c.specs.declared.weights.PfxWeight.{PfxWeight}
use Rattle.pfx_c.specs.declared.sets.PfxSet.{PfxSet}
use Rattle.pfx_c.specs.Weights.{pairs_of}

-- m workers and these weights are a set of so many tasks, idle ones too
pub record HasTotal (m : ℕ) (weights : List PfxWeight) (total : ℕ) : Type 0 where
  pub set : FilledSet
  pub accepted : Accepts m (pairs_of weights) set
  pub number : total ≡ length set.weights

-- m workers and these weights are a set of this hyperperiod, this load and so many idle tasks
pub record IsShown (m : ℕ) (weights : List PfxWeight) (shown : PfxSet) : Type 0 where
  pub set : FilledSet
  pub accepted : Accepts m (pairs_of weights) set
  pub hyper : shown.hyper ≡ set.hyper
  pub idle : length set.weights ≡ length weights + shown.idle
  pub load : shown.load ≡ demand set.hyper (pairs_of weights)
