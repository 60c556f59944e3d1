-- What a user may rely on of whole walks.
use Rattle.std.specs.Prelude.{◌≡◌, ℕ, ◌≤◌}
use Rattle.pfx_jobs.specs.Steps.{times}
use Rattle.pfx_kinds_walk.specs.Walks.{drawn}
use Rattle.pfx_kinds_walk.specs.WalkKind.{walk_kind}
use Rattle.pfx_kinds_walk.specs.declared.walk.Walk.{Walk}

-- after n steps the number drawn last is the n-th of the generator
abbrev pub WalksDrawInOrder : Type 0
WalksDrawInOrder = (start : Walk) (n : ℕ) → n ≤ start.left → (times n walk_kind.stepped start).seed ≡ times n drawn start.seed
