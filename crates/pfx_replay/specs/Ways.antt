-- A way as it was found.
use Rattle.std.specs.Prelude.{ℕ, List, Option, Some, None, Vec}
use Rattle.std.specs.declared.alloc.Global.{Global}
use Rattle.pfx_segment.specs.Reading.{views}

abbrev pub way_of : {S : Type 0} → Option (S × Vec (Vec ℕ Global) Global) → Option (S × List (List ℕ))
way_of None = None
way_of (Some w) = Some (w.0, views w.1.items)
