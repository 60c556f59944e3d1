-- The calls of acts on gates.
use Rattle.std.specs.Prelude.{ℕ, ◌+◌, List, [], ◌∷◌, Bool, true, false, Result, OnOk, IsErr}
use Rattle.pfx_disk.specs.CallsMade.{HasMade, HasBrokenOff, HasKeptTo}
use Rattle.pfx_disk.specs.Disk.{View, IsHonest, Only}
use Rattle.pfx_disk.specs.Stop.{Act, Sync, Write, Look}
use Rattle.pfx_disk.specs.declared.gates.TheConstants.{GATE_OPEN}
use Rattle.pfx_segment.specs.Segment.{IsRun}

-- bytes put behind a closed gate, and the gate opened
abbrev pub put_acts : ℕ → List ℕ → List Act
put_acts gate bytes = Write (gate + 1) bytes ∷ Sync ∷ Write gate (GATE_OPEN ∷ []) ∷ Sync ∷ []

-- a gate that stands open is closed, one that stands closed is looked at
abbrev pub closing_act : ℕ → Bool → Act
closing_act gate true = Write gate (0 ∷ [])
closing_act gate false = Look

-- a gate closed where it stands open, and synced
abbrev pub close_acts : ℕ → Bool → List Act
close_acts gate is_open = closing_act gate is_open ∷ Sync ∷ []

-- a gate opened before bytes that were written behind it
abbrev pub open_acts : ℕ → List Act
open_acts gate = Sync ∷ Write gate (GATE_OPEN ∷ []) ∷ Sync ∷ []

-- An honest disk made these calls, one after the other: all of them, or some of them up to one that failed; and no stop in between left
-- anything else.
pub record MakesActs {T E : Type 0} (acts : List Act) (old new : View) (result : Result T E) : Type 0 where
  pub made : IsHonest old → OnOk result (HasMade acts old new)
  pub broken_off : IsHonest old → IsErr result → HasBrokenOff acts old new
  pub between : IsHonest old → HasKeptTo acts old new

-- A run of so many calls of a disk, and these calls; after success a stop leaves what a read gives.
pub record IsRunOf {T E : Type 0} (calls : ℕ) (acts : List Act) (old new : View) (result : Result T E) : Type 0 where
  pub call : IsRun calls old new result
  pub makes : MakesActs acts old new result
  pub durable : IsHonest old → OnOk result (Only new.contents new)
