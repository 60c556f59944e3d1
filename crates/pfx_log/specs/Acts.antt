-- What the calls that write a log do.
use Rattle.std.specs.Prelude.{◌≡◌, ◌⊎◌, ◌↔◌, ◌<◌, ℕ, ◌+◌, List, [], ◌∷◌, ◌++◌, length, Result, OnOk}
use Rattle.pfx_disk.specs.Disk.{View, IsHonest, Leaves, Only, Same}
use Rattle.pfx_disk.specs.declared.gates.TheConstants.{GATE_OPEN}
use Rattle.pfx_segment.specs.Segment.{Takes}
use Rattle.pfx_log.specs.Holding.{Holds, IsEnd, IsShutBehind, IsUnmade}
use Rattle.pfx_log.specs.Logs.{Block, Log, with_block}
use Rattle.pfx_log.specs.declared.place.LogPlace.{LogPlace}

-- If a closed gate stood behind the front, it does, or it is open, and these bytes stand behind it with a closed gate behind them.
abbrev pub Opens : List ℕ → List ℕ → List ℕ → List ℕ → Type 0
Opens front body old new = IsShutBehind front old → IsShutBehind front new ⊎ IsShutBehind (front ++ (GATE_OPEN ∷ body)) new

-- Calls that put bytes behind a closed gate, with the next closed gate as the last of them, and open it: at every moment it is closed, or
-- they stand behind it; after success they do, and a stop leaves what a read gives.
pub record Puts {T E : Type 0} (gate : ℕ) (bytes : List ℕ) (old new : View) (result : Result T E) : Type 0 where
  pub leaves : IsHonest old → (front body : List ℕ) → length front ≡ gate → bytes ≡ body ++ 0 ∷ [] → Leaves (Opens front body) old new
  pub stands : IsHonest old → (front body : List ℕ) → length front ≡ gate → bytes ≡ body ++ 0 ∷ [] → IsShutBehind front old.contents
      → OnOk result (IsShutBehind (front ++ (GATE_OPEN ∷ body)) new.contents)
  pub durable : IsHonest old → OnOk result (Only new.contents new)
  pub long : IsHonest old → OnOk result (gate + length bytes < length new.contents)

-- an image that held the log holds it, or the log with the block
abbrev pub Grows : Log → Block → List ℕ → List ℕ → Type 0
Grows log block old new = Holds old log → Holds new log ⊎ Holds new (with_block log block)

-- what was empty is no log yet, or this one
abbrev pub Creates : Log → List ℕ → List ℕ → Type 0
Creates log old new = old ≡ [] → IsUnmade new ⊎ Holds new log

-- what was empty is no log yet
abbrev pub Begins : List ℕ → List ℕ → Type 0
Begins old new = old ≡ [] → IsUnmade new

-- Calls that write a closed gate onto an empty disk, three where all succeed: at every moment it is no log yet. What wasn't empty is left as
-- it was. After success it is a closed gate alone, and a stop leaves just that.
pub record Begun {T E : Type 0} (old new : View) (result : Result T E) : Type 0 where
  pub takes : Takes 3 old new result
  pub honest : IsHonest old ↔ IsHonest new
  pub leaves : IsHonest old → Leaves Begins old new
  pub untouched : IsHonest old → 0 < length old.contents → Leaves Same old new
  pub begun : IsHonest old → OnOk result ((old.contents ≡ []) × (new.contents ≡ 0 ∷ []) × Only new.contents new)

-- a new log is on the disk, which was empty, whole and durable, and ends at this place
pub record MakesPlace (log : Log) (old new : View) (place : LogPlace) : Type 0 where
  pub end : IsEnd log place
  pub empty : IsHonest old → old.contents ≡ []
  pub held : IsHonest old → Holds new.contents log
  pub durable : IsHonest old → Only new.contents new
