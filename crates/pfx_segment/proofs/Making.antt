-- What a disk has made of its calls, if all went well and if one failed.
use Rattle.std.proofs.Common.{List, Result, Ok, Err, IsErrAnd}
use Rattle.std.proofs.lemmas.Bool.{false≢true}
use Rattle.pfx_disk.specs.CallsMade.{HasMade, HasBrokenOff, HasKeptTo}
use Rattle.pfx_disk.specs.Disk.{View, IsHonest}
use Rattle.pfx_disk.specs.Stop.{Act}
use Rattle.pfx_segment.specs.Acts.{MakesActs}

module _ {T E : Type 0} (acts : List Act) (old new : View) where
  pub all_made : (value : T) → (IsHonest old → HasMade acts old new × HasKeptTo acts old new) → MakesActs {T = T} {E = E} acts old new (Ok value)
  all_made value has = record {
    made = λ honest. (has honest).0;
    broken_off = λ honest is. absurd (false≢true is);
    between = λ honest. (has honest).1;
  }

  pub some_made : (result : Result T E) (P : E → Type 0) → IsErrAnd result P → (IsHonest old → HasBrokenOff acts old new × HasKeptTo acts old new) → MakesActs acts old new result
  some_made (Ok value) P fails has = absurd fails
  some_made (Err e) P fails has = record {
    made = λ honest. tt;
    broken_off = λ honest is. (has honest).0;
    between = λ honest. (has honest).1;
  }
