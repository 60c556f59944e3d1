-- Ranges of keys within the range of all keys, and the weights whose strings they are of.
use Rattle.std.specs.Prelude.{◌≡◌, ℕ, suc, ◌+◌, ◌<◌, ◌≤◌, ◌^◌, Bool, true, false, if◌then◌else◌, List}
use Rattle.pfx_symbols.specs.declared.keys.Key.{Key}
use Rattle.pfx_symbols.specs.declared.range.Range.{Range}
use Rattle.pfx_symbols.specs.declared.keys.First.{First}
use Rattle.pfx_symbols.specs.declared.keys.First.TheVariants.{Ends, GoesOn}
use Rattle.pfx_symbols.specs.declared.kinds.Symbol.{Symbol}
use Rattle.pfx_symbols.specs.Keys.{above, back_from, first_key, gaps_key}
use Rattle.pfx_symbols.specs.Strings.{Spells}

-- the key of all keys that is this one of a range
abbrev pub placed_at : Bool → ℕ → Key → Key
placed_at turned low key = if turned then back_from low key else above low key

abbrev pub placed : Range → Key → Key
placed range key = placed_at range.turned range.low key

-- the parts of a range of keys
pub record IsRange (low size : ℕ) (turned : Bool) : Type 0 where
  pub up : turned ≡ false → low + size ≤ 2 ^ 62
  pub down : turned ≡ true → size ≤ low
  pub top : low ≤ 2 ^ 62

-- a weight and a phase, and a string that they spell
pub record HasString (e p r : ℕ) : Type 0 where
  pub some : 1 ≤ e
  pub less : e < p
  pub limit : p ≤ 2 ^ 20
  pub phase : r < p
  pub string : List Symbol
  pub spelled : Spells e p r string

-- the same behind a gap
pub record HasGaps (e p v : ℕ) : Type 0 where
  pub string : HasString e p v
  pub low : 0 < v
  pub high : v < e

-- the key of a string behind a gap is that of another one, in a part of the range
pub record IsByGaps (range : Range) (e p v : ℕ) (part : Range) (d q r : ℕ) : Type 0 where
  pub string : HasString d q r
  pub same : (k : ℕ) → placed range (gaps_key (suc k) range.size e p v) ≡ placed part (first_key (gaps_key k) part.size d q r)

-- the key of a string is known, or that of what is behind its first gap, in a part of the range
abbrev pub IsByFirst : Range → ℕ → ℕ → ℕ → First → Type 0
IsByFirst range e p r (Ends key) = (k : ℕ) → placed range (first_key (gaps_key k) range.size e p r) ≡ key
IsByFirst range e p r (GoesOn part v) =
    HasGaps e p v × ((k : ℕ) → placed range (first_key (gaps_key k) range.size e p r) ≡ placed part (gaps_key k part.size e p v))
