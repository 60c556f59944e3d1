-- Tasks by what their strings are to that of one task.
use Rattle.std.specs.Prelude.{◌≡◌, ℕ, ◌<◌, List, length, slice_index_or}
use Rattle.std.specs.declared.cmp.Ordering.{Ordering}
use Rattle.std.specs.declared.cmp.Ordering.TheVariants.{Less, Equal, Greater}
use Rattle.std.specs.Cmp.Lexicographic.{slice_cmp}
use Rattle.pfx_symbols.specs.declared.kinds.Class.{Class}
use Rattle.pfx_symbols.specs.declared.kinds.Class.TheVariants.{Contending, Urgent, Tnegru}
use Rattle.pfx_symbols.specs.Symbols.{symbol_cmp}
use Rattle.pfx_symbols.specs.Ranks.{substring}
use Rattle.pfx_columns.specs.Ledgers.{Ledger, total, class, rank}

-- 1 for the greater string, 0 for the same and 2 for the smaller one
abbrev pub level_number : Ordering → ℕ
level_number Greater = 1
level_number Equal = 0
level_number Less = 2

-- task x's string to that of task q
abbrev pub string_level : Ledger → ℕ → ℕ → ℕ
string_level g q x = level_number (slice_cmp symbol_cmp (substring (rank g x)) (substring (rank g q)))

-- an urgent task runs before all, and a tnegru one rests
abbrev pub class_level : Class → ℕ → ℕ
class_level Urgent n = 1
class_level Contending n = n
class_level Tnegru n = 2

abbrev pub task_level : Ledger → ℕ → ℕ → ℕ
task_level g q x = class_level (class g x) (string_level g q x)

-- each task's level by task q
pub record AreLevels (g : Ledger) (q : ℕ) (levels : List ℕ) : Type 0 where
  pub long : length levels ≡ total g
  pub at : (x : ℕ) → x < total g → slice_index_or levels x 0 ≡ task_level g q x

-- the level of each kind's first task by task q
pub record AreTold (g : Ledger) (q : ℕ) (firsts levels : List ℕ) : Type 0 where
  pub long : length levels ≡ length firsts
  pub at : (k : ℕ) → k < length firsts → slice_index_or levels k 0 ≡ string_level g q (slice_index_or firsts k 0)

-- each task's string has the level of its kind
pub record AreShared (g : Ledger) (q : ℕ) (kinds levels : List ℕ) : Type 0 where
  pub long : length kinds ≡ total g
  pub within : (x : ℕ) → x < total g → slice_index_or kinds x 0 < length levels
  pub at : (x : ℕ) → x < total g → slice_index_or levels (slice_index_or kinds x 0) 0 ≡ string_level g q x
