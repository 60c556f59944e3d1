-- The frames that a file has behind the last number of a log.
use Rattle.std.specs.Prelude.{◌≡◌, ℕ, List, [], ◌∷◌, ◌++◌, nat_lt, if◌then◌else◌, Some, ⊤}
use Rattle.pfx_store_recover.specs.Answers.{IsRefusal}
use Rattle.pfx_store_image.specs.Codec.{Codec}
use Rattle.pfx_log_store.specs.Behind.{GoOnBehind, IsGap, StandBehind}
use Rattle.pfx_log_store.specs.Covering.{in_a_row}
use Rattle.pfx_log_store.specs.declared.joining.Gathered.{Gathered}
use Rattle.pfx_log_store.specs.declared.joining.JoinFault.{JoinFault}
use Rattle.pfx_log_store.specs.declared.joining.JoinFault.TheVariants.{File, Log, LogGap}

-- What is gathered on the way over frames: bytes, the number behind which they begin, and that of the last frame.
pub record Gathering : Type 0 where
  pub bytes : List ℕ
  pub begin : ℕ
  pub number : ℕ

-- what is gathered, as contracts see it
abbrev pub gathering : Gathered → Gathering
gathering g = record { bytes = g.frames.items; begin = g.begin; number = g.number }

-- nothing yet, behind this number
abbrev pub none_behind : ℕ → Gathering
none_behind n = record { bytes = []; begin = n; number = n }

-- with a frame more, whose last number is next; it is passed over where the number that is sought isn't reached before it
abbrev pub gathered_more : ℕ → ℕ → List ℕ → Gathering → Gathering
gathered_more last next frame g = if nat_lt g.begin last then record { bytes = g.bytes; begin = next; number = next }
    else record { bytes = g.bytes ++ frame; begin = g.begin; number = next }

-- a fault of the file, and not of the log
abbrev pub IsOfFile : JoinFault → Type 0
IsOfFile (File e) = ⊤
IsOfFile (LogGap log file) = ⊤
IsOfFile (Log e) = ⊥

module _ {H S : Type 0} (K : Codec H S) where
  -- the frames lead from one gathering to the other
  abbrev pub Gathers : ℕ → Gathering → List (List ℕ) → Gathering → Type 0
  Gathers last g [] next = g ≡ next
  Gathers last g (frame ∷ frames) next = (k : ℕ) × (K.after g.number frame ≡ Some k)
      × Gathers last (gathered_more last k frame g) frames next

  -- these bytes are the frames behind the number
  abbrev pub AreBehind : ℕ → List (List ℕ) → ℕ → List ℕ → Type 0
  AreBehind n frames last bytes = (rest : List (List ℕ)) × StandBehind K n frames last rest × (bytes ≡ in_a_row rest)

  -- why they aren't given: there are none such, and the frames go on behind the number that is told; or no memory, or the disk failed
  abbrev pub IsJoinFault : ℕ → List (List ℕ) → ℕ → JoinFault → Type 0
  IsJoinFault n frames last (LogGap log file) = (log ≡ last) × IsGap K n frames last × GoOnBehind K n frames last file
  IsJoinFault n frames last (File e) = IsRefusal e (λ refusal. ⊥)
  IsJoinFault n frames last (Log e) = ⊥
