-- What the blocks of a log say of a state.
use Rattle.std.specs.Prelude.{◌≡◌, ℕ, List, [], ◌∷◌, ◌++◌, All}
use Rattle.std.specs.List.{concat}
use Rattle.pfx_store_format.specs.Format.{format}
use Rattle.pfx_jobs.specs.Kind.{Kind}
use Rattle.pfx_log.specs.Logs.{Block}
use Rattle.pfx_machine.specs.Plain.{Plain}
use Rattle.pfx_record.specs.Records.{Recorded}
use Rattle.pfx_store_image.specs.Store.{Replays}
use Rattle.pfx_replay.specs.Trails.{records_behind}
use Rattle.pfx_segment.specs.Frames.{IsFrame}

-- the bytes are these frames, one behind the other
pub record IsSplit (bytes : List ℕ) (frames : List (List ℕ)) : Type 0 where
  pub whole : bytes ≡ concat frames
  pub each : All IsFrame frames

module _ {J : Type 0} (K : Kind J) where
  -- the block's frames lead from one state to the other, whose number is the block's last, and have these records
  pub record IsRead (s : Plain J) (block : Block) (read : List (Recorded J)) (t : Plain J) : Type 0 where
    pub frames : List (List ℕ)
    pub are : IsSplit block.frames frames
    pub leads : Replays (format K) s frames t
    pub last : t.number ≡ block.last
    pub records : read ≡ records_behind K s frames

  -- the same of blocks, one behind the other
  abbrev pub AreRead : Plain J → List Block → List (Recorded J) → Plain J → Type 0
  AreRead s [] records t = (records ≡ []) × (s ≡ t)
  AreRead s (block ∷ blocks) records t =
      (xs ys : List (Recorded J)) × (r : Plain J) × IsRead s block xs r × AreRead r blocks ys t × (records ≡ xs ++ ys)
