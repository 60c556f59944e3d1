-- What a stop may leave of a store's log and of its file.
use Rattle.std.specs.Prelude.{◌≡◌, ◌≤◌, ℕ, List, [], ◌∷◌, ◌++◌, length, take, drop, Ok}
use Rattle.pfx_store_format.specs.Format.{format}
use Rattle.pfx_store_header.specs.Headers.{Header}
use Rattle.pfx_jobs.specs.Kind.{Kind}
use Rattle.pfx_log.specs.Holding.{Holds}
use Rattle.pfx_log.specs.Logs.{Block, Log, last_number}
use Rattle.pfx_machine.specs.Plain.{Plain}
use Rattle.pfx_store_image.specs.Recovery.{Found, found}
use Rattle.pfx_store_image.specs.Store.{Replays}
use Rattle.pfx_store_file.specs.Holding.{Survives}
use Rattle.pfx_log_store.specs.Behind.{StandBehind, all_frames}

-- frames, one behind the other
abbrev pub in_a_row : List (List ℕ) → List ℕ
in_a_row [] = []
in_a_row (frame ∷ frames) = frame ++ in_a_row frames

-- the frames of blocks, one behind the other
abbrev pub frames_in : List Block → List ℕ
frames_in [] = []
frames_in (block ∷ blocks) = block.frames ++ frames_in blocks

-- a file is found in the image, and of its frames these come behind the number
pub record HasBehind {J : Type 0} (K : Kind J) (last : ℕ) (frames : List (List ℕ)) (image : List ℕ) : Type 0 where
  pub file : Found Header (Plain J)
  pub found : found (format K) image ≡ Ok file
  pub stand : StandBehind (format K) file.parts.base.number (all_frames file.parts) last frames

module _ {J : Type 0} (K : Kind J) (start : Plain J) (all : List (List ℕ)) where
  -- The log's blocks have the first so many of these frames, as they are and without a gap; they lead from the start to this state, whose
  -- number is the log's last.
  pub record HasKept (kept : ℕ) (behind : Plain J) (log : Log) : Type 0 where
    pub few : kept ≤ length all
    pub frames : frames_in log.blocks ≡ in_a_row (take kept all)
    pub leads : Replays (format K) start (take kept all) behind
    pub number : behind.number ≡ last_number log

  -- The one image holds a log that has kept the first of these frames. The other one is recovered to the state behind so many of them, at
  -- least, with those of the log among them; and it has the others, as they are: they are what is read there behind the log's last
  -- number.
  pub record AreCovered (n : ℕ) (logged filed : List ℕ) : Type 0 where
    pub log : Log
    pub holds : Holds logged log
    pub kept : ℕ
    pub behind : Plain J
    pub keeps : HasKept kept behind log
    pub no_later : kept ≤ n
    pub survives : Survives (format K) start all n filed
    pub reads : HasBehind K (last_number log) (drop kept (take survives.count all)) filed
