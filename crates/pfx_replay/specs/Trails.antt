-- The records that a store's file has, and where they begin.
use Rattle.std.specs.Prelude.{◌≡◌, ℕ, ◌+◌, List, [], ◌∷◌, ◌++◌, not, Option, Some, None, Result, Ok}
use Rattle.pfx_store_format.specs.Batches.{batch_in}
use Rattle.pfx_store_format.specs.Format.{format}
use Rattle.pfx_store_format.specs.Frames.{state_after}
use Rattle.pfx_store_header.specs.Headers.{Header}
use Rattle.pfx_jobs.specs.Kind.{Kind}
use Rattle.pfx_kinds.specs.declared.units.Unit.{Unit}
use Rattle.pfx_machine.specs.Plain.{Plain}
use Rattle.pfx_record.specs.Batches.{PlainBatch}
use Rattle.pfx_record.specs.Records.{Recorded}
use Rattle.pfx_store_image.specs.Codec.{Codec}
use Rattle.pfx_store_image.specs.Layout.{area_at, segment_at}
use Rattle.pfx_store_image.specs.Recovery.{Found}
use Rattle.pfx_store_image.specs.Refusals.{Refusal}
use Rattle.pfx_store_image.specs.Store.{Parts, InArea, InSegment, Replays}
use Rattle.pfx_replay.specs.Verdicts.{History, IsVerdict}
use Rattle.pfx_replay.specs.declared.verdict.Verdict.{Verdict}

module _ {H S : Type 0} (K : Codec H S) (h : H) (p : Parts S) (image : List ℕ) where
  -- The other checkpoint holds this state, and these frames, which stand in the other segment, lead from it to the number of
  -- the checkpoint in use.
  pub record IsWay (s : S) (frames : List (List ℕ)) : Type 0 where
    pub area : InArea K h s (area_at (K.layout h) (not p.area)) image
    pub segment : InSegment K h (K.number s + 1) frames (segment_at (K.layout h) (not p.segment)) image
    pub reached : S
    pub leads : Replays K s frames reached
    pub number : K.number reached ≡ K.number p.base

  -- that is the way to the checkpoint in use, or there is none
  abbrev pub IsWayIf : Option (S × List (List ℕ)) → Type 0
  IsWayIf (Some w) = IsWay w.0 w.1
  IsWayIf None = (s : S) (frames : List (List ℕ)) → IsWay s frames → ⊥

module _ {J : Type 0} (K : Kind J) where
  -- the records of a batch, if there is one
  abbrev pub records_if : Option (PlainBatch J) → List (Recorded J)
  records_if None = []
  records_if (Some batch) = batch.records

  -- the records of a frame behind a state, read by the set that is in force there
  abbrev pub records_at : Plain J → List ℕ → List (Recorded J)
  records_at s frame = records_if (batch_in K s.ledger.set.workers s.ledger.set.real frame)

  -- what is behind a state, if there is one
  abbrev pub onward : Option (Plain J) → (Plain J → List (Recorded J)) → List (Recorded J)
  onward None behind = []
  onward (Some t) behind = behind t

  -- the records of frames behind a state, in their order, each frame read by the set that is in force where it comes, up to one that isn't right there
  abbrev pub records_behind : Plain J → List (List ℕ) → List (Recorded J)
  records_behind s [] = []
  records_behind s (frame ∷ frames) = records_at s frame ++ onward (state_after K s frame) (λ t. records_behind t frames)

  -- what the file records from the lesser checkpoint on, where a way leads from there; else from the checkpoint in use on
  abbrev pub history : Parts (Plain J) → Option (Plain J × List (List ℕ)) → History J
  history p None = record { start = p.base; before = []; checkpoint = p.base; behind = records_behind p.base (p.before ++ p.frames) }
  history p (Some w) = record { start = w.0; before = records_behind w.0 w.1; checkpoint = p.base; behind = records_behind p.base (p.before ++ p.frames) }

module _ {J : Type 0} (K : Kind J) (unit : J → Option Unit) where
  -- a state is recovered from the image, and this is the verdict on what the file records
  pub record IsReplayed (image : List ℕ) (read : Result (Found Header (Plain J)) Refusal) (verdict : Verdict) : Type 0 where
    pub found : Found Header (Plain J)
    pub read_is : read ≡ Ok found
    pub way : Option (Plain J × List (List ℕ))
    pub way_is : IsWayIf (format K) found.head found.parts image way
    pub is : IsVerdict K unit (history K found.parts way) verdict
