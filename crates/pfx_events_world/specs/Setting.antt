-- What the world is given: the kind of the jobs, what a store's files stand for, and the calls of the store's acts.
use Rattle.std.specs.Prelude.{◌≡◌, ◌⊎◌, ℕ, ◌<◌, ◌≤◌, List, ◌++◌, length, Option, Some}
use Rattle.pfx_disk.specs.Stop.{Act, contents_after, Left}
use Rattle.pfx_jobs.specs.Kind.{Kind, Laws}
use Rattle.pfx_machine.specs.Plain.{Plain, IsState}
use Rattle.pfx_machine.specs.Outcome.{outcome}
use Rattle.pfx_machine.specs.Sessions.{IsAcceptable}
use Rattle.pfx_machine.specs.declared.command.Command.{Command}
use Rattle.pfx_machine.specs.Batches.{IsBatchable}

-- a kind of job, and a store of it as the world sees one
pub record Setting (J : Type 0) : Type 1 where
  pub kind : Kind J
  -- where the file's parts are: the next frame's place, the segments, the checkpoint in progress
  pub Parts : Type 0
  -- what each image that a stop may leave is, and what a read gives, which may have more: the pieces of a checkpoint
  pub stands : List ℕ → Plain J → Parts → Type 0
  pub whole : List ℕ → Plain J → Parts → Type 0
  -- recovery
  pub recovered : List ℕ → Option (Plain J × Parts)
  -- the calls that append a batch, and where the parts are then
  pub calls : Parts → Plain J → List (Command J) → List Act
  pub moved : Parts → Plain J → List (Command J) → Parts
  -- the next step of the checkpoint in progress, and where the parts are then; no calls if there is none
  pub tends : Parts → List Act
  pub tended : Parts → Parts

module _ {J : Type 0} where
  -- what a read gives, and each image that a stop now may leave, stands for this state
  pub record Settled (S : Setting J) (start : List ℕ) (done : List Act) (s : Plain J) (p : S.Parts) : Type 0 where
    pub whole : S.whole (contents_after start done) s p
    pub each : (image : List ℕ) → Left start done image → S.stands image s p

  -- the image stands for this state, whatever its parts
  abbrev pub StandsFor : (S : Setting J) → List ℕ → Plain J → Type 0
  StandsFor S image s = (p : S.Parts) × S.stands image s p

  -- calls that lead from a state to another: at each moment an image stands for one of the two, in the end for the latter
  pub record Leads (S : Setting J) (before : Plain J) (from : S.Parts) (calls : List Act) (after : Plain J) (to : S.Parts) : Type 0 where
    pub during : (start : List ℕ) (done gone coming : List Act) → Settled S start done before from → gone ++ coming ≡ calls →
        (image : List ℕ) → Left start (done ++ gone) image → StandsFor S image before ⊎ StandsFor S image after
    pub ends : (start : List ℕ) (done : List Act) → Settled S start done before from → Settled S start (done ++ calls) after to

  -- what the store has to provide
  pub record IsSound (S : Setting J) : Type 0 where
    pub jobs : Laws S.kind
    pub states : (image : List ℕ) (s : Plain J) (p : S.Parts) → S.stands image s p → IsState s
    pub whole_stands : (image : List ℕ) (s : Plain J) (p : S.Parts) → S.whole image s p → S.stands image s p
    pub reads : (image : List ℕ) (s : Plain J) (p : S.Parts) → S.stands image s p → (q : S.Parts) × (S.recovered image ≡ Some (s, q))
    pub found : (image : List ℕ) (s : Plain J) (q : S.Parts) → S.recovered image ≡ Some (s, q) → S.whole image s q
    pub appends : (p : S.Parts) (s : Plain J) (batch : List (Command J)) → 0 < length batch → length batch ≤ 16 →
        IsBatchable batch → IsState s → IsAcceptable S.kind s batch →
        Leads S s p (S.calls p s batch) (outcome S.kind s batch) (S.moved p s batch)
    pub some_calls : (p : S.Parts) (s : Plain J) (batch : List (Command J)) → 0 < length (S.calls p s batch)
    pub tending : (p : S.Parts) (s : Plain J) → Leads S s p (S.tends p) s (S.tended p)
