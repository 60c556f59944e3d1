-- What a store's file has of a history.
use Rattle.std.specs.Prelude.{◌≡◌, if◌then◌else◌, ℕ, Bool, List, [], ◌∷◌, ◌++◌, map, not, Option, Some, None, Ok}
use Rattle.pfx_store_format.specs.Areas.{read_area}
use Rattle.pfx_store_format.specs.Format.{format, layout}
use Rattle.pfx_store_header.specs.Headers.{Header}
use Rattle.pfx_jobs.specs.Kind.{Kind}
use Rattle.pfx_machine.specs.Plain.{Plain}
use Rattle.pfx_record.specs.Records.{plain}
use Rattle.pfx_store_image.specs.Layout.{area_at, body_at, is_open}
use Rattle.pfx_store_image.specs.Recovery.{Found, found}
use Rattle.pfx_store_image.specs.Store.{Parts}
use Rattle.pfx_replay.specs.Stated.{plain_of}
use Rattle.pfx_replay.specs.Trails.{records_behind}
use Rattle.pfx_replay_audit.specs.declared.file.FileHistory.{FileHistory}

-- this state before others, if there is one
abbrev pub with_state : {J : Type 0} → Option (Plain J) → List (Plain J) → List (Plain J)
with_state None states = states
with_state (Some s) states = s ∷ states

module _ {J : Type 0} (K : Kind J) where
  -- the state in a checkpoint area, if its gate is open and it holds one
  abbrev pub area_state : Header → Bool → List ℕ → Option (Plain J)
  area_state h b image = if is_open (area_at (layout h) b) image then read_area K h (body_at (layout h) (area_at (layout h) b) image) else None

  -- the states that a file holds: in the checkpoint area that isn't in use, in the one that is, and behind its frames
  abbrev pub held : Header → Parts (Plain J) → Plain J → List ℕ → List (Plain J)
  held h p t image = with_state (area_state h (not p.area) image) (p.base ∷ t ∷ [])

  -- these are the states that a file of these parts holds, and the records behind its checkpoint, whose number is the beginning
  pub record IsOfParts (h : Header) (p : Parts (Plain J)) (t : Plain J) (image : List ℕ) (file : FileHistory J) : Type 0 where
    pub begin : file.begin ≡ p.base.number
    pub records : map plain file.records.items ≡ records_behind K p.base (p.before ++ p.frames)
    pub marks : map plain_of file.marks.items ≡ held h p t image

  -- a store's file is found in the image, and this is what it has of a history
  pub record IsOfFile (image : List ℕ) (file : FileHistory J) : Type 0 where
    pub store : Found Header (Plain J)
    pub found_is : found (format K) image ≡ Ok store
    pub is : IsOfParts store.head store.parts store.state image file
