-- A store's file in this format, the calls of its acts, and the file that is found in an image.
use Rattle.std.specs.Prelude.{◌≡◌, ℕ, ◌+◌, List, [], ◌∷◌, ◌++◌, drop, true, Option, Some, None, Result, Ok, Err}
use Rattle.pfx_checkpoint.specs.Whole.{whole_bytes}
use Rattle.pfx_disk.specs.Stop.{Act}
use Rattle.pfx_store_format.specs.Format.{format}
use Rattle.pfx_store_header.specs.Headers.{Header}
use Rattle.pfx_jobs.specs.Kind.{Kind}
use Rattle.pfx_machine.specs.Plain.{Plain}
use Rattle.pfx_record.specs.Numbers.{number_bytes}
use Rattle.pfx_store_image.specs.Recovery.{Found, found}
use Rattle.pfx_store_image.specs.Refusals.{Refusal}
use Rattle.pfx_store_file.specs.Acts.{tend_acts, turn_acts, append_acts, appended_file}
use Rattle.pfx_store_file.specs.Files.{File, AreOf, file_in}
use Rattle.pfx_store_file.specs.declared.places.Places.{Places}

-- a header and the rest of a file
abbrev pub FileOf : Type 0 → Type 0
FileOf J = File Header (Plain J)

-- the body of the checkpoint area that the checkpoint in progress writes
abbrev pub spelled : {J : Type 0} → Kind J → FileOf J → List ℕ
spelled K f = whole_bytes K f.parts.middle

-- a store with these places has this file; if a checkpoint is in progress, this is its body
pub record HasFile {J : Type 0} (K : Kind J) (f : FileOf J) (places : Places) (body : List ℕ) : Type 0 where
  pub are : AreOf (format K) f places
  pub spells : f.parts.turned ≡ true → body ≡ spelled K f

-- the bytes behind the gate of a segment that begins behind a state: the next number, and the first frame's closed gate
abbrev pub start_of : {J : Type 0} → Plain J → List ℕ
start_of s = number_bytes 8 (s.number + 1) ++ 0 ∷ []

-- what is written behind the gate of a frame: the rest of it, and the next gate, closed
abbrev pub behind_of : List ℕ → List ℕ
behind_of frame = drop 1 frame ++ 0 ∷ []

module _ {J : Type 0} (K : Kind J) (f : FileOf J) where
  -- the calls that append a frame at a state
  abbrev pub appending : Plain J → List ℕ → List Act
  appending s frame = append_acts (format K) f s (spelled K f) (start_of s) (behind_of frame)

  -- the file after them
  abbrev pub appended : Plain J → List ℕ → FileOf J
  appended s frame = appended_file (format K) f s (behind_of frame) frame

  -- the calls of the next step of the checkpoint in progress
  abbrev pub tending : List Act
  tending = tend_acts (format K) f (spelled K f)

  -- the calls of a turn at a state
  abbrev pub turning : Plain J → List Act
  turning s = turn_acts (format K) f (start_of s)

-- the file that was found in an image, with the gates as they stand there
abbrev pub file_found : {J : Type 0} → Kind J → List ℕ → Result (Found Header (Plain J)) Refusal → Option (Plain J × FileOf J)
file_found K image (Ok f) = Some (f.state, file_in (format K) image f.head f.parts)
file_found K image (Err refusal) = None

-- recovery: the state that an image stands for, and the file in which it is found
abbrev pub recovered_file : {J : Type 0} → Kind J → List ℕ → Option (Plain J × FileOf J)
recovered_file K image = file_found K image (found (format K) image)
