-- Rows that show what the definitions of an audit let pass, and what they don't.
use Rattle.std.proofs.Common.{◌≡◌, ◌≢◌, ℕ, true, false, List, [], ◌∷◌, None, refl}
use Rattle.std.proofs.lemmas.List.Elements.{All-head}
use Rattle.pfx_jobs.specs.Kind.{Kind}
use Rattle.pfx_log.specs.Logs.{Block}
use Rattle.pfx_machine.specs.Plain.{Plain}
use Rattle.pfx_record.specs.Records.{Recorded}
use Rattle.pfx_segment.specs.Frames.{IsFrame}
use Rattle.pfx_replay_audit.specs.Blocks.{IsRead, IsSplit}
use Rattle.pfx_replay_audit.specs.Marks.{IsMet, Meets}
use Rattle.pfx_replay_audit.specs.Starts.{is_long, read_start, start_len}

-- a state of two real tasks takes 1,343 bytes, and with a byte fewer it is none
pub two_tasks : start_len 2 ≡ 1343
two_tasks = refl

pub long_enough : is_long 1343 ≡ true
long_enough = refl

pub a_byte_short : is_long 1342 ≡ false
a_byte_short = refl

pub too_many_tasks : is_long (start_len 1025) ≡ false
too_many_tasks = refl

-- a log of another version of a store's file begins at no state
pub another_version : {J : Type 0} (K : Kind J) (bytes : List ℕ) → read_start K 1 bytes ≡ None
another_version K bytes = refl

module _ {J : Type 0} (s mark : Plain J) where
  -- a mark of the state's number has to be the state; one of another number isn't looked at there
  pub another_state : mark.number ≡ s.number → mark ≢ s → Meets (mark ∷ []) s → ⊥
  another_state same other h = other (All-head (IsMet s) mark [] h same)

  pub another_number : mark.number ≢ s.number → IsMet s mark
  another_number other same = absurd (other same)

-- no byte is no frame
pub none_of_none : (frames : List (List ℕ)) → IsSplit (0 ∷ []) ([] ∷ frames) → ⊥
none_of_none frames split = (let whole = (All-head IsFrame [] frames split.each).whole in cc)

-- a block isn't read up to another number than its last
pub another_last : {J : Type 0} (K : Kind J) (s t : Plain J) (block : Block) (read : List (Recorded J)) → t.number ≢ block.last → IsRead K s block read t → ⊥
another_last K s t block read other is = other is.last
