-- Worked rows: frames in a row, what a log has kept, the frames behind a number, and what has failed.
use Rattle.std.proofs.Common.{◌≡◌, ℕ, zero, suc, List, [], ◌∷◌, length, true, false, None, Some, refl, sym, ap, arith}
use Rattle.pfx_fault.specs.declared.fields.Cause.TheVariants as cause
use Rattle.pfx_jobs.specs.Kind.{Kind}
use Rattle.pfx_log.specs.Logs.{block_of, new_log, number_of, with_block}
use Rattle.pfx_machine.specs.Plain.{Plain}
use Rattle.pfx_store_image.specs.ToyCodec.{toy}
use Rattle.pfx_store_image.proofs.Runs.{numbers_rise}
use Rattle.pfx_store_image.proofs.ToyLaws.{toy_meets}
use Rattle.pfx_log_store.specs.Behind.{GoOnBehind, IsGap, StandBehind}
use Rattle.pfx_log_store.specs.Covering.{HasKept, frames_in, in_a_row}
use Rattle.pfx_log_store.specs.Joining.{Gathers, none_behind}
use Rattle.pfx_log_store.specs.Working.{failure_by}

row : in_a_row ((1 ∷ 2 ∷ []) ∷ [] ∷ (3 ∷ []) ∷ []) ≡ 1 ∷ 2 ∷ 3 ∷ []
row = refl

blocks : frames_in (block_of 1 2 (7 ∷ []) ∷ block_of 3 3 (8 ∷ 9 ∷ []) ∷ []) ≡ 7 ∷ 8 ∷ 9 ∷ []
blocks = refl

module _ {J : Type 0} (K : Kind J) (s : Plain J) (version : ℕ) (state before : List ℕ) where
  -- a new log has kept none of the frames behind its state
  none_kept : (all : List (List ℕ)) → number_of state ≡ s.number → HasKept K s all 0 s (new_log version state before)
  none_kept all same = record { few = omega arith; frames = refl; leads = refl; number = sym same }

  -- one whose block has another byte than the frame hasn't kept it
  other_byte : (kept : ℕ) (behind : Plain J) → ¬ HasKept K s ((7 ∷ []) ∷ []) kept behind (with_block (new_log version state before) (block_of 1 1 (9 ∷ [])))
  other_byte zero behind is = absurd (omega (arith, ap length is.frames))
  other_byte (suc zero) behind is = absurd (omega (arith, ap {B = ℕ} (λ l. elim l [ [] ↦ 0 | x ∷ xs ↦ x ]) is.frames))
  other_byte (suc (suc kept)) behind is = absurd (let few = is.few in omega (arith, few))

-- a frame of the toy codec, with this number and this record
toy_frame : ℕ → ℕ → List ℕ
toy_frame n v = 195 ∷ 1 ∷ 0 ∷ 0 ∷ 0 ∷ n ∷ 0 ∷ 0 ∷ 0 ∷ 0 ∷ 0 ∷ 0 ∷ 0 ∷ 1 ∷ 0 ∷ v ∷ []

-- of two frames the second is behind number 1, and that is what is gathered
second_behind : StandBehind toy 0 (toy_frame 1 7 ∷ toy_frame 2 8 ∷ []) 1 (toy_frame 2 8 ∷ [])
unfolding toy_frame
second_behind = record { front = toy_frame 1 7 ∷ []; whole = refl; reaches = (1, refl, refl) }

second_gathered : Gathers toy 1 (none_behind 0) (toy_frame 1 7 ∷ toy_frame 2 8 ∷ []) (record { bytes = toy_frame 2 8; begin = 1; number = 2 })
unfolding toy_frame
second_gathered = (1, refl, (2, refl, refl))

-- none are behind the last number of a log that ends before the first frame's
begins_later : IsGap toy 3 (toy_frame 4 7 ∷ []) 2
begins_later rest stand = absurd (omega (arith, numbers_rise toy toy_meets 3 stand.front 2 stand.reaches))

-- they go on behind number 3, and no frame is left out there
goes_on_behind : GoOnBehind toy 3 (toy_frame 4 7 ∷ []) 2 3
goes_on_behind = (toy_frame 4 7 ∷ [], record { front = []; whole = refl; reaches = refl }, λ before. absurd (omega (arith, before)))

not_behind_the_log : GoOnBehind toy 3 (toy_frame 4 7 ∷ []) 2 2 → ⊥
not_behind_the_log go = begins_later go.0 go.1

-- the store's disk is told before the log, and a log that stopped as one whose disk failed
disk_first : failure_by true true false ≡ Some cause.Device
disk_first = refl

log_failed : failure_by false true false ≡ Some cause.Log
log_failed = refl

log_stopped : failure_by false false true ≡ Some cause.Log
log_stopped = refl

none_failed : failure_by false false false ≡ None
none_failed = refl
