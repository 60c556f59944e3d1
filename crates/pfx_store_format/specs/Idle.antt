-- Slots in which no task has a state recorded.
use Rattle.std.specs.Prelude.{◌≡◌, ℕ, ◌+◌, ◌*◌, true, List, map, None}
use Rattle.pfx_record_redo.specs.Applying.{after_record, is_right}
use Rattle.pfx_jobs.specs.Kind.{Kind}
use Rattle.pfx_machine.specs.Plain as machine
use Rattle.pfx_record.specs.Reading.{IsRecord}
use Rattle.pfx_record.specs.Records.{ran}
use Rattle.pfx_record.specs.declared.form.Form.{Form}
use Rattle.pfx_record.specs.declared.record.Place.{Place}

-- a row of these tasks, none of which has a state
abbrev pub idle : {J : Type 0} → List ℕ → List (Place J)
idle tasks = map (λ x. record { task = x; state = None }) tasks

-- how many bytes a record of such a row takes
abbrev pub idle_len : ℕ → ℕ
idle_len workers = 1 + 3 * workers

-- the bytes begin with the record of such a row, which is right at a state, and leads to another
pub record IsPassed {J : Type 0} (K : Kind J) (form : Form) (bytes : List ℕ) (s t : machine.Plain J) : Type 0 where
  pub row : List ℕ
  pub stands : IsRecord K form bytes (ran (idle row)) (idle_len form.workers)
  pub right : is_right K s (ran (idle row)) ≡ true
  pub leads : t ≡ after_record s (ran (idle row))
