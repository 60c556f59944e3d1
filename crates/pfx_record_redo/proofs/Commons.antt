-- Records that aren't of new weights.
use Rattle.std.specs.Prelude.{◌≡◌, zero, suc, ◌+◌, ◌==◌, ◌&&◌, nat_lt, nat_le, All, List, [], ◌∷◌, length, map, IsTrue, refl}
use Rattle.std.specs.List.{list_all}
use Rattle.std.proofs.Common.{arith, subst}
use Rattle.std.proofs.lemmas.Bool.{false≢true, ltb-true}
use Rattle.pfx_jobs.specs.Kind.{Kind}
use Rattle.pfx_machine.specs.Batches.{AreCommon, IsCommon}
use Rattle.pfx_machine.specs.Outcome.{outcome}
use Rattle.pfx_machine.specs.Plain as machine
use Rattle.pfx_machine.specs.declared.command.Command.{Command}
use Rattle.pfx_machine.specs.declared.command.Command.TheVariants.{Submit, Slot, Withdraw, Reweigh}
use Rattle.pfx_record.specs.Records.{Recorded, is_small, plain, submitted, ran, withdrawn, reweighed, record_fits, rises_from, takes_weights, tasks_of}
use Rattle.pfx_record.specs.declared.form.Form.{Form}
use Rattle.pfx_record.specs.declared.record.Record.{Record}
use Rattle.pfx_record.proofs.Rising.{both}
use Rattle.pfx_record_redo.specs.Applying.{after_common, after_record, is_common}
use Rattle.pfx_record_redo.specs.Recording.{record_of, records_of}

-- what is after them, in one form
pub common_after : {J : Type 0} (s : machine.Plain J) (done : Recorded J) → IsTrue (is_common done) → after_record s done ≡ after_common s done
common_after s (submitted task job) common = refl
common_after s (ran row) common = refl
common_after s (withdrawn task) common = refl
common_after s (reweighed workers weights) common = absurd (false≢true common)

-- of their form only the workers matter
pub common_fits : {J : Type 0} (form other : Form) (done : Recorded J) → IsTrue (is_common done) → form.workers ≡ other.workers → IsTrue (record_fits form done) → IsTrue (record_fits other done)
common_fits form other (submitted task job) common same fits = fits
common_fits form other (ran row) common same fits = subst (λ n. IsTrue ((length row == n) && rises_from 0 (tasks_of row))) same fits
common_fits form other (withdrawn task) common same fits = fits
common_fits form other (reweighed workers weights) common same fits = absurd (false≢true common)

-- where no task is said to be real, no other has a spelling
pub form_common : {J : Type 0} (form : Form) (done : Recorded J) → form.real ≡ 0 → IsTrue (record_fits form done) → IsTrue (is_common done)
form_common form (submitted task job) none fits = refl
form_common form (ran row) none fits = refl
form_common form (withdrawn task) none fits = refl
form_common form (reweighed m ws) none fits =
    let takes = (both (takes_weights form) ((length ws == form.real) && (nat_lt m 256 && list_all is_small ws)) fits).0 in
    let some = ltb-true 0 form.real (both (nat_lt 0 form.real) (nat_le form.real 1024) (both form.alone (nat_lt 0 form.real && nat_le form.real 1024) takes).1).0 in
    absurd (omega (arith, some, none))

-- the records of commands none of which is a Reweigh
record_common : {J : Type 0} (K : Kind J) (s : machine.Plain J) (c : Command J) → IsCommon c → IsTrue (is_common (record_of K s c))
record_common K s (Submit task job) common = refl
record_common K s (Withdraw task) common = refl
record_common K s Slot common = refl
record_common K s (Reweigh workers weights) common = absurd common

pub records_common : {J : Type 0} (K : Kind J) (s : machine.Plain J) (H : List (Command J)) → AreCommon H → All (λ done. IsTrue (is_common done)) (records_of K s H)
records_common K s [] common k d l = absurd (omega (arith, l))
records_common K s (c ∷ H) common zero d l = record_common K s c common.0
records_common K s (c ∷ H) common (suc k) d l = records_common K (outcome K s (c ∷ [])) H common.1 k d (omega (arith, l))

-- the same of records as they are kept
pub unmapped : {J : Type 0} (records : List (Record J)) → All (λ done. IsTrue (is_common done)) (map plain records) → All (λ entry. IsTrue (is_common (plain entry))) records
unmapped [] common k d l = absurd (omega (arith, l))
unmapped (entry ∷ records) common zero d l = common 0 (plain entry) (omega arith)
unmapped (entry ∷ records) common (suc k) d l = unmapped records (λ i e b. common (suc i) e (omega (arith, b))) k d (omega (arith, l))

-- each record takes a number
pub number_after : {J : Type 0} (s : machine.Plain J) (done : Recorded J) → (after_record s done).number ≡ s.number + 1
number_after s (submitted task job) = refl
number_after s (ran row) = refl
number_after s (withdrawn task) = refl
number_after s (reweighed workers weights) = refl
