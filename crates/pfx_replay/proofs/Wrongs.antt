-- One record, against what its command does.
use Rattle.std.specs.Prelude.{◌≡◌, ◌≢◌, ◌<◌, ◌+◌, ◌^◌, ◌&&◌, if◌then◌else◌, slice_get, true, false, ℕ, List, [], map, Option, Some, None, Ok, IsTrue, refl}
use Rattle.std.proofs.Common.{sym, ◌∙◌, ap, inl, inr}
use Rattle.std.proofs.lemmas.Bool.{cond-true, cases_lt, lt-ltb}
use Rattle.pfx_machine.specs.Choosing.{row_in}
use Rattle.pfx_machine.specs.Fitting.{fits}
use Rattle.pfx_jobs.specs.Kind.{Kind}
use Rattle.pfx_machine.specs.Happenings.{row_or_none}
use Rattle.pfx_machine.specs.Plain as machine
use Rattle.pfx_machine.specs.Reweighing.{reweigh_fault}
use Rattle.pfx_machine.specs.Refusals.{refusal, command_fault, slot_fault, submit_fault, withdraw_fault}
use Rattle.pfx_machine.specs.declared.command.Command.{Command}
use Rattle.pfx_machine.specs.declared.command.Command.TheVariants.{Submit, Slot, Withdraw, Reweigh}
use Rattle.pfx_machine.specs.declared.faults.MachineFault.{MachineFault}
use Rattle.pfx_machine.specs.declared.faults.MachineFault.TheVariants.{NumberLimit, TaskBusy}
use Rattle.pfx_record.specs.Records.{Recorded, submitted, ran, withdrawn, reweighed, record_fits, tasks_of}
use Rattle.pfx_record.specs.declared.record.Place.{Place}
use Rattle.pfx_record.proofs.Rising.{both}
use Rattle.pfx_machine.specs.Jobs.{has_job, is_free}
use Rattle.pfx_record_redo.specs.Applying.{after_record, form_at, is_apt, is_right}
use Rattle.pfx_record_redo.specs.Recording.{place_of, record_of}
use Rattle.pfx_record_redo.proofs.Rightness.{number_wrong}

module _ {J : Type 0} (K : Kind J) (s : machine.Plain J) where
  pub number_below : (one : Recorded J) → IsTrue (is_right K s one) → s.number + 1 < 2 ^ 48
  number_below one right = elim (cases_lt (s.number + 1) (2 ^ 48)) [
    | inl less ↦ less
    | inr more ↦ absurd (let e : false ≡ true = number_wrong K s one more ∙ right in cc)
  ]

  accepted : (c : Command J) → s.number + 1 < 2 ^ 48 → command_fault K s c ≡ None → refusal K s c ≡ None
  accepted c below none = cond-true _ (command_fault K s c) (Some NumberLimit) (lt-ltb (s.number + 1) (2 ^ 48) below) ∙ none

  pub slot_accepted : (row : List ℕ) → s.number + 1 < 2 ^ 48 → row_in s ≡ Ok row → refusal K s Slot ≡ None
  slot_accepted row below is = accepted Slot below (ap slot_fault is)

  no_submit_fault : (t : ℕ) (o : Option (Option J)) → is_free K o ≡ true → submit_fault K t o ≡ None
  no_submit_fault t None free = cc
  no_submit_fault t (Some None) free = refl
  no_submit_fault t (Some (Some j)) free = ap (λ b. if b then None else Some (TaskBusy t)) free

  no_withdraw_fault : (t : ℕ) (o : Option (Option J)) → has_job o ≡ true → withdraw_fault t o ≡ None
  no_withdraw_fault t None has = cc
  no_withdraw_fault t (Some None) has = cc
  no_withdraw_fault t (Some (Some j)) has = refl

  apt : (one : Recorded J) → IsTrue (is_right K s one) → IsTrue (is_apt K s one)
  apt one right =
      let rest = (both (record_fits (form_at s) one) (is_apt K s one && fits (after_record s one)) right).1 in
      (both (is_apt K s one) (fits (after_record s one)) rest).0

  pub submit_accepted : (t : ℕ) (job : J) → IsTrue (is_right K s (submitted t job)) → refusal K s (Submit t job) ≡ None
  submit_accepted t job right = accepted (Submit t job) (number_below (submitted t job) right) (no_submit_fault t (slice_get s.jobs t) (apt (submitted t job) right))

  pub withdraw_accepted : (t : ℕ) → IsTrue (is_right K s (withdrawn t)) → refusal K s (Withdraw t) ≡ None
  withdraw_accepted t right = accepted (Withdraw t) (number_below (withdrawn t) right) (no_withdraw_fault t (slice_get s.jobs t) (apt (withdrawn t) right))

  no_reweigh_fault : (o : Option MachineFault) → elim o [ Some fault ↦ false | None ↦ true ] ≡ true → o ≡ None
  no_reweigh_fault None may = refl
  no_reweigh_fault (Some fault) may = cc

  pub reweigh_accepted : (m : ℕ) (ws : List (ℕ × ℕ)) → IsTrue (is_right K s (reweighed m ws)) → refusal K s (Reweigh m ws) ≡ None
  reweigh_accepted m ws right = accepted (Reweigh m ws) (number_below (reweighed m ws) right) (no_reweigh_fault (reweigh_fault s m ws) (apt (reweighed m ws) right))

  abbrev places_in : Recorded J → List (Place J)
  places_in (submitted t job) = []
  places_in (ran row) = row
  places_in (withdrawn t) = []
  places_in (reweighed m ws) = []

  pub slot_recorded : (row : List (Place J)) → row_in s ≡ Ok (tasks_of row) → row ≡ map (place_of K s.jobs) (tasks_of row) → ran row ≡ record_of K s Slot
  slot_recorded row is same = ap ran (same ∙ ap (λ r. map (place_of K s.jobs) (row_or_none r)) (sym is))

  pub slot_back : (row : List (Place J)) → row_in s ≡ Ok (tasks_of row) → ran row ≡ record_of K s Slot → row ≡ map (place_of K s.jobs) (tasks_of row)
  slot_back row is same = ap places_in same ∙ ap (λ r. map (place_of K s.jobs) (row_or_none r)) is

  ok_row : (xs ys : List ℕ) → row_in s ≡ Ok xs → row_in s ≡ Ok ys → xs ≡ ys
  ok_row xs ys one other = ap row_or_none (sym one ∙ other)

  pub other_row : (xs ys : List ℕ) → row_in s ≡ Ok xs → ys ≢ xs → row_in s ≢ Ok ys
  other_row xs ys one other is = other (ok_row ys xs is one)
