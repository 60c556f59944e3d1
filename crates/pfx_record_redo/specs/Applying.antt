-- Records at a state: which are right there, and the state after them.
use Rattle.std.specs.Prelude.{◌&&◌, nat_lt, if◌then◌else◌, not, Bool, true, false, List, [], ◌∷◌, slice_get, Option, Some, None}
use Rattle.std.specs.List.{list_all}
use Rattle.pfx_jobs.specs.Kind.{Kind}
use Rattle.pfx_columns.specs.Ledgers.{ledger_at, total}
use Rattle.pfx_machine.specs.Plain as machine
use Rattle.pfx_machine.specs.Jobs.{has_job, is_busy, is_free}
use Rattle.pfx_machine.specs.Fitting.{fits}
use Rattle.pfx_machine.specs.Reweighing.{new_set, renewed, reweigh_fault}
use Rattle.pfx_record.specs.Effect.{Standing, recorded_one}
use Rattle.pfx_record.specs.Records.{Recorded, form_of, submitted, ran, withdrawn, reweighed, record_fits}
use Rattle.pfx_record.specs.declared.form.Form.{Form}
use Rattle.pfx_record.specs.declared.record.Place.{Place}

-- a state without its set of tasks, whose slot is counted from where that came into force
abbrev pub standing_of : {J : Type 0} → machine.Plain J → Standing J
standing_of s = record { number = s.number; slot = s.ledger.slot; allocations = s.ledger.allocs; jobs = s.jobs }

-- the state after a record that isn't one of new weights, which is taken as it stands
abbrev pub after_common : {J : Type 0} → machine.Plain J → Recorded J → machine.Plain J
after_common s done =
    let next = recorded_one (standing_of s) done in
    record { number = next.number; from = s.from; ledger = ledger_at s.ledger.set next.slot next.allocations; jobs = next.jobs; segment = s.segment }

-- the state after a record: new weights put their set in force
abbrev pub after_record : {J : Type 0} → machine.Plain J → Recorded J → machine.Plain J
after_record s (submitted task job) = after_common s (submitted task job)
after_record s (ran row) = after_common s (ran row)
after_record s (withdrawn task) = after_common s (withdrawn task)
after_record s (reweighed workers weights) = renewed s (new_set s.ledger.set workers weights)

-- the record isn't one of new weights
abbrev pub is_common : {J : Type 0} → Recorded J → Bool
is_common (submitted task job) = true
is_common (ran row) = true
is_common (withdrawn task) = true
is_common (reweighed workers weights) = false

-- a place of a row has a state exactly if its task has an unfinished job
abbrev pub is_flagged : {J : Type 0} → Kind J → List (Option J) → Place J → Bool
is_flagged K jobs place = elim place.state [ Some state ↦ is_busy K (slice_get jobs place.task) | None ↦ not (is_busy K (slice_get jobs place.task)) ]

-- the form of a record at a state
abbrev pub form_at : {J : Type 0} → machine.Plain J → Form
form_at s = form_of s.ledger.set.workers s.ledger.set.real 1

-- at a state a job can be given, a row run, a job taken away, or a set of new weights come into force
abbrev pub is_apt : {J : Type 0} → Kind J → machine.Plain J → Recorded J → Bool
is_apt K s (submitted task job) = is_free K (slice_get s.jobs task)
is_apt K s (ran row) = list_all (λ place. nat_lt place.task (total s.ledger) && is_flagged K s.jobs place) row
is_apt K s (withdrawn task) = has_job (slice_get s.jobs task)
is_apt K s (reweighed workers weights) = elim (reweigh_fault s workers weights) [ Some fault ↦ false | None ↦ true ]

-- the record is right at a state: it has a spelling, the state lets it pass, and what is after it is a state
abbrev pub is_right : {J : Type 0} → Kind J → machine.Plain J → Recorded J → Bool
is_right K s done = record_fits (form_at s) done && (is_apt K s done && fits (after_record s done))

-- the state after records, if each is right after those before it
abbrev pub applied : {J : Type 0} → Kind J → machine.Plain J → List (Recorded J) → Option (machine.Plain J)
applied K s [] = Some s
applied K s (done ∷ records) = if is_right K s done then applied K (after_record s done) records else None
