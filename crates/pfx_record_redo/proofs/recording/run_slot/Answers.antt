use Rattle.std.proofs.Common.{ℕ, ◌+◌, List, sym, ◌∙◌, ap, map}
use Rattle.pfx_machine.specs.Plain.{whole}
use Rattle.pfx_machine.specs.Happenings.{row_or_none}
use Rattle.pfx_machine.specs.Slots.{Deal, deal}
use Rattle.pfx_jobs.specs.declared.quantum.Done.{Done}
use Rattle.pfx_record.specs.Records.{ran}
use Rattle.pfx_record_redo.specs.Recording.{after_in, place_of}
use Rattle.pfx_record_redo.proofs.Merging.{row_places}
use Rattle.pfx_record_redo.proofs.recording.run_slot.Goals as goal

pub returns-clause-kept_as : goal.returns-clause-kept_as
returns-clause-kept_as g c =
    let K = g.J.Job.kind in
    let s = c.args.state.now in
    let row = c.in_ok-row.row in
    let dealt = ap (map (λ (d : Done g.row.J.Denot g.J.Job). deal d.number d.slot d.task d.before)) c.deref.ensures.value ∙ (c.in-Ok.ensures ∙ c.in_ok-row.ensures.quanta) in
    ap ran (c.in-Ok-places_of.ensures
    ∙ (ap (λ (ds : List (Deal g.row.J.Denot)). map (λ (x : ℕ). record { task = x; state = after_in K x ds }) row) dealt
    ∙ (row_places K (s.number + 1) (whole s) row s.jobs
    ∙ ap (map (place_of K s.jobs)) (sym (ap row_or_none c.in_ok-row.ensures.row)))))

pub returns-clause-outcome : goal.returns-clause-outcome
returns-clause-outcome g c B H is = c.seal.ensures.outcome B H (c.in_ok-row.ensures.same ∙ is)
