use Rattle.std.proofs.Common.{◌≡◌, sym, ◌∙◌, ap, arith, subst, true, IsTrue}
use Rattle.std.specs.Prelude.{slice_get}
use Rattle.pfx_record.specs.Records.{plain, record_fits}
use Rattle.pfx_machine.specs.Jobs.{has_job, is_free}
use Rattle.pfx_record_redo.specs.Applying.{form_at, is_right}
use Rattle.pfx_record_redo.proofs.Effects.{after-submitted, after-withdrawn}
use Rattle.pfx_record_redo.proofs.Rightness.{free_is_real, job_is_real, number_wrong, submit_right, withdraw_right}
use Rattle.pfx_record_redo.proofs.applying.apply_record.Goals as goal

pub returns-then-number-clause-right : goal.returns-then-number-clause-right
returns-then-number-clause-right g c =
    number_wrong g.J.Job.kind c.args.state.now (plain c.args.entry.now) (omega (arith, c.if-number.true, c.number.ensures.number))

pub put_job-requires : goal.put_job-requires
put_job-requires g c =
    let free : is_free g.J.Job.kind (slice_get c.args.state.now.jobs c.in-Submit.task) ≡ true = rw (← c.jobs.ensures) (sym c.is_free.ensures ∙ c.if-not-is_free.false) in
    free_is_real g.J.Job.kind c.args.state.now.jobs c.in-Submit.task free

pub put_job-requires-in-Withdraw : goal.put_job-requires-in-Withdraw
put_job-requires-in-Withdraw g c =
    let has : has_job (slice_get c.args.state.now.jobs c.in-Withdraw.task) ≡ true = rw (← c.jobs-in-Withdraw.ensures) (sym c.has_job.ensures ∙ c.if-not-has_job.false) in
    job_is_real c.args.state.now.jobs c.in-Withdraw.task has

pub returns-else-not-is_free-clause-right : goal.returns-else-not-is_free-clause-right
returns-else-not-is_free-clause-right g c =
    let s = c.args.state.now in
    let free : is_free g.J.Job.kind (slice_get s.jobs c.in-Submit.task) ≡ true = rw (← c.jobs.ensures) (sym c.is_free.ensures ∙ c.if-not-is_free.false) in
    let form : IsTrue (record_fits (form_at s) (plain c.args.entry.now)) = rw (← c.form_at.ensures) (sym c.record_fits.ensures ∙ c.if-not-record_fits.false) in
    let given = ap plain c.in-Submit.is in
    submit_right g.J.Job.kind s c.in-Submit.task c.in-Submit.job c.number.ensures.state (omega (arith, c.if-number.false, c.number.ensures.number)) (subst (λ r. IsTrue (record_fits (form_at s) r)) given form) free
    ∙ ap (is_right g.J.Job.kind s) (sym given)

pub returns-else-not-is_free-clause-taken : goal.returns-else-not-is_free-clause-taken
returns-else-not-is_free-clause-taken g c right =
    c.count.ensures ∙ (rw (c.put_job.ensures, c.copy_of.ensures, c.in-Submit.is) (sym (after-submitted g.J.Job.kind c.args.state.now c.in-Submit.task c.in-Submit.job)))

pub returns-else-not-has_job-clause-right : goal.returns-else-not-has_job-clause-right
returns-else-not-has_job-clause-right g c =
    let s = c.args.state.now in
    let has : has_job (slice_get s.jobs c.in-Withdraw.task) ≡ true = rw (← c.jobs-in-Withdraw.ensures) (sym c.has_job.ensures ∙ c.if-not-has_job.false) in
    let form : IsTrue (record_fits (form_at s) (plain c.args.entry.now)) = rw (← c.form_at.ensures) (sym c.record_fits.ensures ∙ c.if-not-record_fits.false) in
    let given = ap plain c.in-Withdraw.is in
    withdraw_right g.J.Job.kind s c.in-Withdraw.task c.number.ensures.state (omega (arith, c.if-number.false, c.number.ensures.number)) (subst (λ r. IsTrue (record_fits (form_at s) r)) given form) has
    ∙ ap (is_right g.J.Job.kind s) (sym given)

pub returns-else-not-has_job-clause-taken : goal.returns-else-not-has_job-clause-taken
returns-else-not-has_job-clause-taken g c right =
    c.count-in-Withdraw.ensures ∙ (rw (c.put_job-in-Withdraw.ensures, c.in-Withdraw.is) (sym (after-withdrawn g.J.Job.kind c.args.state.now c.in-Withdraw.task)))
