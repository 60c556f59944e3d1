use Rattle.std.proofs.Common.{◌≡◌, ◌+◌, ◌∙◌, ap, drop, length}
use Rattle.std.specs.Prelude.{Some, slice_set}
use Rattle.pfx_machine.specs.Plain.{Plain}
use Rattle.pfx_record.specs.Effect.{jobs_from}
use Rattle.pfx_record.specs.Records.{ran}
use Rattle.std.proofs.lemmas.List.{length-set}
use Rattle.pfx_record_redo.proofs.Effects.{put_next, keep_next, put_end}
use Rattle.pfx_record_redo.proofs.Rows.{put_is_real}
use Rattle.pfx_record_redo.proofs.applying.put_states.Goals.{in-Some, in-None}
use Rattle.pfx_record_redo.proofs.applying.put_states.Goals as goal

pub put_job-requires : goal.put_job-requires
put_job-requires g c =
    let real = put_is_real g.J.Job.kind _ c.args.state.now.jobs c.args.row.now c.loop-place.place-index c.place-item.result c.in-Some.job c.requires.flagged c.place-item.is c.loop-place-test.true c.in-Some.is in
    rw (c.loop-place.invariant.long) real

pub loop-place-preserved : goal.loop-place-preserved
loop-place-preserved g c =
    let row = c.args.row.now in
    let i = c.loop-place.place-index in
    let kept = c.loop-place.invariant in
    elim c.match-place.branch [
      | in-Some w ↦
          (let now : c.match-place.state ≡ record c.loop-place.state { jobs = slice_set c.loop-place.state.jobs c.place-item.result.task (Some w.in-Some.job) } = rw (← w.copy_of.ensures) (w.state-is ∙ w.put_job.ensures) in
          let jobs = ap (λ (s : Plain g.row.J.Denot). s.jobs) now in
          record {
            jobs = put_next row i c.place-item.result w.in-Some.job c.loop-place.state.jobs c.match-place.state.jobs _ c.place-item.is c.loop-place-test.true c.requires.rises kept.jobs w.in-Some.is jobs;
            number = ap (λ (s : Plain g.row.J.Denot). s.number) now ∙ kept.number;
            from = ap (λ (s : Plain g.row.J.Denot). s.from) now ∙ kept.from;
            ledger = ap (λ (s : Plain g.row.J.Denot). s.ledger) now ∙ kept.ledger;
            segment = ap (λ (s : Plain g.row.J.Denot). s.segment) now ∙ kept.segment;
            long = ap length jobs ∙ (length-set c.loop-place.state.jobs c.place-item.result.task (Some w.in-Some.job) ∙ kept.long);
          })
      | in-None w ↦ record {
        jobs = ap (λ (s : Plain g.row.J.Denot). jobs_from (ran (drop (i + 1) row)) 0 s.jobs) w.state-is ∙ keep_next row i c.place-item.result c.loop-place.state.jobs _ c.place-item.is c.loop-place-test.true c.requires.rises kept.jobs w.in-None.is;
        number = ap (λ (s : Plain g.row.J.Denot). s.number) w.state-is ∙ kept.number;
        from = ap (λ (s : Plain g.row.J.Denot). s.from) w.state-is ∙ kept.from;
        ledger = ap (λ (s : Plain g.row.J.Denot). s.ledger) w.state-is ∙ kept.ledger;
        segment = ap (λ (s : Plain g.row.J.Denot). s.segment) w.state-is ∙ kept.segment;
        long = ap (λ (s : Plain g.row.J.Denot). length s.jobs) w.state-is ∙ kept.long;
      }
    ]

pub returns : goal.returns
returns g c =
    let jobs = put_end c.args.row.now c.loop-place.place-index c.loop-place.state.jobs _ c.loop-place-test.false c.loop-place.invariant.jobs in
    λ i. record { number = c.loop-place.invariant.number i; from = c.loop-place.invariant.from i; ledger = c.loop-place.invariant.ledger i; jobs = jobs i; segment = c.loop-place.invariant.segment i }
