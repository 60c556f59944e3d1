use Rattle.std.proofs.Common.{◌≡◌, false, Ok, Err, max, sym, ap, subst, ◌∙◌}
use Rattle.pfx_disk_chronicle.specs.Chart.{charted_honest, last_only, noted_view}
use Rattle.pfx_program_store.proofs.NotingLemmas.{noted_none, noted_run}
use Rattle.pfx_store_engine.specs.Failing.{MayFail}
use Rattle.pfx_program_store.specs.Noting.{IsNotedRun}
use Rattle.pfx_program_store.proofs.CauseLemmas.{disk_or_log}
use Rattle.pfx_program_store.specs.Causes.{IsDiskOrLog}
use Rattle.pfx_log_store.proofs.Keepings.{log_whole, none_failed}
use Rattle.pfx_fault.specs.declared.refusals.Fault.TheVariants as fault
use Rattle.pfx_log_store.specs.Working.{failure_beside}
use Rattle.pfx_program_store.proofs.logging.run_logged.Goals as goal

pub returns-in-Err : goal.returns-in-Err
returns-in-Err g c =
    let held = g.B.Charted.held in
    let image = g.B.Charted.image in
    let view = noted_view held image g.B.Charted.clock g.B.Charted.failures in
    let along = c.told.ensures.along in
    let noted = c.noted-noted.result.store in
    let whole : noted.file.broken ≡ false = ap (λ s. s.file.broken) c.noted-noted.ensures.store in
    let state : noted.state ≡ c.args.beside.store.state = ap (λ s. s.state) c.noted-noted.ensures.store in
    record {
      ran = subst (λ t. IsNotedRun IsDiskOrLog c.args.run.form c.args.run.at_refusal c.args.beside.store.state c.args.script.now c.args.script.now.failed (g.W.Write.contents c.args.output.now) (g.W.Write.contents c.args.output.now) held image c.moment.result
          (g.D.Disk.view c.told.result.store.file.disk) t (Err fault.NoMemory)) (sym (c.told.ensures.state.0 ∙ ap (λ b. b.store.state) c.in-Err.ensures.given_back ∙ state))
          (noted_none IsDiskOrLog c.args.run.form c.args.run.at_refusal c.args.beside.store.state c.args.script.now c.args.script.now.failed (g.W.Write.contents c.args.output.now) held image c.moment.result
          (g.D.Disk.view c.told.result.store.file.disk) (view c.in-Err.back.store.file.disk).now
          (λ honest. (along.follows honest).premise)
          (λ so left behind. subst (λ d. (view d).now left) c.disk.ensures (c.moment.ensures.images so left behind))
          (λ honest left here. ((along.follows honest).premise, (along.follows honest).images left here))
          (λ so left here. c.is_broken-broken.ensures.recovered whole (charted_honest held image g.B.Charted.clock g.B.Charted.failures noted.file.disk.made noted.file.disk.late noted.file.disk.failed so) left
          (subst (λ b. (view b.store.file.disk).now left) c.in-Err.ensures.given_back here) ∙ ap Ok state));
    }

pub returns-in-Ok : goal.returns-in-Ok
returns-in-Ok g c =
    let held = g.B.Charted.held in
    let image = g.B.Charted.image in
    let clock = g.B.Charted.clock in
    let failures = g.B.Charted.failures in
    let view = noted_view held image clock failures in
    let along = c.told-in-Ok.ensures.along in
    let noted = c.noted-noted.result.store in
    let begun = c.in-Ok.engine in
    let whole : noted.file.broken ≡ false = ap (λ s. s.file.broken) c.noted-noted.ensures.store in
    let at : begun.keeper.store.state ≡ c.args.beside.store.state = ap (λ b. b.store.state) c.in-Ok.ensures.keeper ∙ ap (λ s. s.state) c.noted-noted.ensures.store in
    record {
      ran = subst (λ t. IsNotedRun IsDiskOrLog c.args.run.form c.args.run.at_refusal c.args.beside.store.state c.args.script.now c.run_durable-result.new.script.failed (g.W.Write.contents c.args.output.now) (g.W.Write.contents c.run_durable-result.new.output) held image
          c.moment-in-Ok.result (g.D.Disk.view c.told-in-Ok.result.store.file.disk) t c.run_durable-result.result) (sym (c.told-in-Ok.ensures.state.0 ∙ ap (λ b. b.store.state) c.into_keeper-after.ensures))
          (subst (λ s. IsNotedRun IsDiskOrLog c.args.run.form c.args.run.at_refusal s c.args.script.now c.run_durable-result.new.script.failed (g.W.Write.contents c.args.output.now) (g.W.Write.contents c.run_durable-result.new.output) held image
          c.moment-in-Ok.result (g.D.Disk.view c.told-in-Ok.result.store.file.disk) c.run_durable-result.new.engine.keeper.store.state c.run_durable-result.result) at
          (noted_run (MayFail (λ beside. failure_beside beside)) IsDiskOrLog disk_or_log held image c.moment-in-Ok.result (g.D.Disk.view c.told-in-Ok.result.store.file.disk) (λ honest. (along.follows honest).premise)
          (λ engine. view engine.keeper.store.file.disk) (λ engine. failure_beside engine.keeper) (λ engine. engine.keeper.store.state) c.args.run.form c.args.run.at_refusal
          (max c.args.run.batch c.args.run.group) c.args.script.now c.run_durable-result.new.script.failed begun c.run_durable-result.new.engine (g.W.Write.contents c.args.output.now) (g.W.Write.contents c.run_durable-result.new.output)
          c.run_durable-result.result c.run_durable-result.ensures.runs
          (ap (λ b. failure_beside b) c.in-Ok.ensures.keeper ∙ none_failed c.noted-noted.result.store.file.broken c.noted-noted.result.log.broken c.noted-noted.result.stopped whole (ap (λ f. f.broken) c.noted-noted.ensures.log.0 ∙ (log_whole c.args.beside.store.file.broken c.args.beside.log.broken c.args.beside.stopped c.requires.whole).0) (c.noted-noted.ensures.log.2 ∙ (log_whole c.args.beside.store.file.broken c.args.beside.log.broken c.args.beside.stopped c.requires.whole).1))
          (λ so. charted_honest held image clock failures begun.keeper.store.file.disk.made begun.keeper.store.file.disk.late begun.keeper.store.file.disk.failed so)
          (λ so left is. c.is_broken-broken.ensures.recovered whole (charted_honest held image clock failures noted.file.disk.made noted.file.disk.late noted.file.disk.failed so) left
          (subst (λ b. (view b.store.file.disk).now left) c.in-Ok.ensures.keeper (last_only held image clock failures begun.keeper.store.file.disk.made begun.keeper.store.file.disk.late begun.keeper.store.file.disk.failed left is))
          ∙ ap Ok (sym (ap (λ b. b.store.state) c.in-Ok.ensures.keeper)))
          (λ so left behind. subst (λ b. (view b.store.file.disk).now left) c.into_keeper-after.ensures (subst (λ d. (view d).now left) c.disk-in-Ok.ensures (c.moment-in-Ok.ensures.images so left behind)))
          (λ honest left here. subst (λ b. (view b.store.file.disk).now left) c.into_keeper-after.ensures ((along.follows honest).premise, (along.follows honest).images left here))));
    }
