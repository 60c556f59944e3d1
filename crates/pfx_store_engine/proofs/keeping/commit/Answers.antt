use Rattle.std.proofs.Common.{◌≡◌, ◌++◌, [], map, refl, sym, ◌∙◌, ap, arith, subst}
use Rattle.std.specs.Prelude.{Some}
use Rattle.std.proofs.lemmas.List.{length-map}
use Rattle.pfx_machine.specs.Outcome.{outcome}
use Rattle.pfx_machine.specs.Plain.{Plain}
use Rattle.pfx_record.specs.Records.{plain}
use Rattle.pfx_store.specs.Groups.{AreKeptAs, frame_of}
use Rattle.pfx_store.proofs.Grouping.{batch_led}
use Rattle.pfx_store_engine.specs.Renewing.{IsKeepable}
use Rattle.pfx_store_engine.specs.Surviving.{frames_of}
use Rattle.pfx_store_engine.proofs.Commands.{keepable_kept}
use Rattle.pfx_store_engine.proofs.Keeps.{commit_both, commit_failed, keeps_behind, keeps_commands, keeps_more, kept_length, on_err_then, on_ok_then, on_ok_two, one_recovered, replays_to}
use Rattle.pfx_store_engine.specs.Stepping.{frame_len}
use Rattle.pfx_store_engine.proofs.Stepping.{takes_both, takes_step_alone}
use Rattle.pfx_store_engine.proofs.keeping.commit.Goals as goal

pub returns-in_err-_tended-clause-keeps : goal.returns-in_err-_tended-clause-keeps
returns-in_err-_tended-clause-keeps g c honest start H done h all at given =
    let kept = g.K.BatchKeeper.kept in
    let V = g.D.Disk.view in
    keeps_behind g.J.Job.kind g.met.J.Job.laws start H (H ++ done) (V (kept c.args.keeper.now).file.disk) (V (kept c.tend_on.new.self).file.disk) (V (kept c.tend_on.new.self).file.disk) h all c.tend_on.ensures.call.takes.later
    (c.tend_on.ensures.keeps honest start (frames_of g.J.Job.kind start H) (replays_to g.J.Job.kind g.met.J.Job.laws start (kept c.args.keeper.now).state H h all at)) (keeps_more g.J.Job.kind start H done (V (kept c.tend_on.new.self).file.disk))

pub put-requires-clause-right : goal.put-requires-clause-right
put-requires-clause-right g c =
    let kept = g.K.BatchKeeper.kept in
    subst (λ (t : Plain g.row.J.Denot). IsKeepable g.J.Job.kind t (map plain c.args.records.items) c.args.renewal) (sym c.tend_on.ensures.state) c.requires.right

pub returns-clause-state : goal.returns-clause-state
returns-clause-state g c done given =
    let kept = g.K.BatchKeeper.kept in
    let s = (kept c.tend_on.new.self).state in
    let same : s ≡ (kept c.args.keeper.now).state = c.tend_on.ensures.state in
    let put = c.put.ensures.put done (subst (λ (t : Plain g.row.J.Denot). AreKeptAs g.J.Job.kind t done (map plain c.args.records.items)) (sym same) given) in
    on_ok_then c.put.result (λ taken. taken ∙ ap (λ (t : Plain g.row.J.Denot). outcome g.J.Job.kind t done) same) put.state

pub returns-clause-keeps : goal.returns-clause-keeps
returns-clause-keeps g c honest start H done h all at given =
    let kept = g.K.BatchKeeper.kept in
    let V = g.D.Disk.view in
    let s = (kept c.tend_on.new.self).state in
    let same : s ≡ (kept c.args.keeper.now).state = c.tend_on.ensures.state in
    let is = subst (λ (t : Plain g.row.J.Denot). AreKeptAs g.J.Job.kind t done (map plain c.args.records.items)) (sym same) given in
    let put = c.put.ensures.put done is in
    let long = kept_length g.J.Job.kind s done (map plain c.args.records.items) is in
    let same_long = length-map c.args.records.items plain in
    keeps_behind g.J.Job.kind g.met.J.Job.laws start H (H ++ done) (V (kept c.args.keeper.now).file.disk) (V (kept c.tend_on.new.self).file.disk) (V (kept c.put.new.keeper).file.disk) h all c.tend_on.ensures.call.takes.later
    (c.tend_on.ensures.keeps honest start (frames_of g.J.Job.kind start H) (replays_to g.J.Job.kind g.met.J.Job.laws start (kept c.args.keeper.now).state H h all at))
    (keeps_commands g.J.Job.kind g.met.J.Job.laws start s H done (frame_of g.J.Job.kind s done) (V (kept c.tend_on.new.self).file.disk) (V (kept c.put.new.keeper).file.disk) h all (same ∙ at) is.accepted is.may (omega (arith, long, same_long, c.requires.some)) (omega (arith, long, same_long, c.requires.few)) refl
    ((put.commits (c.tend_on.ensures.call.honest.0 honest)).keeps start (frames_of g.J.Job.kind start H) (replays_to g.J.Job.kind g.met.J.Job.laws start s H h all (same ∙ at))))

pub returns-clause-acknowledged : goal.returns-clause-acknowledged
returns-clause-acknowledged g c honest =
    let kept = g.K.BatchKeeper.kept in
    let s = (kept c.tend_on.new.self).state in
    let t = (kept c.put.new.keeper).state in
    let keepable = subst (λ (u : Plain g.row.J.Denot). IsKeepable g.J.Job.kind u (map plain c.args.records.items) c.args.renewal) (sym c.tend_on.ensures.state) c.requires.right in
    let (done, is) = keepable_kept g.J.Job.kind s (map plain c.args.records.items) c.args.renewal keepable in
    let put = c.put.ensures.put done is in
    let long = kept_length g.J.Job.kind s done (map plain c.args.records.items) is in
    let same_long = length-map c.args.records.items plain in
    on_ok_two c.put.result
    (λ at survives image here. one_recovered g.J.Job.kind s t (frame_of g.J.Job.kind s done) image
    (batch_led g.J.Job.kind g.met.J.Job.laws s done c.put.ensures.state is.accepted (omega (arith, long, same_long, c.requires.some)) (omega (arith, long, same_long, c.requires.few)) is.may ∙ ap Some (sym at)) (survives image here))
    put.state ((put.commits (c.tend_on.ensures.call.honest.0 honest)).acknowledged s [] refl)

pub returns-in_err-_tended-clause-calls : goal.returns-in_err-_tended-clause-calls
returns-in_err-_tended-clause-calls g c =
    let kept = g.K.BatchKeeper.kept in
    λ done given.
    (let V = g.D.Disk.view in
    takes_step_alone (frame_len g.J.Job.kind (kept c.args.keeper.now).state done) (kept c.args.keeper.now).file.places (V (kept c.args.keeper.now).file.disk) (V (kept c.tend_on.new.self).file.disk) c.tend_on.result c.from_residual.result _ c.from_residual.ensures.1 c.tend_on.ensures.call.takes)

pub returns-clause-calls : goal.returns-clause-calls
returns-clause-calls g c =
    let kept = g.K.BatchKeeper.kept in
    λ done given.
    (let V = g.D.Disk.view in
    let old = (kept c.args.keeper.now).state in
    let put = c.put.ensures.put done (subst (λ (t : Plain g.row.J.Denot). AreKeptAs g.J.Job.kind t done (map plain c.args.records.items)) (sym c.tend_on.ensures.state) given) in
    takes_both _ (frame_len g.J.Job.kind old done) (kept c.args.keeper.now).file.places (kept c.tend_on.new.self).file.places (V (kept c.args.keeper.now).file.disk) (V (kept c.tend_on.new.self).file.disk) (V (kept c.put.new.keeper).file.disk) c.in_ok-_tended._tended c.put.result
    (ap (λ (t : Plain g.row.J.Denot). frame_len g.J.Job.kind t done) c.tend_on.ensures.state)
    c.tend_on.ensures.tends.stays c.in_ok-_tended.ensures.tends.fewer c.in_ok-_tended.ensures.call.takes put.call.takes)

pub returns-in_err-_tended-clause-call : goal.returns-in_err-_tended-clause-call
returns-in_err-_tended-clause-call g c =
    commit_failed g.D.Disk.view _ _ _ _ _ c.tend_on.result c.from_residual.result _ c.in_err-_tended.was c.from_residual.ensures.1 c.tend_on.ensures.call c.tend_on.ensures.state

pub returns-clause-call : goal.returns-clause-call
returns-clause-call g c =
    let kept = g.K.BatchKeeper.kept in
    let keepable = subst (λ (u : Plain g.row.J.Denot). IsKeepable g.J.Job.kind u (map plain c.args.records.items) c.args.renewal) (sym c.tend_on.ensures.state) c.requires.right in
    let (done, is) = keepable_kept g.J.Job.kind (kept c.tend_on.new.self).state (map plain c.args.records.items) c.args.renewal keepable in
    let put = c.put.ensures.put done is in
    commit_both g.D.Disk.view _ (kept c.tend_on.new.self) _ _ _ _ _ _ c.tend_on.result _ c.put.result c.in_ok-_tended.was c.tend_on.ensures.call put.call
    (on_err_then c.put.result (λ same. same ∙ c.tend_on.ensures.state) put.same) put.mark
