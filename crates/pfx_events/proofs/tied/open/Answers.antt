use Rattle.std.specs.Prelude.{◌∷◌, true}
use Rattle.std.proofs.Common.{◌≡◌, [], Some, subst, sym}
use Rattle.pfx_machine.proofs.Compose.{outcome-none}
use Rattle.pfx_events_world.specs.Events.{Device, Stop}
use Rattle.pfx_events.specs.Store.{store_of}
use Rattle.pfx_events.proofs.Reaching.{reached_new, reached_on}
use Rattle.pfx_events.proofs.Sound.{sound}
use Rattle.pfx_store.specs.Files.{recovered_file}
use Rattle.pfx_events.proofs.Tying.{reopened, begun, opened_state, still_one, if_ok_both, if_ok_all, if_err_then, match_ok}
use Rattle.pfx_events.proofs.tied.open.Goals as goal

pub returns-clause-stops : goal.returns-clause-stops
returns-clause-stops g c B w image may honest before =
    let K = g.J.Job.kind in
    let V = g.D.Disk.view in
    if_ok_both _ _ _ c.open.result (c.open.ensures.acts honest).made (c.open.ensures.acts honest).file (λ store made found.
    let r = reopened K B w image store.state found.0 (V c.args.disk) (V store.file.disk) store.file.places store.spelled
    (subst (λ i. recovered_file K i ≡ Some (store.state, found.0)) before.contents found.1) before made found.2 in
    ((may, r.0), r.1, r.2))

pub returns-clause-fails : goal.returns-clause-fails
returns-clause-fails g c image honest before =
    if_err_then _ _ c.open.result (λ e broken. still_one image (g.D.Disk.view e.1) (broken image [] before)) (c.open.ensures.acts honest).broken_off

pub returns-clause-onward : goal.returns-clause-onward
returns-clause-onward g c B w image reached may honest before =
    let K = g.J.Job.kind in
    let S = store_of K in
    let V = g.D.Disk.view in
    if_ok_all _ _ _ _ c.open.result (c.open.ensures.acts honest).made (c.open.ensures.acts honest).file (match_ok _ _ c.open.result c.open.ensures.looks) (λ store made found looks.
    let is = subst (λ i. recovered_file K i ≡ Some (store.state, found.0)) before.contents found.1 in
    let r = reopened K B w image store.state found.0 (V c.args.disk) (V store.file.disk) store.file.places store.spelled is before made found.2 in
    let onward = reached_on S B w (Stop image ∷ Device true ∷ []) reached (may, r.0) in (
      (may, r.0),
      record {
        reached = onward;
        there = r.2;
        state = opened_state K g.met.J.Job.laws B w image store.state found.0 is onward;
        honest = (looks.leaves honest).honest;
      },
    ))

pub returns-clause-begins : goal.returns-clause-begins
returns-clause-begins g c image honest before =
    let K = g.J.Job.kind in
    let S = store_of K in
    let V = g.D.Disk.view in
    if_ok_all _ _ _ _ c.open.result (c.open.ensures.acts honest).made (c.open.ensures.acts honest).file (match_ok _ _ c.open.result c.open.ensures.looks) (λ store made found looks.
    let is = subst (λ i. recovered_file K i ≡ Some (store.state, found.0)) before.contents found.1 in (
      found.0,
      is,
      record {
        reached = reached_new S (sound K g.met.J.Job.laws) store.state image found.0 [] is tt;
        there = begun K store.state image found.0 (V c.args.disk) (V store.file.disk) store.file.places store.spelled before made found.2;
        state = sym (outcome-none K store.state);
        honest = (looks.leaves honest).honest;
      },
    ))
