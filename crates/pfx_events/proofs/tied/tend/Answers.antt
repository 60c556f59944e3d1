use Rattle.std.specs.Prelude.{◌∷◌}
use Rattle.std.proofs.Common.{refl, ◌∙◌, inl, inr, ⊎_elim}
use Rattle.pfx_store.specs.Files.{tending}
use Rattle.pfx_events_world.specs.Events.{Tend, happens}
use Rattle.pfx_events.specs.Store.{store_of}
use Rattle.pfx_events.specs.Ties.{through}
use Rattle.pfx_events.proofs.Reaching.{reached_on}
use Rattle.pfx_events.proofs.Tying.{all_made, broke, kept_state, within, on_ok_both}
use Rattle.pfx_events.proofs.tied.tend.Goals as goal

pub returns-clause-tends : goal.returns-clause-tends
returns-clause-tends g c B w may is honest =
    let K = g.J.Job.kind in
    let V = g.D.Disk.view in
    let a = V c.args.store.now.file.disk in
    let b = V c.tend.new.self.file.disk in
    on_ok_both c.tend.result (c.tend.ensures.acts.made w.place is.has honest) (c.tend.ensures.acts.file w.place is.has honest) (λ made has.
    let r = all_made K B (happens (store_of K) B w Tend) (tending K w.place) refl may.0.goes_on a b is.after made c.tend.new.self.file.places c.tend.new.self.spelled has in
    ((may, r.0), r.1))

pub returns-clause-breaks_off : goal.returns-clause-breaks_off
returns-clause-breaks_off g c B w may is honest failed =
    let K = g.J.Job.kind in
    let V = g.D.Disk.view in
    let a = V c.args.store.now.file.disk in
    let b = V c.tend.new.self.file.disk in
    let r = broke K B (happens (store_of K) B w Tend) (tending K w.place) refl may.0.goes_on a b is.after (c.tend.ensures.acts.broken_off w.place is.has honest failed) in
    (r.0, (may, r.1), r.2)

pub returns-clause-onward : goal.returns-clause-onward
returns-clause-onward g c B w may tied =
    let K = g.J.Job.kind in
    let S = store_of K in
    let V = g.D.Disk.view in
    let new = c.tend.new.self in
    let a = V c.args.store.now.file.disk in
    let b = V new.file.disk in
    let v = happens S B w Tend in
    let calls = tending K w.place in
    let is = tied.there in
    on_ok_both c.tend.result (c.tend.ensures.acts.made w.place is.has tied.honest) (c.tend.ensures.acts.file w.place is.has tied.honest) (λ made has.
    let r = all_made K B v calls refl may.0.goes_on a b is.after made new.file.places new.spelled has in (
      (may, r.0),
      record {
        reached = reached_on S B w (Tend ∷ through calls) tied.reached (may, r.0);
        there = r.1;
        state = kept_state K B v calls refl may.0.goes_on a b is.after new.state (c.tend.ensures.state ∙ tied.state);
        honest = c.tend.ensures.call.honest.0 tied.honest;
      },
    ))

pub returns-clause-within : goal.returns-clause-within
returns-clause-within g c B w may tied d image past left =
    let K = g.J.Job.kind in
    let V = g.D.Disk.view in
    let is = tied.there in
    ⊎_elim inl (λ m. inr (m.0, (may, m.1), m.2)) (within K B (happens (store_of K) B w Tend) (tending K w.place) refl may.0.goes_on
    (V c.args.store.now.file.disk) (V c.tend.new.self.file.disk) is.after (c.tend.ensures.acts.between w.place is.has tied.honest) d image past left)
