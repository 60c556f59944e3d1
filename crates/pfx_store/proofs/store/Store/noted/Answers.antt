use Rattle.std.proofs.Common.{◌≡◌, [], sym, ◌∙◌, subst, false}
use Rattle.pfx_disk_chronicle.specs.Chart.{charted, charted_honest, noted_view}
use Rattle.pfx_disk.specs.Disk.{IsHonest, Only}
use Rattle.pfx_store.specs.Noting.{IsHeldBy}
use Rattle.pfx_store.specs.Standing.{Stands}
use Rattle.pfx_store.specs.Stores.{PlainStore}
use Rattle.pfx_store.proofs.store.Store.noted.Goals as goal

pub new-requires-clause-held : goal.new-requires-clause-held
new-requires-clause-held g c =
    subst (λ (s : PlainStore _ _). IsHonest (g.D.Disk.view s.file.disk) → g.B.Charted.held × ((g.D.Disk.view s.file.disk).contents ≡ g.B.Charted.image) × Only g.B.Charted.image (g.D.Disk.view s.file.disk))
    (sym c.self.view_is) c.requires.honest

pub invariant_of-result-2 : goal.invariant_of-result-2
invariant_of-result-2 g c _ honest =
    let H = g.B.Charted.held in
    let I = g.B.Charted.image in
    let C = g.B.Charted.clock in
    let F = g.B.Charted.failures in
    let j = c.self.inside.journal in
    let K = g.J.Job.kind in
    let is : IsHeldBy K (record { file = record { disk = j.file.disk; places = j.file.places; broken = j.file.broken }; state = j.state; spelled = j.spelled.items }) I =
    subst (λ (s : PlainStore _ _). IsHeldBy K s I) (sym c.self.view_is) (c.requires.held honest.here.0) in
    let st = is.stands in
    let there : Stands K j.file.places j.state j.spelled.items (charted H I C F [] 0 false) = record {
      header = st.header;
      parts = st.parts;
      of = st.of;
      middle = st.middle;
      holds = record {
        honest = charted_honest H I C F [] 0 false honest.here.0;
        fits = st.holds.fits;
        area = st.holds.area;
        segment = st.holds.segment;
        turned = st.holds.turned;
        gate = st.holds.gate;
        end = st.holds.end;
        images = λ image now. st.holds.images image now.1;
        begun = st.holds.begun;
      };
    } in
    subst (λ d. Stands K c.new-file.result.places j.state j.spelled.items (noted_view H I C F d)) (sym (c.new-file.ensures.disk ∙ c.new.ensures))
    (subst (λ p. Stands K p j.state j.spelled.items (charted H I C F [] 0 false)) (sym c.new-file.ensures.places) there)
