use Rattle.std.proofs.Common.{◌≡◌, ◌≤◌, length, false, sym, ap, ◌∙◌, subst, arith}
use Rattle.std.proofs.lemmas.Bool.{false≢true}
use Rattle.pfx_disk_chronicle.specs.Chart.{acts_of, charted_honest, Noted}
use Rattle.pfx_disk.specs.Stop.{contents_after}
use Rattle.pfx_store_format.specs.Format.{format}
use Rattle.pfx_store.specs.Stores.{PlainStore}
use Rattle.pfx_store_file.specs.Holding.{IsBegun}
use Rattle.pfx_store_file.specs.Sizes.{total_len}
use Rattle.pfx_store.proofs.noted.Store+Chronicle+D+B+J.told.Goals.{then-is_broken, else-is_broken}
use Rattle.pfx_store.proofs.noted.Store+Chronicle+D+B+J.told.Goals as goal

pub invariant_of-file : goal.invariant_of-file
invariant_of-file g c = record {
  inside = λ honest.
      let j = c.self.inside.journal in
      let d = j.file.disk in
      let f = c.into_inner.ensures.along.follows honest in
      let was : total_len j.file.places.sizes ≤ length (contents_after g.B.Charted.image (acts_of d.made)) =
      j.file.inside (charted_honest g.B.Charted.held g.B.Charted.image g.B.Charted.clock g.B.Charted.failures d.made d.late d.failed f.premise) in
      let long = f.long in
      let more = f.no_shorter in
      omega (arith, was, long, more);
}

pub invariant_of-result-2 : goal.invariant_of-result-2
invariant_of-result-2 g c still honest =
    let K = g.J.Job.kind in
    let j = c.self.inside.journal in
    let d = j.file.disk in
    let f = c.into_inner.ensures.along.follows honest in
    elim c.if-is_broken.branch [
      | then-is_broken w ↦ absurd (false≢true (sym still ∙ w.broken-is ∙ w.if-is_broken.true))
      | else-is_broken w ↦
          let whole : j.file.broken ≡ false = ap (λ (s : PlainStore _ _). s.file.broken) c.self.view_is ∙ (sym c.is_broken.ensures.broken ∙ w.if-is_broken.false) in
          let failed : d.failed ≡ false =
          ap (λ (s : PlainStore (Noted _) _). s.file.disk.failed) c.self.view_is ∙ (sym (ap (λ (e : Noted _). e.failed) w.disk.ensures) ∙ (sym w.has_failed-broken.ensures ∙ (sym w.broken-is ∙ still))) in
          let st = c.self.invariant whole (charted_honest g.B.Charted.held g.B.Charted.image g.B.Charted.clock g.B.Charted.failures d.made d.late d.failed f.premise) in
          record {
            header = st.header;
            parts = st.parts;
            of = st.of;
            middle = st.middle;
            holds = record {
              honest = honest;
              fits = st.holds.fits;
              area = st.holds.area;
              segment = st.holds.segment;
              turned = st.holds.turned;
              gate = st.holds.gate;
              end = st.holds.end;
              images = λ image now. st.holds.images image (f.premise, f.images image now);
              begun = λ done writing. subst (λ l. IsBegun (format K) st.header j.file.places st.parts done j.spelled.items l) (sym (f.contents failed)) (st.holds.begun done writing);
            };
          }
    ]
