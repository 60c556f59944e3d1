use Rattle.std.proofs.Common.{[], ◌≤◌, length, sym, subst}
use Rattle.pfx_disk.proofs.Left.{honest_view}
use Rattle.pfx_store_format.specs.Format.{format}
use Rattle.pfx_store_file.specs.Holding.{IsKnown}
use Rattle.pfx_store_file.specs.Sizes.{total_len}
use Rattle.pfx_disk.specs.Disk.{IsHonest}
use Rattle.pfx_store.specs.Stores.{PlainStore}
use Rattle.pfx_store.proofs.laws.honest_disks_hold.Goals as goal

pub returns : goal.returns
returns g c = λ whole honest.
    let store = c.args.store.now in
    let view = g.D.Disk.view store.file.disk in
    let st = c.is_broken-broken.ensures.stands whole honest in
    let there = st.holds in
    record {
      stands = record {
        header = st.header;
        parts = st.parts;
        of = st.of;
        middle = st.middle;
        holds = record {
          honest = honest_view view.contents [] 0 0;
          fits = there.fits;
          area = there.area;
          segment = there.segment;
          turned = there.turned;
          gate = there.gate;
          end = there.end;
          images = λ image is. subst (IsKnown (format g.J.Job.kind) st.header store.file.places st.parts store.state) (sym is) (there.images view.contents honest.here);
          begun = there.begun;
        };
      };
      inside = subst (λ (s : PlainStore _ _). IsHonest (g.D.Disk.view s.file.disk) → total_len s.file.places.sizes ≤ length (g.D.Disk.view s.file.disk).contents) c.store.view_is c.store.inside.journal.file.inside honest;
    }
