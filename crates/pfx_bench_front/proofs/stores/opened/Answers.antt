use Rattle.std.proofs.Common.{refl, sym, subst}
use Rattle.pfx_disk.specs.Disk.{Only}
use Rattle.pfx_bench_front.proofs.stores.opened.Goals as goal

pub returns-in-Ok : goal.returns-in-Ok
returns-in-Ok g c = record {
  whole = c.in-Ok.ensures.fresh.0;
  state = refl;
  failures = refl;
  clock = refl;
  honest = λ honest.
      let before = c.in-Ok.ensures.looks.honest honest in
      let same = (c.in-Ok.ensures.looks.leaves before).contents in
      (honest, refl, subst (λ bytes. Only bytes (g.D.Disk.view c.in-Ok.store.file.disk)) (sym same) (c.in-Ok.ensures.acts before).only);
  stands = c.honest_disks_hold.ensures c.in-Ok.ensures.fresh.0;
}
