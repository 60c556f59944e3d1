use Rattle.std.proofs.Common.{refl}
use Rattle.pfx_bench_front.proofs.stores.made.Goals as goal

pub returns-in-Ok : goal.returns-in-Ok
returns-in-Ok g c = record {
  whole = c.in-Ok.ensures.made.whole;
  state = refl;
  failures = refl;
  clock = refl;
  honest = λ honest. (honest, refl, c.in-Ok.ensures.calls.only (c.in-Ok.ensures.calls.honest.1 honest));
  stands = c.honest_disks_hold.ensures c.in-Ok.ensures.made.whole;
}
