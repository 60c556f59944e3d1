use Rattle.std.proofs.Common.{refl}
use Rattle.pfx_bench_front.proofs.session.open.Goals as goal

pub returns-in-Ok : goal.returns-in-Ok
returns-in-Ok g c = record {
  whole = c.in-Ok.ensures.fresh.0;
  state = refl;
  failures = refl;
  clock = refl;
  honest = λ honest. absurd honest.here;
  stands = λ honest. absurd honest.here;
}
