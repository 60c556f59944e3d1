use Rattle.std.proofs.Common.{refl}
use Rattle.pfx.proofs.store.opened.Goals as goal

pub returns-in-Ok : goal.returns-in-Ok
returns-in-Ok c = λ image. record {
  whole = c.in-Ok.ensures.fresh.0;
  state = refl;
  failures = refl;
  clock = refl;
  honest = λ honest. absurd honest.here;
  stands = λ held. held;
}
