use Rattle.std.proofs.Common.{sym, subst}
use Rattle.pfx_machine_feasible.proofs.Rows.{GoesOn, start_goes_on}
use Rattle.pfx_machine_feasible.proofs.Serving.{answers_had}
use Rattle.pfx_machine_feasible.proofs.laws.no_answer_lacks_a_row.Goals as goal

pub returns : goal.returns
returns g c = λ set filled B is H. answers_had g.J.Job.kind g.met.J.Job.laws B H (subst GoesOn (sym is) (start_goes_on set filled))
