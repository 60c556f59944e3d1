use Rattle.std.proofs.Common.{pos, get_or, w32, of_z, to_z, rules, FitsSigned}
use Rattle.std.proofs.lemmas.Int.{to_z-of_z}
use borrow.Author.Count.{below_more}
use Rattle.pfx_lanes.specs.Classes.{IsLane}
use Rattle.pfx_trial_machine.proofs.lanes.are_lanes.Goals as goal

pub loop-k-preserved : goal.loop-k-preserved
loop-k-preserved c =
    let k = c.loop-k.k in
    let fits_l : FitsSigned w32 (get_or c.args.lag.now k (pos 0)) = search rules in
    let fits_r : FitsSigned w32 (get_or c.args.phase.now k (pos 0)) = search rules in
    let fits_e : FitsSigned w32 (get_or c.args.e.now k (pos 0)) = search rules in
    let fits_p : FitsSigned w32 (get_or c.args.p.now k (pos 0)) = search rules in
    let l = to_z-of_z w32 (get_or c.args.lag.now k (pos 0)) fits_l in
    let r = to_z-of_z w32 (get_or c.args.phase.now k (pos 0)) fits_r in
    let e = to_z-of_z w32 (get_or c.args.e.now k (pos 0)) fits_e in
    let p = to_z-of_z w32 (get_or c.args.p.now k (pos 0)) fits_p in
    let here : IsLane (to_z w32 (of_z w32 (get_or c.args.lag.now k (pos 0)))) (to_z w32 (of_z w32 (get_or c.args.phase.now k (pos 0)))) (to_z w32 (of_z w32 (get_or c.args.e.now k (pos 0)))) (to_z w32 (of_z w32 (get_or c.args.p.now k (pos 0)))) = search rules in
    below_more (λ j. IsLane (get_or c.args.lag.now j (pos 0)) (get_or c.args.phase.now j (pos 0)) (get_or c.args.e.now j (pos 0)) (get_or c.args.p.now j (pos 0))) k c.loop-k.invariant (rw (l, r, e, p) at here)
