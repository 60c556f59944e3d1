use Rattle.std.proofs.Common.{◌∙◌, w32}
use Rattle.std.proofs.lemmas.Int.{to_z-of_z}
use Rattle.pfx_choice.proofs.Sums.{near_by, lag_fits, e_fits, p_fits}
use Rattle.pfx_choice.proofs.leads.divided.Goals as goal

pub returns : goal.returns
returns c =
    let g = c.args.ledger.now in
    let x = c.args.x in
    let h = c.total-total.ensures.ledger in
    let lag_own = to_z-of_z w32 c.args.lag (lag_fits g x h c.requires.within c.args.lag c.requires.lag) in
    let e_own = to_z-of_z w32 c.args.e (e_fits g x h c.requires.within c.args.e c.requires.e) in
    let p_own = to_z-of_z w32 c.args.p (p_fits g x h c.requires.within c.args.p c.requires.p) in
    c.quotient.ensures ∙ near_by g x h c.requires.within c.natural.result c.left_of.result c.args.lag c.args.e c.args.p (rw e_own at c.natural.ensures) c.requires.e c.requires.p c.requires.lag (rw (p_own, lag_own) at c.left_of.ensures)
