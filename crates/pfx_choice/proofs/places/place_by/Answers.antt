use Rattle.std.proofs.Common.{◌≡◌, ◌∙◌, ◌+ℤ◌, pos, true, false, w32}
use Rattle.std.proofs.lemmas.Int.{to_z-of_z}
use Rattle.std.specs.Int.Signed.{lt_z}
use Rattle.pfx_choice.proofs.Sums.{lag_fits, e_fits, sum_fits, running, resting}
use Rattle.pfx_choice.proofs.places.place_by.Goals as goal

pub overflow_add-lag : goal.overflow_add-lag
overflow_add-lag c =
    let g = c.args.ledger.now in
    let x = c.args.x in
    let h = c.total-total.ensures.ledger in
    let lag = to_z-of_z w32 c.args.lag (lag_fits g x h c.requires.within c.args.lag c.requires.lag) in
    let e = to_z-of_z w32 c.args.e (e_fits g x h c.requires.within c.args.e c.requires.e) in
    rw (lag, e) (sum_fits g x h c.requires.within c.args.lag c.args.e c.requires.lag c.requires.e)

pub returns-then-lag-e-gt0 : goal.returns-then-lag-e-gt0
returns-then-lag-e-gt0 c =
    let g = c.args.ledger.now in
    let x = c.args.x in
    let h = c.total-total.ensures.ledger in
    let lag = to_z-of_z w32 c.args.lag (lag_fits g x h c.requires.within c.args.lag c.requires.lag) in
    let e = to_z-of_z w32 c.args.e (e_fits g x h c.requires.within c.args.e c.requires.e) in
    let sum = to_z-of_z w32 (c.args.lag +ℤ c.args.e) (sum_fits g x h c.requires.within c.args.lag c.args.e c.requires.lag c.requires.e) in
    let due : lt_z (pos 0) (c.args.lag +ℤ c.args.e) ≡ true = rw (lag, e, sum) at c.if-lag-e-gt0.true in
    c.requires.lead ∙ running g x c.args.lag c.args.e c.requires.lag c.requires.e due

pub returns-else-lag-e-gt0 : goal.returns-else-lag-e-gt0
returns-else-lag-e-gt0 c =
    let g = c.args.ledger.now in
    let x = c.args.x in
    let h = c.total-total.ensures.ledger in
    let lag = to_z-of_z w32 c.args.lag (lag_fits g x h c.requires.within c.args.lag c.requires.lag) in
    let e = to_z-of_z w32 c.args.e (e_fits g x h c.requires.within c.args.e c.requires.e) in
    let sum = to_z-of_z w32 (c.args.lag +ℤ c.args.e) (sum_fits g x h c.requires.within c.args.lag c.args.e c.requires.lag c.requires.e) in
    let due : lt_z (pos 0) (c.args.lag +ℤ c.args.e) ≡ false = rw (lag, e, sum) at c.if-lag-e-gt0.false in
    resting g x c.args.lag c.args.e c.requires.lag c.requires.e due
