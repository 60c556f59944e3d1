use Rattle.std.proofs.Common.{rules, ◌≡◌, ◌≢◌, ℕ, zero, ◌+◌, ◌-◌, ◌<◌, ◌≤◌, ap, sym, ◌∙◌, refl, arith, w32, to_z, of_z, ℤ, pos, Some}
use Rattle.std.proofs.lemmas.Int.{to_z-of_z}
use Rattle.pfx_columns.specs.Ledgers.{total}
use Rattle.pfx_columns.specs.Levels.{unlevel_from}
use Rattle.pfx_columns.proofs.Levelling.{even_next, odd_here, left_is, unlevel_is}
use Rattle.pfx_columns.proofs.columns.Columns.first_unlevel.Goals as goal

pub loop-x-init : goal.loop-x-init
loop-x-init c = (let g = c.args.self.now in let all : total g ≡ total g - 0 = omega arith in unlevel_is g ∙ ap (λ n. unlevel_from g n 0) all)

pub returns-then-lag-ne0 : goal.returns-then-lag-ne0
returns-then-lag-ne0 c =
    let g = c.args.self.now in
    let x = c.loop-x.x in
    let within : x < total g = omega (arith, c.loop-x-test.true, c.total-x-end.ensures.count) in
    sym (c.loop-x.invariant ∙ ap (λ n. unlevel_from g n x) (left_is (total g) x within)
    ∙ odd_here g (total g - (x + 1)) x (λ is. c.if-lag-ne0.true (ap (of_z w32) (c.lag.ensures ∙ is))))

pub loop-x-preserved : goal.loop-x-preserved
loop-x-preserved c =
    let g = c.args.self.now in
    let x = c.loop-x.x in
    let within : x < total g = omega (arith, c.loop-x-test.true, c.total-x-end.ensures.count) in
    let r = c.lag.result in
    let r_is : to_z w32 (of_z w32 r) ≡ r = to_z-of_z w32 r (let h = c.lag.type_inv in search rules) in
    let none : r ≡ pos 0 = sym r_is ∙ ap (to_z w32) c.if-lag-ne0.false in
    c.loop-x.invariant ∙ ap (λ n. unlevel_from g n x) (left_is (total g) x within) ∙ even_next g (total g - (x + 1)) x (sym c.lag.ensures ∙ none)

pub returns : goal.returns
returns c =
    let g = c.args.self.now in
    let x = c.loop-x.x in
    let none : total g - x ≡ 0 = omega (arith, c.loop-x-test.false, c.total-x-end.ensures.count) in
    sym (c.loop-x.invariant ∙ ap (λ n. unlevel_from g n x) none)
