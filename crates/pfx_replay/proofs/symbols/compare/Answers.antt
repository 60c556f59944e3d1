use Rattle.std.proofs.Common.{rules, ◌≡◌, ◌≢◌, ◌<◌, ◌+◌, ◌-◌, ◌∙◌, arith, sym, IsTrue}
use Rattle.std.specs.declared.cmp.Ordering.TheVariants.{Equal}
use Rattle.pfx_symbols.specs.declared.kinds.Symbol.TheVariants.{Zero}
use Rattle.pfx_symbols.specs.Symbols.{substring_at, symbol_at, symbol_cmp}
use Rattle.pfx_replay.proofs.Substrings.{go_on, ends, differs, left_over, right_over, both_over}
use Rattle.pfx_replay.proofs.symbols.compare.Goals as goal

pub returns-in_default : goal.returns-in_default
unfolding substring_at
returns-in_default c =
    let o : c.order_of.result ≡ symbol_cmp (symbol_at c.args.e c.args.p (c.args.t + 1 + c.loop-i.i)) (symbol_at c.args.f c.args.q (c.args.t + 1 + c.loop-i.i)) =
    rw (← c.symbol_at-one.ensures, ← c.symbol_at-other.ensures) c.order_of.ensures in
    let x : 0 < c.args.p - c.loop-i.i = omega arith in
    let y : 0 < c.args.q - c.loop-i.i = omega arith in
    sym (c.loop-i.invariant ∙ differs c.args.e c.args.p c.args.f c.args.q (c.args.p - c.loop-i.i) (c.args.q - c.loop-i.i) (c.args.t + 1 + c.loop-i.i) c.order_of.result x y o c.in_default.not-Equal)

pub returns-then-is_zero : goal.returns-then-is_zero
unfolding substring_at
returns-then-is_zero c =
    let o : symbol_cmp (symbol_at c.args.e c.args.p (c.args.t + 1 + c.loop-i.i)) (symbol_at c.args.f c.args.q (c.args.t + 1 + c.loop-i.i)) ≡ Equal =
    rw (← c.symbol_at-one.ensures, ← c.symbol_at-other.ensures) (sym c.order_of.ensures ∙ c.in-Equal.is) in
    let z : symbol_at c.args.e c.args.p (c.args.t + 1 + c.loop-i.i) ≡ Zero = rw (← c.symbol_at-one.ensures) (c.is_zero.ensures.0 c.if-is_zero.true) in
    let x : 0 < c.args.p - c.loop-i.i = omega arith in
    let y : 0 < c.args.q - c.loop-i.i = omega arith in
    sym (c.loop-i.invariant ∙ ends c.args.e c.args.p c.args.f c.args.q (c.args.p - c.loop-i.i) (c.args.q - c.loop-i.i) (c.args.t + 1 + c.loop-i.i) x y o z)

pub loop-i-preserved : goal.loop-i-preserved
unfolding substring_at
loop-i-preserved c =
    let o : symbol_cmp (symbol_at c.args.e c.args.p (c.args.t + 1 + c.loop-i.i)) (symbol_at c.args.f c.args.q (c.args.t + 1 + c.loop-i.i)) ≡ Equal =
    rw (← c.symbol_at-one.ensures, ← c.symbol_at-other.ensures) (sym c.order_of.ensures ∙ c.in-Equal.is) in
    let z : symbol_at c.args.e c.args.p (c.args.t + 1 + c.loop-i.i) ≢ Zero =
    λ q. (let set : IsTrue c.is_zero.result = c.is_zero.ensures.1 (c.symbol_at-one.ensures ∙ q) in search rules) in
    let x : 0 < c.args.p - c.loop-i.i = omega arith in
    let y : 0 < c.args.q - c.loop-i.i = omega arith in
    let xs : c.args.p - c.loop-i.i - 1 ≡ c.args.p - (c.loop-i.i + 1) = omega arith in
    let ys : c.args.q - c.loop-i.i - 1 ≡ c.args.q - (c.loop-i.i + 1) = omega arith in
    let ts : c.args.t + 1 + c.loop-i.i + 1 ≡ c.args.t + 1 + (c.loop-i.i + 1) = omega arith in
    rw (← xs, ← ys, ← ts) (c.loop-i.invariant ∙ go_on c.args.e c.args.p c.args.f c.args.q (c.args.p - c.loop-i.i) (c.args.q - c.loop-i.i) (c.args.t + 1 + c.loop-i.i) x y o z)

pub returns-then-p-q : goal.returns-then-p-q
unfolding substring_at
returns-then-p-q c =
    sym (c.loop-i.invariant ∙ left_over c.args.e c.args.p c.args.f c.args.q (c.args.p - c.loop-i.i) (c.args.q - c.loop-i.i) (c.args.t + 1 + c.loop-i.i) (omega arith) (omega arith))

pub returns-then-q-p : goal.returns-then-q-p
unfolding substring_at
returns-then-q-p c =
    sym (c.loop-i.invariant ∙ right_over c.args.e c.args.p c.args.f c.args.q (c.args.p - c.loop-i.i) (c.args.q - c.loop-i.i) (c.args.t + 1 + c.loop-i.i) (omega arith) (omega arith))

pub returns : goal.returns
unfolding substring_at
returns c =
    sym (c.loop-i.invariant ∙ both_over c.args.e c.args.p c.args.f c.args.q (c.args.p - c.loop-i.i) (c.args.q - c.loop-i.i) (c.args.t + 1 + c.loop-i.i) (omega arith) (omega arith))
