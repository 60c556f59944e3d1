use Rattle.std.proofs.Common.{◌≡◌, ℕ, suc, ◌+◌, ◌-◌, Bool, true, false, arith, ap, sym, ◌∙◌}
use Rattle.pfx_symbols.specs.Keys.{gaps_key}
use Rattle.pfx_symbols.specs.Ranges.{placed_at}
use Rattle.pfx_symbols.proofs.KeyOrder.{none, gaps_none}
use Rattle.pfx_symbols.proofs.keys.key_of_gaps.Goals as goal

-- no key leaves the end of a range
at_end : (turned : Bool) (low : ℕ) → placed_at turned low none ≡ record { number = low; whole = false }
at_end true low = (let is : low - 0 ≡ low = omega arith in λ i. record { number = is i; whole = false })
at_end false low = (let is : low + 0 ≡ low = omega arith in λ i. record { number = is i; whole = false })

pub returns-then-size-eq0 : goal.returns-then-size-eq0
returns-then-size-eq0 c =
    let l = c.rounds in
    let k = c.args.k - l._i in
    sym (at_end l.turned l.low)
    ∙ ap (λ key. placed_at l.turned l.low key) (sym (gaps_none k l.e l.p l.v))
    ∙ ap (λ size. placed_at l.turned l.low (gaps_key k size l.e l.p l.v)) (sym c.if-size-eq0.true)
    ∙ l.invariant.same

pub returns-in-Ends : goal.returns-in-Ends
returns-in-Ends c =
    let l = c.rounds in
    let n = c.args.k - (l._i + 1) in
    let is : suc n ≡ c.args.k - l._i = omega (arith, c.rounds-test.true) in
    sym (c.in-Ends.ensures n) ∙ sym (c.by_gaps-d.ensures.same n) ∙ ap (λ m. placed_at l.turned l.low (gaps_key m l.size l.e l.p l.v)) is ∙ l.invariant.same

pub rounds-preserved : goal.rounds-preserved
rounds-preserved c =
    let l = c.rounds in
    let n = c.args.k - (l._i + 1) in
    let is : suc n ≡ c.args.k - l._i = omega (arith, c.rounds-test.true) in
    record {
      range = record { up = c.in-GoesOn.rest.up; down = c.in-GoesOn.rest.down; top = c.in-GoesOn.rest.top };
      gaps = c.in-GoesOn.ensures.0;
      same = sym (c.in-GoesOn.ensures.1 n) ∙ sym (c.by_gaps-d.ensures.same n) ∙ ap (λ m. placed_at l.turned l.low (gaps_key m l.size l.e l.p l.v)) is ∙ l.invariant.same;
    }
