use Rattle.std.proofs.Common.{◌≡◌, ◌<◌, ◌≤◌, ◌∙◌, ◌+◌, ℕ, ap, sym, refl, false, true, length, below_more, arith, rules}
use Rattle.pfx_columns.specs.Ledgers.{Task, task}
use Rattle.pfx_columns.specs.Levels.{is_even}
use Rattle.pfx_replay.specs.Shown.{ledger_of}
use Rattle.pfx_replay.proofs.Reweighs.{all_even, odd_one}
use Rattle.pfx_replay.proofs.numbers.PlainLedger.is_level.Goals as goal

pub returns-then-not-is_even : goal.returns-then-not-is_even
returns-then-not-is_even c =
    let g = ledger_of c.args.self.now in
    let within : c.loop-x.x < length c.args.self.now.weights.items = search rules in
    let same : record { e = c.weight-e.result.0; p = c.weight-e.result.1; alloc = c.got.result } ≡ task g c.loop-x.x = λ i. record { e = c.weight-e.ensures.e i; p = c.weight-e.ensures.p i; alloc = c.got.ensures.got i } in
    odd_one g c.loop-x.x within (ap (is_even g.slot) (sym same) ∙ sym c.is_even.ensures ∙ c.if-not-is_even.true)

pub loop-x-preserved : goal.loop-x-preserved
loop-x-preserved c =
    let g = ledger_of c.args.self.now in
    let same : record { e = c.weight-e.result.0; p = c.weight-e.result.1; alloc = c.got.result } ≡ task g c.loop-x.x = λ i. record { e = c.weight-e.ensures.e i; p = c.weight-e.ensures.p i; alloc = c.got.ensures.got i } in
    below_more (λ y. is_even g.slot (task g y) ≡ true) c.loop-x.x c.loop-x.invariant (ap (is_even g.slot) (sym same) ∙ sym c.is_even.ensures ∙ c.if-not-is_even.false)

pub returns : goal.returns
returns c =
    let all : length c.args.self.now.weights.items ≤ c.loop-x.x = search rules in
    (λ yes. all_even (ledger_of c.args.self.now) (λ y within. c.loop-x.invariant y (omega (arith, within, all))), λ h. refl)
