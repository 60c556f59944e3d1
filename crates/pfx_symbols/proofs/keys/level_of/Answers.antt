use Rattle.std.proofs.Common.{◌≡◌, ℕ, ◌-◌, ◌*◌, ◌%◌, ◌≤◌, ◌^◌, arith, ap, ◌∙◌}
use Rattle.std.proofs.Math.Nat.{mod-eq_of_lt}
use Rattle.pfx_symbols.specs.Keys.{level}
use Rattle.pfx_symbols.proofs.Splits.{level_unique, level_small}
use Rattle.pfx_symbols.proofs.keys.level_of.Goals as goal

power_fits : (n j : ℕ) → 2 ^ j ≤ n → n ≤ 2 ^ 20 → (1 * 2 ^ j) % 4294967296 ≡ 2 ^ j
power_fits n j low few =
    let one : 1 * 2 ^ j ≡ 2 ^ j = omega arith in
    ap (λ k. k % 4294967296) one ∙ mod-eq_of_lt (omega (arith, low, few))

pub overflow_sub-result : goal.overflow_sub-result
overflow_sub-result c = (let is = power_fits c.args.n c.ilog2-level.result c.ilog2-level.ensures.power_le c.requires.1 in omega (arith, is, c.ilog2-level.ensures.power_le))

pub returns : goal.returns
returns c =
    let found = c.ilog2-level.ensures in
    let is : c.ilog2-level.result ≡ level c.args.n = level_unique c.args.n c.ilog2-level.result (omega (arith, c.requires)) (omega (arith, c.requires)) found.power_le found.next_power_gt in
    record {
      level = is;
      rest = ap (λ k. c.args.n - k) (power_fits c.args.n c.ilog2-level.result found.power_le c.requires.1 ∙ ap (λ k. 2 ^ k) is);
      few = level_small c.args.n c.ilog2-level.result found.power_le c.requires.1;
    }
