use Rattle.std.proofs.Common.{◌≡◌, ℕ, ◌+◌, ◌-◌, ◌*◌, ◌/◌, ◌<◌, ◌≤◌, ◌^◌, arith, ◌∙◌}
use Rattle.pfx_symbols.specs.Keys.{level}
use Rattle.pfx_symbols.proofs.Splits.{within}
use Rattle.pfx_symbols.proofs.keys.split.Goals as goal

-- the parts of a range by the number's power and its rest
parts : (n size l r : ℕ) → 0 < n → n < 2 ^ 32 → l ≡ level n → r ≡ n - 2 ^ level n → size - size / 2 ^ l + r * (size / 2 ^ (2 * l + 1)) + size / 2 ^ (2 * l + 1) ≤ size
parts n size l r some few l_is r_is = rw (l_is, r_is) (within n size some few)

pub overflow_mul-result : goal.overflow_mul-result
overflow_mul-result c =
    let h = parts c.args.n c.args.size c.level_of-level.result.0 c.from.result (omega (arith, c.requires.number)) (omega (arith, c.requires.number)) c.level_of-level.ensures.level (c.from.ensures ∙ c.level_of-level.ensures.rest) in
    omega (arith, h, c.requires.size)

pub overflow_add-result : goal.overflow_add-result
overflow_add-result c =
    let h = parts c.args.n c.args.size c.level_of-level.result.0 c.from.result (omega (arith, c.requires.number)) (omega (arith, c.requires.number)) c.level_of-level.ensures.level (c.from.ensures ∙ c.level_of-level.ensures.rest) in
    omega (arith, h, c.requires.size)

pub returns-clause-within : goal.returns-clause-within
returns-clause-within c =
    parts c.args.n c.args.size c.level_of-level.result.0 c.from.result (omega (arith, c.requires.number)) (omega (arith, c.requires.number)) c.level_of-level.ensures.level (c.from.ensures ∙ c.level_of-level.ensures.rest)
