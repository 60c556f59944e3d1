-- Slots at whole numbers of periods.
use Rattle.std.proofs.Common.{◌≡◌, ◌<◌, ◌+◌, ◌-◌, ◌*◌, ℕ, arith}
use Rattle.std.specs.Prelude.{◌/◌, ◌%◌}
use Rattle.std.proofs.lemmas.Nat.{div-add-mod'}
use Rattle.std.proofs.Math.Nat.{add-mul, one-mul}

-- a slot that lies a whole number of periods behind another
pub at_period : (n h : ℕ) → n % h ≡ 0 → n / h * h ≡ n
at_period n h none = let parts = div-add-mod' n h in omega (arith, parts, none)

-- the next one that does
pub to_period : (n h : ℕ) → n % h < h → (n / h + 1) * h ≡ n + (h - n % h)
to_period n h less =
    let parts = div-add-mod' n h in
    let more = add-mul (n / h) 1 h in
    let one = one-mul h in
    omega (arith, parts, more, one, less)
