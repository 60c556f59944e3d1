-- Products that are small.
use Rattle.std.proofs.Common.{◌≡◌, ℕ, ◌+◌, ◌-◌, ◌*◌, ◌/◌, ◌%◌, ◌<◌, ◌≤◌, mul-le-mul, mul_comm, arith}

pub product_within : (a b c d : ℕ) → a ≤ c → b ≤ d → a * b ≤ c * d
product_within a b c d h k = mul-le-mul h k

-- so many times the divisor is within the number, if it isn't above the quotient
pub within_quotient : (i a b : ℕ) → 1 ≤ b → i ≤ a / b → i * b ≤ a
within_quotient i a b some h =
    let times : i * b ≤ (a / b) * b = (let same : b ≤ b = omega arith in mul-le-mul h same) in
    let split : b * (a / b) + a % b ≡ a = omega arith in
    let turn : (a / b) * b ≡ b * (a / b) = mul_comm (a / b) b in
    omega (arith, times, split, turn)

pub hyper_within : (first slots l k : ℕ) → 1 ≤ l → k < (first + slots) / l - first / l → (first / l + 1 + k) * l ≤ first + slots
hyper_within first slots l k some h = within_quotient (first / l + 1 + k) (first + slots) l some (omega arith)
