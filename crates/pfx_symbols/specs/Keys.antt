-- Keys of strings: numbers that stand in the order of the strings, the greater string's being the lesser.
use Rattle.std.specs.Prelude.{ℕ, zero, suc, ◌+◌, ◌-◌, ◌*◌, ◌/◌, ◌^◌, ◌==◌, nat_lt, true, false, if◌then◌else◌}
use Rattle.std.specs.Int.Count.{count_leading_zeros}
use Rattle.pfx_symbols.specs.declared.keys.Key.{Key}

-- the power of 2 that is the greatest up to n, of 1 to 2^32 - 1
abbrev pub level : ℕ → ℕ
level n = 31 - count_leading_zeros 32 n

-- of a range of so many keys, how many go to the number n, and how many to the numbers below it
abbrev pub width : ℕ → ℕ → ℕ
width n size = size / 2 ^ (2 * level n + 1)

abbrev pub start : ℕ → ℕ → ℕ
start n size = size - size / 2 ^ level n + (n - 2 ^ level n) * width n size

-- how many steps of e it takes to reach x
abbrev pub gap : ℕ → ℕ → ℕ
gap e x = (x + e - 1) / e

abbrev pub above : ℕ → Key → Key
above low key = record { number = low + key.number; whole = key.whole }

abbrev pub back_from : ℕ → Key → Key
back_from high key = record { number = high - key.number; whole = key.whole }

-- the key of the string of e/p from phase r on: the shorter first gap is before; then a string that ends with it is last; then `after` decides
abbrev pub first_key : (ℕ → ℕ → ℕ → ℕ → Key) → ℕ → ℕ → ℕ → ℕ → Key
first_key after size e p r =
    let i = gap e (p - r) in
    let left = width i size - 1 in
    above (start i size) (if r + e * i == p then record { number = left; whole = nat_lt 0 (width i size) } else after left e p (r + e * i - p))

-- the key of the string of e/p from the phase v on, behind its first gap: the shorter greatest gap is before; then the string of the gaps decides, or, if the
-- weight is above a half, that of the complement, the other way round
abbrev pub gaps_key : ℕ → ℕ → ℕ → ℕ → ℕ → Key
gaps_key zero size e p v = record { number = 0; whole = false }
gaps_key (suc k) size e p v =
    let a = gap e p in
    let w = width (a - 1) size in
    let light = first_key (gaps_key k) w (e * a - p) e v in
    above (start (a - 1) size) (if a == 2 then back_from (w - 1) (first_key (gaps_key k) (w - 1) (p - e) p (p - v)) else light)

-- the keys of whole strings: those of the strings that end with their first gap are the last
abbrev pub keys : ℕ
keys = 2 ^ 62

-- the key of the string of e/p from phase v on, behind a gap, by k rounds of Euclid's algorithm at the most
abbrev pub key_behind : ℕ → ℕ → ℕ → ℕ → Key
key_behind k e p v = gaps_key k keys e p v

-- the key of the string of e/p from phase r on without its first gap
abbrev pub key_after_gap : ℕ → ℕ → ℕ → ℕ → Key
key_after_gap k e p r =
    let i = gap e (p - r) in
    if r + e * i == p then record { number = keys; whole = true } else key_behind k e p (r + e * i - p)
