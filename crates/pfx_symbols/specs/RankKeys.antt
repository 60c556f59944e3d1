-- Keys of ranks: numbers that stand in the order of the ranks' substrings, the greater substring's being the lesser.
use Rattle.std.specs.Prelude.{ℕ, ◌+◌, ◌-◌, ◌*◌, ◌/◌, ◌%◌, ◌^◌, ◌==◌, nat_lt, false, if◌then◌else◌}
use Rattle.pfx_symbols.specs.declared.keys.Key.{Key}
use Rattle.pfx_symbols.specs.Keys.{gap, keys, key_after_gap}
use Rattle.pfx_symbols.specs.Ranks.{Parts}

-- the phase from which a rank's substring is spelled
abbrev pub next_of : Parts → ℕ
next_of r = (r.phase + r.e) % r.p

-- a string's first gap
abbrev pub first_gap : Parts → ℕ
first_gap r = gap r.e (r.p - next_of r)

-- the shorter first gap is before; of those of the guessed length the keys behind it decide, of longer ones too, but not to the end
abbrev pub by_gap : ℕ → ℕ → Key → Key
by_gap guess i behind =
    if i == guess then record { number = behind.number + 1; whole = behind.whole }
    else record { number = if nat_lt i guess then 0 else keys + i * 2 ^ 40 + behind.number / 2 ^ 22; whole = false }

-- the key of the rank's substring, by n rounds of Euclid's algorithm at the most
abbrev pub rank_key : ℕ → ℕ → Parts → Key
rank_key guess n r = by_gap guess (first_gap r) (key_after_gap n r.e r.p (next_of r))
