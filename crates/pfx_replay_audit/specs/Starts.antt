-- The state that a log begins at.
use Rattle.std.specs.Prelude.{ℕ, ◌+◌, ◌-◌, ◌/◌, ◌==◌, ◌&&◌, nat_le, if◌then◌else◌, Bool, List, length, take, drop, Option, None}
use Rattle.byteorder.specs.Endian.{little_number}
use Rattle.pfx_checkpoint.specs.Whole.{read_whole, whole_len}
use Rattle.pfx_store_header.specs.Headers.{this_version}
use Rattle.pfx_jobs.specs.Kind.{Kind}
use Rattle.pfx_machine.specs.Plain.{Plain}

-- how many bytes the state of n real tasks takes: those of a checkpoint area, and four for the length of a segment
abbrev pub start_len : ℕ → ℕ
start_len n = whole_len n + 4

-- how many real tasks a state of so many bytes has
abbrev pub real_in : ℕ → ℕ
real_in len = (len - start_len 0) / 145

-- there are just as many bytes as the state of some real tasks takes, 1,024 at most
abbrev pub is_long : ℕ → Bool
is_long len = (len == start_len (real_in len)) && nat_le (real_in len) 1024

-- the state that these bytes are: those of a checkpoint area, and behind them how many bytes a segment of the store has
abbrev pub segment_in : List ℕ → ℕ
segment_in bytes = little_number 4 (drop (length bytes - 4) bytes)

abbrev pub body_in : List ℕ → List ℕ
body_in bytes = take (length bytes - 4) bytes

abbrev pub state_in : {J : Type 0} → Kind J → List ℕ → Option (Plain J)
state_in K bytes = if is_long (length bytes) then read_whole K (real_in (length bytes)) (segment_in bytes) (body_in bytes) else None

-- the state that a log of a store's file of this version begins at
abbrev pub read_start : {J : Type 0} → Kind J → ℕ → List ℕ → Option (Plain J)
read_start K version bytes = if version == this_version then state_in K bytes else None
