-- The codec of small files with a gate before the header: the gate, and a byte for the length of a segment past ten bytes.
use Rattle.std.specs.Prelude.{ℕ, ◌==◌, if◌then◌else◌, List, [], ◌∷◌, Result, Ok, Err}
use Rattle.pfx_disk.specs.declared.gates.TheConstants.{GATE_OPEN}
use Rattle.pfx_store_image.specs.Codec.{Codec}
use Rattle.pfx_store_image.specs.Refusals.{Refusal, NotAStore}
use Rattle.pfx_store_image.specs.ToyCodec.{toy}

-- the header at the front of these bytes
abbrev pub gated_head : List ℕ → Result ℕ Refusal
gated_head [] = Err NotAStore
gated_head (gate ∷ []) = Err NotAStore
gated_head (gate ∷ room ∷ bytes) = if gate == GATE_OPEN then Ok room else Err NotAStore

-- the codec of small files with such a header
abbrev pub gated_toy : Codec ℕ (List ℕ)
gated_toy = record toy { read_head = gated_head }
