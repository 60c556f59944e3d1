use Rattle.std.proofs.Common.{◌≡◌, ◌+◌, ◌*◌, ◌++◌, length, take}
use Rattle.pfx_weights.specs.Bytes.{weights_bytes}
use Rattle.pfx_store_header.specs.Headers.{front_bytes, header_len, this_version}
use Rattle.pfx_store_header.proofs.writing.write_header.Given as goal

abbrev pub invariant-loop-task : goal.invariant-loop-task
invariant-loop-task l =
    (take (17 + 8 * l.task) l.out ≡ front_bytes this_version (record { set = l.set; segment = l.segment }) ++ weights_bytes (take l.task l.set.weights))
    × (length l.out ≡ header_len l.set)
