use Rattle.std.proofs.Common.{◌≡◌, take}
use Rattle.std.specs.List.{fold}
use Rattle.pfx_program_script.specs.Ends.{further}
use Rattle.pfx_program_script.proofs.ends.gone_by.Given as goal

-- so far the bytes before have gone
abbrev pub invariant-bytes : goal.invariant-bytes
invariant-bytes l = l.now ≡ fold further l.fn.so_far (take l.i l.bytes)
