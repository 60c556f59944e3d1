use Rattle.std.proofs.Common.{◌≡◌, take, false}
use Rattle.std.specs.List.{fold}
use Rattle.pfx_program_script.specs.Whole.{is_over, after}
use Rattle.pfx_program_script.proofs.whole.passed.Given as goal

-- where the bytes so far lead, none of which is over
abbrev pub invariant-bytes : goal.invariant-bytes
invariant-bytes l = record {
  now : l.now ≡ fold after l.fn.spot (take l.i l.bytes);
  on : is_over l.now.mode ≡ false;
}
