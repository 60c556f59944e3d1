use Rattle.std.proofs.Common.{sym, ◌∙◌}
use Rattle.pfx_program_script.specs.Whole.{whole}
use Rattle.pfx_program_script.proofs.Passing.{put-first}
use Rattle.pfx_program_script.proofs.whole.Whole.end.Goals as goal

pub returns-clause-ends : goal.returns-clause-ends
unfolding whole
returns-clause-ends g c = rw (sym c.is_quoted.ensures ∙ c.if-not-is_quoted.false) (sym (put-first c.args.bytes.now c.requires))
