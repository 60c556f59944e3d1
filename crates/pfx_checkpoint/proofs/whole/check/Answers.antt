use Rattle.std.proofs.Common.{sym, ◌∙◌}
use Rattle.std.proofs.lemmas.Bool.{true≢false}
use Rattle.pfx_checkpoint.proofs.WholeBytes.{checked_is, checked_none}
use Rattle.pfx_checkpoint.proofs.whole.check.Goals as goal

pub returns-then-is_whole : goal.returns-then-is_whole
returns-then-is_whole g c = checked_is g.J.Job.kind c.args.bytes.now c.args.state (c.is_whole.ensures.0 c.if-is_whole.true)

pub returns-else-is_whole : goal.returns-else-is_whole
returns-else-is_whole g c = checked_none g.J.Job.kind c.args.bytes.now c.args.state (λ same. true≢false (sym (c.is_whole.ensures.1 same) ∙ c.if-is_whole.false))
