use Rattle.std.proofs.Common.{sym, ◌∙◌, ap}
use Rattle.pfx_checkpoint.specs.Whole.{whole_len}
use Rattle.pfx_checkpoint.proofs.WholeBytes.{no_set, of_set, set_real}
use Rattle.pfx_checkpoint.proofs.whole.read_whole.Goals as goal

pub read_of_set-requires : goal.read_of_set-requires
read_of_set-requires g c = c.requires.long ∙ ap whole_len (sym (set_real c.args.real c.args.bytes.now c.in-Ok-Some.set (sym c.in-Ok-Some.ensures ∙ c.in-Ok-Some.field-0-is)))

pub returns-in-Ok-Some : goal.returns-in-Ok-Some
returns-in-Ok-Some g c = of_set g.J.Job.kind c.args.bytes.now c.args.real c.args.segment c.in-Ok-Some.set c.read_of_set.result (sym c.in-Ok-Some.ensures ∙ c.in-Ok-Some.field-0-is) c.read_of_set.ensures

pub returns-in-Ok-None : goal.returns-in-Ok-None
returns-in-Ok-None g c = no_set g.J.Job.kind c.args.bytes.now c.args.real c.args.segment (sym c.in-Ok-None.ensures ∙ c.in-Ok-None.field-0-is)
