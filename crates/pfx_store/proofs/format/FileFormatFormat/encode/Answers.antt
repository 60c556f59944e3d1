use Rattle.std.proofs.Common.{rules, sym, ◌∙◌, ap}
use Rattle.pfx_checkpoint.specs.Whole.{whole_len}
use Rattle.pfx_store.proofs.Areas.{spelled_read}
use Rattle.pfx_store.proofs.format.FileFormatFormat.encode.Goals as goal

pub freeze_whole-requires : goal.freeze_whole-requires
freeze_whole-requires g c = c.requires.long ∙ ap whole_len (sym c.requires.state.real)

pub returns : goal.returns
returns g c = record {
  read = spelled_read g.J.Job.kind g.met.J.Job.laws c.args._header.now c.args.state.now c.freeze_whole.new.bytes c.number-number.ensures.state c.requires.state c.freeze_whole.ensures;
  long = search rules;
}
