use Rattle.std.proofs.Common.{rules, sym, ◌∙◌, ap}
use Rattle.pfx_checkpoint.specs.Spelling.{state_len}
use Rattle.pfx_store_version_one.proofs.Keeping.{spelled_read}
use Rattle.pfx_store_migrate.proofs.format.OldFormatFormat.encode.Goals as goal

pub freeze-requires : goal.freeze-requires
freeze-requires g c = c.requires.long ∙ ap state_len (sym c.requires.state.set)

pub returns : goal.returns
returns g c = record {
  read = spelled_read g.J.Job.kind g.met.J.Job.laws c.args._header.now c.args.state.now c.freeze.new.bytes c.number-number.ensures.state c.requires.state c.freeze.ensures;
  long = search rules;
}
