use Rattle.std.proofs.Common.{ap, ◌∙◌}
use Rattle.serde_json.specs.Written.{has_float}
use Rattle.pfx_program_objects.proofs.Whole.{entry_whole}
use Rattle.pfx_program_objects.proofs.entry.entry_line.Goals as goal

pub object_line-requires : goal.object_line-requires
object_line-requires c = record {
  whole = ap has_float c.in_ok-object.ensures ∙ entry_whole c.args.entry;
}
