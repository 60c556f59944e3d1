use Rattle.std.proofs.Common.{ap, ◌∙◌, option_map}
use Rattle.serde_json.specs.Written.{has_float}
use Rattle.pfx_program_objects.proofs.Whole.{error_whole}
use Rattle.pfx_program_objects.proofs.said.error_line.Goals as goal

pub object_line-requires : goal.object_line-requires
object_line-requires c = record {
  whole = ap has_float c.in_ok-object.ensures ∙ error_whole c.args.fault (option_map (λ n. n.now) c.args.note);
}
