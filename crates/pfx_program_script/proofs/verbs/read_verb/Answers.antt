use Rattle.std.proofs.Common.{arith}
use Rattle.std.proofs.lemmas.Grind.{common_steps}
use Rattle.csv.specs.Records.{fields_of}
use Rattle.pfx_program_script.specs.Verbs.{verb_of}
use Rattle.pfx_program_script.proofs.Texts.{is_utf8-AllText}
use Rattle.pfx_program_script.proofs.verbs.read_verb.Goals as goal

pub returns-then-len-ne5 : goal.returns-then-len-ne5
unfolding verb_of
returns-then-len-ne5 c = grind (arith, common_steps)

pub returns : goal.returns
unfolding verb_of
returns c = let text = is_utf8-AllText (fields_of c.args.row.now) c.requires in rw text (grind (arith, common_steps))
