use Rattle.std.specs.Str.Parse.{ParsesUnsigned, ExplainsUnsignedError, HasUnsignedDigitsIfOk}
use Rattle.clap.specs.Matches.{found_of}
use Rattle.pfx_program_args.proofs.Numbers.{number_found}
use Rattle.pfx_program_args.proofs.arguments.number_under.Goals as goal

pub returns : goal.returns
returns c =
    number_found 32 _ (λ bs r. ParsesUnsigned 32 10 bs r × ExplainsUnsignedError 10 bs r × HasUnsignedDigitsIfOk bs r) (found_of c.args.matches.now) c.args.name.now c.get_one.result
    c.get_one.ensures.none c.get_one.ensures.value (λ u r g. g.0)
