use Rattle.std.proofs.Common.{◌≡◌, ◌<◌, length, take, arith}
use Rattle.std.proofs.lemmas.List.{length-take-le}
use Rattle.pfx_program_script.proofs.Passing.{put_over}
use Rattle.pfx_program_script.proofs.whole.Whole.look.Goals as goal

pub returns-clause-passes : goal.returns-clause-passes
returns-clause-passes g c rest =
    let long : length (take c.args.count c.args.bytes.now) ≡ c.args.count = length-take-le c.args.count c.args.bytes.now c.requires.read.1 in
    let less : c.passed-kept.result.0 < c.args.count = omega (arith, long) in
    let within : c.passed-kept.result.0 < length (take c.args.count c.args.bytes.now) = omega (arith, long) in
    put_over c.args.self.now.spot c.passed-kept.result.1 c.args.bytes.now rest c.args.count c.passed-kept.result.0 c.requires.read.1 less
    (c.passed-kept.ensures.over within) (c.passed-kept.ensures.passes rest)
