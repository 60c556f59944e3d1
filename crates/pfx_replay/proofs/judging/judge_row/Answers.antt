use Rattle.pfx_record.specs.Records.{ran}
use Rattle.pfx_replay.specs.Stated.{plain_of}
use Rattle.pfx_replay.proofs.Wrongs.{number_below}
use Rattle.pfx_replay.proofs.judging.judge_row.Goals as goal

pub ran-requires-clause-number : goal.ran-requires-clause-number
ran-requires-clause-number g c = number_below g.J.Job.kind (plain_of c.args.state) (ran c.args.row.now) c.requires
