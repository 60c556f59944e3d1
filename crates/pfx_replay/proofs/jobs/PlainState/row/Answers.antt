use Rattle.std.proofs.Common.{arith}
use Rattle.std.proofs.lemmas.Result.{IfOk-weaker}
use Rattle.pfx_replay.specs.Stated.{plain_of}
use Rattle.pfx_replay.proofs.Rows.{found_row, last_slot}
use Rattle.pfx_replay.proofs.jobs.PlainState.row.Goals as goal

pub returns-then-self : goal.returns-then-self
returns-then-self g c = last_slot (plain_of c.args.self.now) (omega (arith, c.if-self.true))

pub returns : goal.returns
returns g c = IfOk-weaker c.row.result _ _ (λ found h. found_row (plain_of c.args.self.now) found (omega (arith, c.if-self.false)) h) c.row.ensures
