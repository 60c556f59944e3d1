use Rattle.std.proofs.Common.{map, subst, IsTrue}
use Rattle.std.specs.Prelude.{◌↔◌}
use Rattle.pfx_replay.specs.Stated.{plain_of}
use Rattle.pfx_replay_audit.specs.Marks.{Meets}
use Rattle.pfx_replay_audit.proofs.log.meets_at.Goals as goal

pub returns : goal.returns
returns g c = subst (λ t. IsTrue c.meets.result ↔ Meets (map plain_of c.args.marks.now) t) c.in_ok-plain.ensures c.meets.ensures
