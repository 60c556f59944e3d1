use Rattle.std.proofs.Common.{◌≡◌, map}
use Rattle.std.specs.List.{All, range_with_len}
use Rattle.pfx_record.specs.Records.{tasks_of}
use Rattle.pfx_replay.specs.Stated.{plain_of}
use Rattle.pfx_replay_totals.specs.Kept.{IsShare}
use Rattle.pfx_replay_totals.specs.States.{share_in}
use Rattle.pfx_replay_totals.proofs.states.slot_in.Given as goal

abbrev pub invariant-loop-task : goal.invariant-loop-task
invariant-loop-task g l = record {
  shares : l.shares.items ≡ map (share_in g.J.Job.kind (plain_of l.state) (tasks_of l.row)) (range_with_len 0 l.task);
  kept : All IsShare l.shares.items;
}
