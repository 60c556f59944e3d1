use Rattle.std.proofs.Common.{◌≡◌, ◌+◌, map}
use Rattle.std.specs.List.{All, range_with_len}
use Rattle.pfx_replay_totals.specs.Figures.{figures, figures_of}
use Rattle.pfx_replay_totals.specs.Slots.{slot_of}
use Rattle.pfx_replay_totals.specs.Windows.{alone}
use Rattle.pfx_replay_totals.proofs.window.Window.begin.Given as goal

abbrev pub invariant-loop-task : goal.invariant-loop-task
invariant-loop-task l = record {
  totals : map figures l.totals.items ≡ map (figures_of (alone (slot_of l.slot))) (range_with_len 0 l.task);
  ends : All (λ t. t.to ≡ l.at + 1) l.totals.items;
}
