use Rattle.std.proofs.Common.{◌≡◌, ◌+◌, ℕ, map, length, get_or, take}
use Rattle.std.specs.List.{All, range_with_len}
use Rattle.pfx_replay_totals.specs.Adding.{more}
use Rattle.pfx_replay_totals.specs.Figures.{Figures, figures}
use Rattle.pfx_replay_totals.specs.Slots.{share_of, slot_of}
use Rattle.pfx_replay_totals.proofs.Gathering.{mores}
use Rattle.pfx_replay_totals.proofs.window.Window.with.Given as goal

abbrev pub invariant-loop-task : goal.invariant-loop-task
invariant-loop-task l = record {
  totals : map figures l.totals.items ≡ mores (slot_of l.slot) 0 (map figures (take l.task l.self.totals.items));
  ends : All (λ t. t.to ≡ l.self.to + 1) l.totals.items;
}
