-- What a task was due and got in a window.
use Rattle.std.specs.Prelude.{ℕ, ◌*◌, ◌-◌, ◌&&◌, not, if◌then◌else◌, int_lt, List, length, map, ℤ}
use Rattle.std.specs.List.{count_by, flat_map, fold, range_with_len}
use Rattle.pfx_replay_totals.specs.Slots.{Slot, share_of}
use Rattle.pfx_replay_totals.specs.Windows.{Window, end_of, slots_of, windows}
use Rattle.pfx_replay_totals.specs.declared.choice.Choice.{Choice}
use Rattle.pfx_replay_totals.specs.declared.total.Total.{Total}

-- the first slot of the window and the slot behind it; the task and its weight e/p; how many of the slots it got, in how many of these it
-- had an open job at the beginning, and in how many it hadn't; and the least, the greatest and the last of its lags at the slots' ends,
-- over p
pub record Figures : Type 0 where
  pub from : ℕ
  pub to : ℕ
  pub task : ℕ
  pub e : ℕ
  pub p : ℕ
  pub got : ℕ
  pub used : ℕ
  pub wasted : ℕ
  pub least : ℤ
  pub greatest : ℤ
  pub last : ℤ

abbrev pub figures : Total → Figures
figures t = record {
  from = t.from;
  to = t.to;
  task = t.task;
  e = t.e;
  p = t.p;
  got = t.got;
  used = t.used;
  wasted = t.wasted;
  least = t.lag_least;
  greatest = t.lag_greatest;
  last = t.lag_end;
}

-- what the task was due, over p: its weight for each slot
abbrev pub due_of : Figures → ℕ
due_of f = f.e * (f.to - f.from)

abbrev pub lesser : ℤ → ℤ → ℤ
lesser y z = if int_lt z y then z else y

abbrev pub greater : ℤ → ℤ → ℤ
greater y z = if int_lt y z then z else y

-- a task's lags at the ends of a window's further slots, and of its first
abbrev pub lags_of : Window → ℕ → List ℤ
lags_of w x = map (λ s. (share_of s x).lag) w.others

abbrev pub first_lag : Window → ℕ → ℤ
first_lag w x = (share_of w.first x).lag

abbrev pub figures_of : Window → ℕ → Figures
figures_of w x = record {
  from = w.first.at;
  to = end_of w;
  task = x;
  e = (share_of w.first x).e;
  p = (share_of w.first x).p;
  got = count_by (λ s. (share_of s x).got) (slots_of w);
  used = count_by (λ s. (share_of s x).got && (share_of s x).busy) (slots_of w);
  wasted = count_by (λ s. (share_of s x).got && not (share_of s x).busy) (slots_of w);
  least = fold lesser (first_lag w x) (lags_of w x);
  greatest = fold greater (first_lag w x) (lags_of w x);
  last = fold (λ y z. z) (first_lag w x) (lags_of w x);
}

-- those of each task of a window, and of each window of some slots
abbrev pub all_figures : Window → List Figures
all_figures w = map (figures_of w) (range_with_len 0 (length w.first.shares))

abbrev pub figures_in : Choice → List Slot → List Figures
figures_in c slots = flat_map all_figures (windows c slots)
