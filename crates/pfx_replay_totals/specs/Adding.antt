-- One slot more: from the figures of a window to those of the next. That this agrees with the windows as a whole is proved.
use Rattle.std.specs.Prelude.{◌≡◌, ℕ, ◌+◌, ◌&&◌, not, List, [], ◌∷◌, ◌++◌, map, Option, Some, None}
use Rattle.std.specs.List.{flat_map}
use Rattle.pfx_weights.specs.Rows.{one}
use Rattle.pfx_replay_totals.specs.Figures.{Figures, all_figures, figures, greater, lesser}
use Rattle.pfx_replay_totals.specs.Slots.{Slot}
use Rattle.pfx_replay_totals.specs.Windows.{Window as Slots, end_of, windows}
use Rattle.pfx_replay_totals.specs.declared.choice.Choice.{Choice}
use Rattle.pfx_replay_totals.specs.declared.share.SlotShare.{SlotShare}
use Rattle.pfx_replay_totals.specs.declared.totals.Totals.{Totals}
use Rattle.pfx_replay_totals.specs.declared.window.Window.{Window}

-- the figures of the first slot's share
abbrev pub begun : ℕ → ℕ → SlotShare → Figures
begun at x s = record {
  from = at;
  to = at + 1;
  task = x;
  e = s.e;
  p = s.p;
  got = one s.got;
  used = one (s.got && s.busy);
  wasted = one (s.got && not s.busy);
  least = s.lag;
  greatest = s.lag;
  last = s.lag;
}

-- figures with a share more
abbrev pub more : Figures → SlotShare → Figures
more f s = record {
  from = f.from;
  to = f.to + 1;
  task = f.task;
  e = f.e;
  p = f.p;
  got = f.got + one s.got;
  used = f.used + one (s.got && s.busy);
  wasted = f.wasted + one (s.got && not s.busy);
  least = lesser f.least s.lag;
  greatest = greater f.greatest s.lag;
  last = s.lag;
}

-- what is kept is of this window
pub record IsOf (w : Slots) (kept : Window) : Type 0 where
  pub from : kept.from ≡ w.first.at
  pub to : kept.to ≡ end_of w
  pub since : kept.since ≡ w.first.since
  pub totals : map figures kept.totals.items ≡ all_figures w

-- the last window is kept, and figures of those before it were given
pub record IsLast (c : Choice) (given : List Figures) (seen : List Slot) (kept : Window) : Type 0 where
  pub closed : List Slots
  pub last : Slots
  pub are : windows c seen ≡ closed ++ last ∷ []
  pub given_is : given ≡ flat_map all_figures closed
  pub kept_is : IsOf last kept

abbrev pub IsCurrent : Choice → List Figures → List Slot → Option Window → Type 0
IsCurrent c given seen None = (given ≡ []) × (windows c seen ≡ [])
IsCurrent c given seen (Some kept) = IsLast c given seen kept

-- of the slots that were seen these figures were given, and the totals keep those of the window that isn't closed, if there is one
abbrev pub Holds : Totals → List Figures → List Slot → Type 0
Holds t given seen = IsCurrent t.choice given seen t.current
