-- Windows: slots one behind the other, in one set's weights.
use Rattle.std.specs.Prelude.{ℕ, ◌+◌, ◌==◌, ◌&&◌, if◌then◌else◌, Bool, List, [], ◌∷◌, ◌++◌, length}
use Rattle.std.specs.List.{filter}
use Rattle.pfx_replay_totals.specs.Choices.{is_asked, is_below}
use Rattle.pfx_replay_totals.specs.Slots.{Slot}
use Rattle.pfx_replay_totals.specs.declared.choice.Choice.{Choice}

pub record Window : Type 0 where
  pub first : Slot
  pub others : List Slot

abbrev pub slots_of : Window → List Slot
slots_of w = w.first ∷ w.others

-- the window of one slot, and a window with a slot more
abbrev pub alone : Slot → Window
alone s = record { first = s; others = [] }

abbrev pub with_slot : Window → Slot → Window
with_slot w s = record { first = w.first; others = w.others ++ s ∷ [] }

-- the slot behind a window
abbrev pub end_of : Window → ℕ
end_of w = w.first.at + length (slots_of w)

-- a slot joins the window before it: it is the next one, no new weights came between, and the window isn't full
abbrev pub joins : Choice → Window → Slot → Bool
joins c w s = (s.at == end_of w) && ((s.since == w.first.since) && is_below (length (slots_of w)) c.every)

-- the windows of slots behind a window which they may join
abbrev pub windows_behind : Choice → Window → List Slot → List Window
windows_behind c w [] = w ∷ []
windows_behind c w (s ∷ slots) = if joins c w s then windows_behind c (with_slot w s) slots else w ∷ windows_behind c (alone s) slots

abbrev pub windows_from : Choice → List Slot → List Window
windows_from c [] = []
windows_from c (s ∷ slots) = windows_behind c (alone s) slots

-- the windows of those slots that are asked for
abbrev pub windows : Choice → List Slot → List Window
windows c slots = windows_from c (filter (λ s. is_asked c s.at) slots)
