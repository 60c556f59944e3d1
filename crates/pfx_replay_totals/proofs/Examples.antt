-- Rows that show what each figure counts, and where a window ends.
use Rattle.std.proofs.Common.{◌≡◌, ℕ, Bool, true, false, List, [], ◌∷◌, Option, Some, None, pos, refl, codes}
use Rattle.std.specs.Fmt.{digits}
use Rattle.std.specs.Prelude.{ℤ, negsuc}
use Rattle.pfx_replay_totals.specs.Choices.{is_asked}
use Rattle.pfx_replay_totals.specs.Figures.{Figures, due_of, figures_of}
use Rattle.pfx_replay_totals.specs.Lines.{count_cells, counts_text, csv_line, decimal_cells, decimal_text, due_text, end_text, exact_cells, figures_line, figures_text, head_cells, head_text, lag_cells, lags_text, ratio_text, six_digits}
use Rattle.pfx_replay_totals.specs.Slots.{Slot}
use Rattle.pfx_replay_totals.specs.Windows.{Window, alone, windows, windows_from}
use Rattle.pfx_replay_totals.specs.declared.choice.Choice.{Choice}
use Rattle.pfx_replay_totals.specs.declared.share.SlotShare.{SlotShare}

-- a task of weight 1/2: whether it got the slot, whether it had an open job, and its lag's numerator at the end
abbrev half : Bool → Bool → ℤ → List SlotShare
half got busy lag = record { e = 1; p = 2; got = got; busy = busy; lag = lag } ∷ []

abbrev slot : ℕ → ℕ → List SlotShare → Slot
slot at since shares = record { at = at; since = since; shares = shares }

-- three slots: it got the first with an open job, not the second, and the third with none
abbrev three : Window
three = record { first = slot 5 0 (half true true (negsuc 0)); others = slot 6 0 (half false true (pos 0)) ∷ slot 7 0 (half true false (negsuc 0)) ∷ [] }

pub figures_of_three : figures_of three 0 ≡ record { from = 5; to = 8; task = 0; e = 1; p = 2; got = 2; used = 1; wasted = 1; least = negsuc 0; greatest = pos 0; last = negsuc 0 }
figures_of_three = refl

-- it was due three halves
pub due_of_three : due_of (figures_of three 0) ≡ 3
due_of_three = refl

abbrev by_twos : Choice
by_twos = record { from = 1; to = Some 7; every = Some 2 }

abbrev at_since : ℕ → ℕ → Slot
at_since at since = slot at since []

-- windows of two slots from slot 1 on: new weights at slot 4 end the second one early, and slot 7 isn't asked for
pub cut_at_new_weights : windows by_twos (at_since 0 0 ∷ at_since 1 0 ∷ at_since 2 0 ∷ at_since 3 0 ∷ at_since 4 4 ∷ at_since 5 4 ∷ at_since 6 4 ∷ at_since 7 4 ∷ [])
    ≡ record { first = at_since 1 0; others = at_since 2 0 ∷ [] } ∷ alone (at_since 3 0) ∷ record { first = at_since 4 4; others = at_since 5 4 ∷ [] } ∷ alone (at_since 6 4) ∷ []
cut_at_new_weights = refl

-- without a limit there is one window, but for new weights
abbrev whole : Choice
whole = record { from = 0; to = None; every = None }

pub one_window : windows whole (at_since 0 0 ∷ at_since 1 0 ∷ at_since 2 0 ∷ []) ≡ record { first = at_since 0 0; others = at_since 1 0 ∷ at_since 2 0 ∷ [] } ∷ []
one_window = refl

-- decimals are cut towards zero, and a sign stays
pub third : decimal_text (negsuc 0) 3 ≡ codes "-0.333333"
unfolding decimal_text six_digits digits
third = refl

pub seven_thirds : decimal_text (pos 7) 3 ≡ codes "2.333333"
unfolding decimal_text six_digits digits
seven_thirds = refl

pub with_zeros : decimal_text (pos 3) 40 ≡ codes "0.075000"
unfolding decimal_text six_digits digits
with_zeros = refl

pub too_small : decimal_text (negsuc 0) 1048576 ≡ codes "-0.000000"
unfolding decimal_text six_digits digits
too_small = refl

-- the three slots as a line, and as a row of CSV
pub line_of_three : figures_line (figures_of three 0) ≡ codes "5..8 task 0 due 3/2 got 2 used 1 wasted 1 lag -1/2 to 0/2, at the end -1/2\n"
unfolding figures_text head_text due_text counts_text lags_text end_text ratio_text digits
line_of_three = refl

pub row_of_three : csv_line (figures_of three 0) ≡ codes "5,8,0,,3/2,2,1,,,1,-1/2,0/2,-1/2,1.500000,-0.500000,0.000000,-0.500000\n"
unfolding exact_cells head_cells due_text count_cells lag_cells decimal_cells ratio_text decimal_text six_digits digits
row_of_three = refl
