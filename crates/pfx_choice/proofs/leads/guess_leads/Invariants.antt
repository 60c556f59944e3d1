use Rattle.std.proofs.Common.{◌≡◌, ◌≢◌, ℕ, ◌<◌, length, slice_index_or}
use Rattle.pfx_columns.specs.Ledgers.{total}
use Rattle.pfx_choice.specs.Places.{near}
use Rattle.pfx_choice.proofs.leads.guess_leads.Given as goal

abbrev pub invariant-loop-x : goal.invariant-loop-x
invariant-loop-x l = (length l.guesses ≡ total l.ledger) × ((y : ℕ) → y < l.x → slice_index_or l.guesses y 0 ≢ 255 → slice_index_or l.guesses y 0 ≡ near l.ledger y)
