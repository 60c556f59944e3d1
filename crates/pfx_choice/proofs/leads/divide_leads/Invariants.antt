use Rattle.std.proofs.Common.{◌≡◌, ℕ, ◌<◌, ◌≤◌, ◌-◌, length, slice_index_or}
use Rattle.pfx_columns.specs.Ledgers.{total}
use Rattle.pfx_choice.specs.Places.{near}
use Rattle.pfx_choice.proofs.leads.divide_leads.Given as goal

abbrev pub invariant-unknown : goal.invariant-unknown
invariant-unknown l = record {
  long : length l.leads ≡ total l.ledger;
  within : l.x ≤ total l.ledger;
  done : (y : ℕ) → y < l.x → slice_index_or l.leads y 0 ≡ near l.ledger y;
  left : (y : ℕ) → l.x ≤ y → slice_index_or l.leads y 0 ≡ slice_index_or l.guesses y 0;
}

abbrev pub decreases-unknown : goal.decreases-unknown
decreases-unknown l = length l.guesses - l.x
