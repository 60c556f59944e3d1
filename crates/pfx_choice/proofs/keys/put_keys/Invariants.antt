use Rattle.std.proofs.Common.{◌≡◌, ℕ, ◌<◌, ◌≤◌, ◌-◌, length}
use Rattle.pfx_symbols.specs.RankKeys.{rank_key}
use Rattle.pfx_columns.specs.Ledgers.{total, rank}
use Rattle.pfx_choice.specs.Places.{place}
use Rattle.pfx_choice.specs.Refined.{key_in}
use Rattle.pfx_choice.proofs.keys.put_keys.Given as goal

abbrev pub invariant-tasks : goal.invariant-tasks
invariant-tasks l = record {
  keys : length l.of_tasks ≡ total l.ledger;
  within : l.x ≤ total l.ledger;
  done : (y : ℕ) → y < l.x → place l.ledger y ≡ l.d → key_in l.of_tasks y ≡ rank_key l.d l.rounds (rank l.ledger y);
}

abbrev pub decreases-tasks : goal.decreases-tasks
decreases-tasks l = length l.places - l.x
