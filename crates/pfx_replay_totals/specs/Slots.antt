-- Slots that ran, and what each gave to each task.
use Rattle.std.specs.Prelude.{ℕ, ◌<◌, ◌≤◌, ◌^◌, false, List, pos, slice_index_or}
use Rattle.pfx_replay_totals.specs.declared.share.SlotShare.{SlotShare}
use Rattle.pfx_replay_totals.specs.declared.slot.SlotShares.{SlotShares}

-- a slot that ran: its number, the slot at which the weights in force came into force, and each real task's share
pub record Slot : Type 0 where
  pub at : ℕ
  pub since : ℕ
  pub shares : List SlotShare

abbrev pub slot_of : SlotShares → Slot
slot_of s = record { at = s.at; since = s.since; shares = s.shares.items }

-- the share of a task that isn't there
abbrev pub no_share : SlotShare
no_share = record { e = 0; p = 0; got = false; busy = false; lag = pos 0 }

-- a task's share of a slot
abbrev pub share_of : Slot → ℕ → SlotShare
share_of s x = slice_index_or s.shares x no_share
