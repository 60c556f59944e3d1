-- What is so of each share of a slot.
use Rattle.std.specs.Prelude.{◌<◌, ◌≤◌, ◌^◌}
use Rattle.pfx_replay_totals.specs.declared.share.SlotShare.{SlotShare}

-- the weight lies between zero and one, and its period is at most the longest hyperperiod
pub record IsShare (s : SlotShare) : Type 0 where
  pub below : s.e < s.p
  pub limit : s.p ≤ 2 ^ 20
