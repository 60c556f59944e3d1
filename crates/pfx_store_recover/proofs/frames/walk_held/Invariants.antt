use Rattle.std.proofs.Common.{◌≡◌, ◌<◌, ◌+◌, ◌-◌, ◌^◌, ℕ, List, length, take, drop}
use Rattle.pfx_store_recover.proofs.Walking.{WalksTo}
use Rattle.pfx_store_recover.proofs.frames.walk_held.Given as goal

abbrev pub invariant-walk : goal.invariant-walk
invariant-walk g l =
    let K = g.F.Format.codec in
    record {
      order : l.at < length l.bytes;
      last : l.last < 2 ^ 48;
      walks : (image : List ℕ) → l.bytes ≡ take (length l.bytes) (drop l.first image) → WalksTo K l.first (l.first + length l.bytes) l.number image (take l.at l.bytes) (l.first + l.at) l.last;
    }

abbrev pub decreases-walk : goal.decreases-walk
decreases-walk g l = length l.bytes - l.at
