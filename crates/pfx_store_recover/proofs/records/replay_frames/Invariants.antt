use Rattle.std.proofs.Common.{◌≡◌, ◌≤◌, ◌+◌, ◌-◌, ℕ, List, length, drop}
use Rattle.pfx_store_image.specs.Recovery.{replay}
use Rattle.pfx_store_recover.specs.Walking.{Fill}
use Rattle.pfx_store_recover.proofs.records.replay_frames.Given as goal

abbrev pub invariant-frames : goal.invariant-frames
invariant-frames g l =
    let K = g.F.Format.codec in
    record {
      inside : l.at ≤ length l.bytes;
      fits : (h : _) → g.F.Format.fits h l.fn.state → g.F.Format.fits h l.reached;
      run : (frames : List (List ℕ)) → Fill frames l.bytes → (rest : List (List ℕ)) × Fill rest (drop l.at l.bytes) × (replay K l.gate l.fn.state frames ≡ replay K (l.gate + l.at) l.reached rest);
    }

abbrev pub decreases-frames : goal.decreases-frames
decreases-frames g l = length l.bytes - l.at
