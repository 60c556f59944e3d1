use Rattle.std.proofs.Common.{◌≡◌, ◌<◌, ◌≤◌, ◌+◌, ◌-◌, ℕ, length}
use Rattle.pfx_segment.specs.Frames.{read_frames}
use Rattle.pfx_segment.specs.Reading.{views, with_fronts}
use Rattle.pfx_replay.proofs.image.frames_in.Given as goal

abbrev pub invariant-walk : goal.invariant-walk
invariant-walk l =
    record {
      order : l.gate < l.end;
      count : length l.frames.items + l.first ≤ l.gate;
      read : (n : ℕ) → read_frames (length l.frames.items + n) l.first l.end l.image ≡ with_fronts (views l.frames.items) (read_frames n l.gate l.end l.image);
    }

abbrev pub decreases-walk : goal.decreases-walk
decreases-walk l = l.end - l.gate
