use Rattle.std.proofs.Common.{◌≡◌, ◌≤◌, ◌-◌, length}
use Rattle.pfx_front.specs.Closing.{HaveLooked}
use Rattle.pfx_front.proofs.closing.look_all.Given as goal

abbrev pub invariant-loop-i : goal.invariant-loop-i
invariant-loop-i g l = HaveLooked l.last l.fn.readers.items l.readers.items l.looked.items × (length l.looked.items ≡ l.i)
    × (length l.readers.items ≡ length l.fn.readers.items) × (l.i ≤ length l.readers.items)

abbrev pub decreases-loop-i : goal.decreases-loop-i
decreases-loop-i g l = length l.readers.items - l.i
