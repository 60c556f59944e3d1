use Rattle.std.proofs.Common.{◌≡◌, ◌++◌, map}
use Rattle.pfx_program_set.specs.Views.{task_view}
use Rattle.pfx_program_draw.specs.Drawing.{lane_of}
use Rattle.pfx_program_draw.specs.Each.{each}
use Rattle.pfx_program_draw.proofs.drawing.put_lanes.Given as goal

-- the lanes so far were put
abbrev pub invariant-loop-x : goal.invariant-loop-x
invariant-loop-x l = l.text.items ≡ l.fn.text.items ++ each (lane_of l.fn.s (map task_view l.tasks) l.ledger l.rows) l.x
