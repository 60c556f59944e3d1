use Rattle.std.proofs.Common.{◌≡◌, map}
use Rattle.pfx_program_set.specs.Views.{task_view}
use Rattle.pfx_program_draw.specs.Drawing.{letters}
use Rattle.pfx_program_draw.specs.Each.{most}
use Rattle.pfx_program_draw.proofs.drawing.most_letters.Given as goal

abbrev pub invariant-loop-x : goal.invariant-loop-x
invariant-loop-x l = l.most ≡ most (letters (map task_view l.tasks)) l.x
