use Rattle.std.proofs.Common.{◌≡◌, length, take}
use Rattle.pfx_weights.specs.Rows.{members, marked_in}
use Rattle.pfx_weights.proofs.rows.Row.set_by_each.Given as goal

abbrev pub invariant-loop-x : goal.invariant-loop-x
invariant-loop-x l = (length l.self-inside.places ≡ 64) × (l.found ≡ length (members l.x (marked_in l.marks))) × (take l.found l.self-inside.places ≡ members l.x (marked_in l.marks))
