use Rattle.std.proofs.Common.{◌≡◌, ◌<◌, ◌≤◌, ◌-◌, length, take, slice_index_or}
use Rattle.pfx_weights.specs.Rows.{members, marked_in}
use Rattle.pfx_weights.proofs.rows.Row.set_by_search.Given as goal

abbrev pub invariant-marked : goal.invariant-marked
invariant-marked l = record {
  long : length l.self-inside.places ≡ 64;
  within : l.x ≤ length l.marks;
  at : l.x < length l.marks → slice_index_or l.marks l.x 0 ≡ 1;
  number : l.count ≡ length (members l.x (marked_in l.marks));
  taken : take l.count l.self-inside.places ≡ members l.x (marked_in l.marks);
}

abbrev pub decreases-marked : goal.decreases-marked
decreases-marked l = length l.marks - l.x
