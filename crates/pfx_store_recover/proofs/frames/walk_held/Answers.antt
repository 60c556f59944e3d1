use Rattle.std.proofs.Common.{rules}
use Rattle.pfx_store_recover.proofs.Walking.{held_shut, held_wrong, held_on}
use Rattle.pfx_store_recover.proofs.frames.walk_held.Goals as goal

pub returns-then-bytes-at : goal.returns-then-bytes-at
returns-then-bytes-at g c = record {
  device = search rules;
  ends = (c.walk.invariant.order, c.walk.invariant.last);
  exact = λ image is n long.
      held_shut c.args.first c.args.bytes.now image is g.F.Format.codec c.args.number c.walk.at c.walk.last (c.walk.invariant.walks image is) c.walk.invariant.order c.if-bytes-at.true n long;
}

pub returns-in_default : goal.returns-in_default
returns-in_default g c = record {
  device = search rules;
  ends = search rules;
  exact = λ image is n long.
      let wrong = rw c.in_default.is at c.head_at.ensures in
      held_wrong c.args.first c.args.bytes.now image is g.F.Format.codec c.args.number c.walk.at c.walk.last (c.walk.invariant.walks image is) c.walk.invariant.order c.if-bytes-at.false wrong n long;
}

pub walk-preserved : goal.walk-preserved
walk-preserved g c =
    let of = c.in-Some.ensures in
    record {
      order = of.fits;
      last = g.met.F.Format.bounds.after _ _ _ of.after;
      walks = λ image is.
          held_on c.args.first c.args.bytes.now image is g.F.Format.codec c.args.number c.walk.at c.walk.last (c.walk.invariant.walks image is) c.walk.invariant.order c.in-Some.len c.in-Some.next c.if-bytes-at.false of.long of.fits of.after;
    }
