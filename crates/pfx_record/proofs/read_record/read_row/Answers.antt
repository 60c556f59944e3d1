use Rattle.std.proofs.Common.{◌≡◌, ◌∙◌, length, arith}
use Rattle.pfx_record.proofs.Rows.{row_begins, row_more, no_row, row_fits, row_stands}
use Rattle.pfx_record.proofs.read_record.read_row.Goals as goal

pub loop-i-init : goal.loop-i-init
loop-i-init g c = record {
  so_far = rw c.in_ok-row.ensures.items (row_begins g.J.Job.kind c.args.bytes.now);
  count = c.in_ok-row.ensures.len;
  room = omega (arith, c.in_ok-row.ensures.exact);
  inside = omega (arith, c.requires.some);
}

pub place_at-requires : goal.place_at-requires
place_at-requires g c = c.loop-i.invariant.inside

pub returns-in-None-clause-none : goal.returns-in-None-clause-none
returns-in-None-clause-none g c =
    no_row g.J.Job.kind g.met.J.Job.laws c.args.bytes.now c.loop-i.row.items c.loop-i.at c.loop-i.low c.args.form c.loop-i.invariant.so_far c.in-None.ensures.none (omega (arith, c.loop-i.invariant.count, c.loop-i.row.ok.0)) c.requires.tag

pub push_reserved-requires : goal.push_reserved-requires
push_reserved-requires g c = omega (arith, c.loop-i.invariant.count, c.loop-i.invariant.room)

pub loop-i-preserved : goal.loop-i-preserved
loop-i-preserved g c =
    let K = g.J.Job.kind in
    let more = row_more K c.args.bytes.now c.loop-i.row.items c.loop-i.at c.loop-i.low c.in-Some.place c.in-Some.taken c.loop-i.invariant.so_far c.in-Some.ensures.low c.in-Some.ensures.small c.in-Some.ensures.found c.in-Some.ensures.long in
    record {
      so_far = rw (c.push_reserved.ensures.items, c.from-low.ensures) more;
      count = omega (arith, c.push_reserved.ensures.len, c.loop-i.invariant.count);
      room = omega (arith, c.push_reserved.ensures.capacity, c.loop-i.invariant.room);
      inside = c.in-Some.ensures.inside;
    }

pub returns-clause-found : goal.returns-clause-found
returns-clause-found g c =
    let K = g.J.Job.kind in
    let so_far = c.loop-i.invariant.so_far in
    let count : length c.loop-i.row.items ≡ c.args.form.workers = omega (arith, c.loop-i.invariant.count, c.loop-i.row.ok.0) in
    record {
      fits = row_fits K c.args.bytes.now c.loop-i.row.items c.loop-i.at c.loop-i.low c.args.form so_far count;
      begins = row_stands K c.args.bytes.now c.loop-i.row.items c.loop-i.at c.loop-i.low so_far c.requires.some c.requires.tag;
      long = so_far.place ∙ omega arith;
    }
