use Rattle.std.proofs.Common.{◌≡◌, ◌∙◌, ◌<◌, ◌+◌, ◌++◌, ◌∷◌, [], ℕ, List, sym, ap, subst, arith, length, map}
use Rattle.std.proofs.lemmas.List.{map_push, length-map, take_rest}
use Rattle.pfx_record.specs.Records.{Recorded, plain}
use Rattle.pfx_record.specs.Reading.{IsRecord, NoRecord}
use Rattle.pfx_record.proofs.Bodies.{SoFar, so_far_begins, so_far_more, record_inside, stop_short, stop_over, all_read}
use Rattle.pfx_record.proofs.read.read_records.Goals as goal

pub loop-i-init : goal.loop-i-init
loop-i-init g c = record {
  so_far = rw c.in_ok-records.ensures.items (so_far_begins g.J.Job.kind g.met.J.Job.laws c.args.form c.args.body.now);
  count = c.in_ok-records.ensures.len;
  room = omega (arith, c.in_ok-records.ensures.exact, c.from.ensures);
  inside = omega arith;
}

pub slice_bounds-read_record-count : goal.slice_bounds-read_record-count
slice_bounds-read_record-count g c = c.loop-i.invariant.inside

pub returns-in-None-clause-stops : goal.returns-in-None-clause-stops
returns-in-None-clause-stops g c =
    let K = g.J.Job.kind in
    let read = map plain c.loop-i.records.items in
    let short : length read < c.args.count = omega (arith, length-map c.loop-i.records.items (plain {J = g.row.J.Denot}), c.loop-i.invariant.count, c.loop-i.records.ok.0, c.loop-i-test.true) in
    let none = rw c.in-None.is at (c.in_ok-read_record.ensures.none) in
    stop_short K g.met.J.Job.laws c.args.form c.args.body.now read c.loop-i.at c.args.count c.loop-i.invariant.so_far short
    (subst (λ (l : List ℕ). NoRecord K c.args.form l) (take_rest c.args.body.now c.loop-i.at) none)

pub loop-i-preserved : goal.loop-i-preserved
loop-i-preserved g c =
    let K = g.J.Job.kind in
    let L = g.met.J.Job.laws in
    let body = c.args.body.now in
    let found = rw c.in-Some.is at (c.in_ok-read_record.ensures.found) in
    let is = subst (λ (l : List ℕ). IsRecord K c.args.form l (plain c.in-Some.record) c.in-Some.taken) (take_rest body c.loop-i.at) found in
    let more = so_far_more K L c.args.form body (map plain c.loop-i.records.items) c.loop-i.at (plain c.in-Some.record) c.in-Some.taken c.loop-i.invariant.so_far is in
    let pushed : map plain c.push_reserved.new.self.items ≡ map plain c.loop-i.records.items ++ plain c.in-Some.record ∷ [] = ap (map plain) c.push_reserved.ensures.items ∙ map_push plain c.loop-i.records.items c.in-Some.record in
    record {
      so_far = subst (λ (l : List (Recorded g.row.J.Denot)). SoFar K L c.args.form body l (c.loop-i.at + c.in-Some.taken)) (sym pushed) more;
      count = omega (arith, c.push_reserved.ensures.len, c.loop-i.invariant.count);
      room = omega (arith, c.push_reserved.ensures.capacity, c.loop-i.invariant.room);
      inside = record_inside K L c.args.form body c.loop-i.at (plain c.in-Some.record) c.in-Some.taken c.loop-i.invariant.inside is;
    }

pub returns-then-at-body-clause-stops : goal.returns-then-at-body-clause-stops
returns-then-at-body-clause-stops g c =
    let read = map plain c.loop-i.records.items in
    let all : length read ≡ c.args.count = omega (arith, length-map c.loop-i.records.items (plain {J = g.row.J.Denot}), c.loop-i.invariant.count, c.loop-i.records.ok.0, c.loop-i-test.false) in
    stop_over g.J.Job.kind g.met.J.Job.laws c.args.form c.args.body.now read c.loop-i.at c.args.count c.loop-i.invariant.so_far all c.if-at-body.true

pub returns-clause-found : goal.returns-clause-found
returns-clause-found g c =
    let read = map plain c.loop-i.records.items in
    let all : length read ≡ c.args.count = omega (arith, length-map c.loop-i.records.items (plain {J = g.row.J.Denot}), c.loop-i.invariant.count, c.loop-i.records.ok.0, c.loop-i-test.false) in
    all_read g.J.Job.kind g.met.J.Job.laws c.args.form c.args.body.now read c.loop-i.at c.args.count c.loop-i.invariant.so_far all c.if-at-body.false
