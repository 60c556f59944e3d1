use Rattle.std.proofs.Common.{◌≡◌, ◌+◌, ◌-◌, ℕ, List, subst, arith, map, drop, take}
use Rattle.pfx_jobs.specs.Kind.{Kind, Laws}
use Rattle.pfx_record.specs.Records.{form_of, plain}
use Rattle.pfx_record.specs.Reading.{AreRecords, IsDamaged, IsHead, NoBatch, OnDamage, StopAt, body_of}
use Rattle.pfx_record.specs.declared.faults.BatchFault.{BatchFault}
use Rattle.pfx_record.specs.declared.faults.BatchFault.TheVariants.{Damaged, NoMemory}
use Rattle.pfx_record.proofs.Bodies.{no_head, no_records, damaged, is_batch}
use Rattle.pfx_record.proofs.Heads.{counts_of}
use Rattle.pfx_record.proofs.read.read_batch.Goals as goal

module _ {J : Type 0} (K : Kind J) (L : Laws K) (workers real : ℕ) (bytes : List ℕ) (len first count : ℕ) (head : IsHead workers bytes len first count) where
  none_there : (fault : BatchFault) → OnDamage fault (StopAt K (form_of workers real count) (body_of len bytes) count) → OnDamage fault (λ at what. NoBatch K workers real bytes)
  none_there (Damaged at what) stop = no_records K L workers real bytes len first count head at what stop
  none_there NoMemory stop = tt

  stops_there : (fault : BatchFault) → OnDamage fault (StopAt K (form_of workers real count) (body_of len bytes) count) → OnDamage fault (IsDamaged K workers real bytes)
  stops_there (Damaged at what) stop = damaged K L workers real bytes len first count head at what stop
  stops_there NoMemory stop = tt

pub returns-in-None-clause-none : goal.returns-in-None-clause-none
returns-in-None-clause-none g c = no_head g.J.Job.kind g.met.J.Job.laws c.args.workers c.args.real c.args.bytes.now c.in-None.ensures.none

pub returns-in-Err-clause-none : goal.returns-in-Err-clause-none
returns-in-Err-clause-none g c =
    let K = g.J.Job.kind in
    let head = c.in-Some.head in
    let long : 15 + head.len - 15 ≡ head.len = omega arith in
    none_there K g.met.J.Job.laws c.args.workers c.args.real c.args.bytes.now head.len head.first head.count c.in-Some.ensures.found c.in-Err.fault
    (subst (λ (k : ℕ). OnDamage c.in-Err.fault (StopAt K (form_of c.args.workers c.args.real head.count) (take k (drop 15 c.args.bytes.now)) head.count)) long c.in-Err.ensures.stops)

pub returns-in-Err-clause-place : goal.returns-in-Err-clause-place
returns-in-Err-clause-place g c =
    let K = g.J.Job.kind in
    let head = c.in-Some.head in
    let long : 15 + head.len - 15 ≡ head.len = omega arith in
    stops_there K g.met.J.Job.laws c.args.workers c.args.real c.args.bytes.now head.len head.first head.count c.in-Some.ensures.found c.in-Err.fault
    (subst (λ (k : ℕ). OnDamage c.in-Err.fault (StopAt K (form_of c.args.workers c.args.real head.count) (take k (drop 15 c.args.bytes.now)) head.count)) long c.in-Err.ensures.stops)

pub returns-in-Ok-clause-found : goal.returns-in-Ok-clause-found
returns-in-Ok-clause-found g c =
    let K = g.J.Job.kind in
    let head = c.in-Some.head in
    let read = map plain c.in-Ok.records.items in
    let long : 15 + head.len - 15 ≡ head.len = omega arith in
    is_batch K g.met.J.Job.laws c.args.workers c.args.real c.args.bytes.now head.len head.first head.count c.in-Some.ensures.found read
    (subst (λ (k : ℕ). AreRecords K (form_of c.args.workers c.args.real head.count) (take k (drop 15 c.args.bytes.now)) head.count read) long c.in-Ok.ensures.found)

pub read_records-requires-clause-few : goal.read_records-requires-clause-few
read_records-requires-clause-few g c = (counts_of c.args.workers c.in-Some.head.first c.in-Some.head.count c.in-Some.ensures.found.counts).few_workers
