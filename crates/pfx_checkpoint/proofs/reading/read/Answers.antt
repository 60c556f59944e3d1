use Rattle.std.proofs.Common.{◌≡◌, ◌<◌, ◌^◌, length, sym, ◌∙◌, ap, subst, arith}
use Rattle.pfx_weights.specs.Sets.{IsOfItsTasks}
use Rattle.pfx_machine.specs.Plain.{Plain, whole}
use Rattle.pfx_columns.specs.Ledgers.{Ledger, IsLedger}
use Rattle.pfx_checkpoint.specs.Found.{jobs_at}
use Rattle.pfx_checkpoint.proofs.Readings.{allocs_long, jobs_long, none_number, none_slot, reads_fault, parts_are, reads_compared}
use Rattle.pfx_checkpoint.proofs.reading.read.Goals as goal

pub returns-then-number : goal.returns-then-number
returns-then-number g c = none_number g.J.Job.kind c.args.from c.args.segment c.args.set.now c.args.bytes.now c.number_at-number.result c.number_at-number.ensures c.if-number.true

pub returns-then-slot-from : goal.returns-then-slot-from
returns-then-slot-from g c = none_slot g.J.Job.kind c.args.from c.args.segment c.args.set.now c.args.bytes.now c.number_at-slot.result c.number_at-slot.ensures (omega (arith, c.if-slot-from.true, c.requires.from))

pub ledger_of-requires-clause-long : goal.ledger_of-requires-clause-long
ledger_of-requires-clause-long g c =
    ap length (c.deref.ensures.value ∙ c.in-Ok.ensures) ∙ allocs_long c.args.set.now.real (length c.args.set.now.weights) c.args.bytes.now

pub from_parts-requires-clause-jobs : goal.from_parts-requires-clause-jobs
from_parts-requires-clause-jobs g c =
    ap length c.in-Ok-jobs_at.ensures
    ∙ (jobs_long g.J.Job.kind c.real.result c.args.bytes.now
    ∙ (c.real.ensures ∙ sym (ap (λ (l : Ledger). l.set.real) c.in-Ok-ledger_of.ensures.0)))

pub from_parts-requires-clause-slot : goal.from_parts-requires-clause-slot
from_parts-requires-clause-slot g c =
    let at : c.in-Ok-ledger_of.ledger.slot ≡ c.number_at-slot.result = ap (λ (l : Ledger). l.slot) c.in-Ok-ledger_of.ensures.0 in
    omega (arith, at, c.if-slot-from.false, c.requires.from)

pub from_parts-requires-clause-set : goal.from_parts-requires-clause-set
from_parts-requires-clause-set g c = subst IsOfItsTasks (sym (ap (λ (l : Ledger). l.set) c.in-Ok-ledger_of.ensures.0)) c.is_of_its_tasks.ensures

pub returns-in-Ok-ledger_of : goal.returns-in-Ok-ledger_of
returns-in-Ok-ledger_of g c =
    let K = g.J.Job.kind in
    let set = c.args.set.now in
    let bytes = c.args.bytes.now in
    let s = c.from_parts.result in
    let made = c.from_parts.ensures in
    let led : s.ledger ≡ c.in-Ok-ledger_of.ledger = ap (λ (t : Plain g.row.J.Denot). t.ledger) made in
    let fr : s.from ≡ c.args.from = ap (λ (t : Plain g.row.J.Denot). t.from) made in
    let at : c.in-Ok-ledger_of.ledger.slot ≡ c.number_at-slot.result = ap (λ (l : Ledger). l.slot) c.in-Ok-ledger_of.ensures.0 in
    let same : s.ledger.slot ≡ c.in-Ok-ledger_of.ledger.slot = ap (λ (l : Ledger). l.slot) led in
    let under : whole s < 2 ^ 40 = omega (arith, fr, at, same, c.if-slot-from.false, c.requires.from) in
    let slot = c.number_at-slot.result in
    let allocs = c.deref.ensures.value ∙ c.in-Ok.ensures in
    let jobs = c.in-Ok-jobs_at.ensures ∙ ap (λ n. jobs_at K n bytes) c.real.ensures in
    let is = parts_are K c.args.from c.args.segment set bytes s c.number_at-number.result slot c.deref.result.now c.in-Ok-jobs_at.jobs.items c.in-Ok-ledger_of.ledger
    c.number_at-number.ensures c.number_at-slot.ensures allocs jobs c.in-Ok-ledger_of.ensures.0
    (ap (λ (t : Plain g.row.J.Denot). t.number) made) (ap (λ (t : Plain g.row.J.Denot). t.ledger) made) (ap (λ (t : Plain g.row.J.Denot). t.jobs) made) (ap (λ (t : Plain g.row.J.Denot). t.from) made) (ap (λ (t : Plain g.row.J.Denot). t.segment) made) in
    let below : s.number < 2 ^ 48 = subst (λ n. n < 2 ^ 48) (sym (ap (λ (t : Plain g.row.J.Denot). t.number) made)) c.if-number.false in
    reads_compared K c.args.from c.args.segment set bytes s c.compare.result is below under (subst IsLedger (sym led) c.in-Ok-ledger_of.ensures.1) c.compare.ensures

pub returns : goal.returns
returns g c =
    reads_fault g.J.Job.kind c.args.from c.args.segment c.args.set.now c.args.bytes.now c.number_at-slot.result c.deref.result.now c.in-Err.fault c.is_of_its_tasks.ensures c.total-total.ensures.filled
    c.number_at-slot.ensures (c.deref.ensures.value ∙ c.in-Ok.ensures) c.in-Err.ensures
