use Rattle.std.proofs.Common.{true, false, refl, sym, ap}
use Rattle.csv.specs.Reading.{ReadRecord, error_kind}
use Rattle.csv.specs.Records.{fields_of}
use Rattle.pfx_program_script.specs.Heard.{heard_left}
use Rattle.pfx_program_script.specs.Records.{Records}
use Rattle.pfx_program_script.proofs.Taking.{takes, takes_none, refuses}
use Rattle.pfx_program_script.proofs.records.Script.next.Goals as goal

pub returns-then-found-clause-reads : goal.returns-then-found-clause-reads
returns-then-found-clause-reads g c =
    let plain = c.self.invariant c.if-self.false in
    let read : ReadRecord (heard_left g.R.Read.remaining) c.self.inside.reader c.read_record.new.self true (fields_of c.read_record.new.row) = rw c.if-found.true at (c.in-Ok.ensures.reads plain.trim plain.ready) in
    rw (c.if-found.true, ← c.self.view_is, c.if-self.false) (refl, refl, takes (heard_left g.R.Read.remaining) c.self.inside.reader c.read_record.new.self (fields_of c.read_record.new.row) plain.config read)

pub returns-else-found-clause-reads : goal.returns-else-found-clause-reads
returns-else-found-clause-reads g c =
    let plain = c.self.invariant c.if-self.false in
    let read : ReadRecord (heard_left g.R.Read.remaining) c.self.inside.reader c.read_record.new.self false (fields_of c.read_record.new.row) = rw c.if-found.false at (c.in-Ok.ensures.reads plain.trim plain.ready) in
    rw (c.if-found.false, ← c.self.view_is, c.if-self.false) (refl, refl, takes_none (heard_left g.R.Read.remaining) c.self.inside.reader c.read_record.new.self (fields_of c.read_record.new.row) plain.config read)

pub returns-in-Err-clause-fails : goal.returns-in-Err-clause-fails
returns-in-Err-clause-fails g c =
    let plain = c.self.invariant c.if-self.false in
    refuses (heard_left g.R.Read.remaining) c.self.inside.reader c.read_record.new.self c.args.self.now (error_kind c.in-Err.error) c.has_failed-broken.result c.read_fault.result plain.config plain.flexible
    (rw (← c.self.view_is, c.if-self.false) refl) (c.in-Err.ensures.why plain.trim plain.ready) (rw (ap (λ (r : Records). r.place) (sym c.self.view_is)) c.read_fault.ensures)
