use Rattle.std.proofs.Common.{◌≡◌, [], ℕ, List, length, ap, sym, arith, append-nil, length-append}
use Rattle.std.proofs.lemmas.List.{nil_from_length}
use Rattle.pfx_record.specs.Begins.{Begins}
use Rattle.pfx_record.specs.Batches.{PlainBatch, batch_bytes}
use Rattle.pfx_record.proofs.Bodies.{one_batch}
use Rattle.pfx_record.proofs.laws.one_spelling.Goals as goal

pub returns : goal.returns
returns g c = λ workers real batch other more fits fits' is.
    let K = g.J.Job.kind in
    let mine : List ℕ = batch_bytes K batch in
    let its : List ℕ = batch_bytes K other in
    let b : Begins its mine = record { rest = more; is = is } in
    let c : Begins its its = record { rest = []; is = sym (append-nil its) } in
    let same : other ≡ batch = one_batch K g.met.J.Job.laws workers real its batch other fits fits' b c in
    let long : length its ≡ length mine = ap (λ (x : PlainBatch g.row.J.Denot). length (batch_bytes K x)) same in
    (same, nil_from_length more (omega (arith, long, ap length is, length-append mine more)))
