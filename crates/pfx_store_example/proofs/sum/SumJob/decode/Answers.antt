use Rattle.std.proofs.Common.{sym, ◌∙◌}
use Rattle.pfx_jobs.proofs.Codings.{bytes_eq-true}
use Rattle.pfx_jobs.proofs.FromLaws.{decoded-spelling}
use Rattle.pfx_store_example.specs.SumKind.{sum_kind, sum_laws}
use Rattle.pfx_store_example.proofs.sum.SumJob.decode.Goals as goal

pub returns-then-eq : goal.returns-then-eq
returns-then-eq c =
    let same = bytes_eq-true c.args.bytes.now c.encode.new.bytes (sym c.eq.ensures ∙ c.if-eq.true) in
    decoded-spelling sum_kind sum_laws _ c.args.bytes.now (sym c.encode.ensures ∙ sym same)
