use Rattle.std.proofs.Common.{◌∙◌, refl, sym, arith}
use Rattle.pfx_record.proofs.Renewed.{reweigh_short, reweigh_is}
use Rattle.pfx_record.proofs.read_record.read_reweigh.Goals as goal

pub returns-then-bytes-long-clause-none : goal.returns-then-bytes-long-clause-none
returns-then-bytes-long-clause-none g c = reweigh_short g.J.Job.kind g.met.J.Job.laws c.args.bytes.now c.args.form c.requires.tag c.if-bytes-long.true

pub returns-clause-found : goal.returns-clause-found
returns-clause-found g c =
    reweigh_is g.J.Job.kind g.met.J.Job.laws c.args.bytes.now c.args.form _ c.new-weights.result (sym c.takes_weights.ensures ∙ c.if-not-takes_weights.false) c.requires.tag refl c.if-bytes-long.false (λ k. omega (arith, c.type_inv.bytes k))
    (c.new-weights.ensures ∙ c.in_ok-weights_at.ensures)
