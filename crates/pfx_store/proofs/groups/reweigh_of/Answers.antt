use Rattle.std.proofs.Common.{◌≡◌, ◌+◌, ◌∷◌, [], length, map, refl, ◌∙◌, ap, arith}
use Rattle.pfx_columns.specs.Ledgers.{Ledger}
use Rattle.pfx_machine.specs.Outcome.{outcome}
use Rattle.pfx_machine.specs.declared.command.Command.TheVariants.{Reweigh}
use Rattle.pfx_record.specs.Records.{plain}
use Rattle.pfx_store.specs.Groups.{AreKeptAs}
use Rattle.pfx_store.proofs.Grouping.{frame_is, kept_fit, records_lead}
use Rattle.pfx_store.proofs.groups.reweigh_of.Goals as goal

pub new-requires : goal.new-requires
new-requires g c =
    let (m, weights, are) = c.requires.right in
    let one : length (map plain c.args.records.items) ≡ 1 = ap length are.of in
    kept_fit g.J.Job.kind g.met.J.Job.laws c.args.state.now (Reweigh m weights ∷ []) (map plain c.args.records.items) c.number-next.ensures.state are
    c.workers-workers.result c.real-real.result c.number-next.result (c.workers-workers.ensures ∙ ap (λ (t : Ledger). t.set.workers) c.columns.ensures) (c.real-real.ensures ∙ ap (λ (t : Ledger). t.set.real) c.columns-3.ensures) c.number-next.ensures.number
    (omega (arith, one)) (omega (arith, one))

pub returns-clause-leads : goal.returns-clause-leads
returns-clause-leads g c H are =
    let mine : AreKeptAs g.J.Job.kind c.args.state.now H (map plain c.new.result.records.items) = rw c.new.ensures.records are in
    records_lead g.J.Job.kind g.met.J.Job.laws c.args.state.now H (map plain c.new.result.records.items) c.number-next.ensures.state mine

pub returns-clause-next : goal.returns-clause-next
returns-clause-next g c m weights are =
    let mine : AreKeptAs g.J.Job.kind c.args.state.now (Reweigh m weights ∷ []) (map plain c.new.result.records.items) = rw c.new.ensures.records are in
    record {
      workers = c.new.ensures.workers ∙ c.workers-workers.ensures ∙ ap (λ (t : Ledger). t.set.workers) c.columns.ensures;
      real = c.new.ensures.real ∙ c.real-real.ensures ∙ ap (λ (t : Ledger). t.set.real) c.columns-3.ensures;
      first = c.new.ensures.first ∙ ap (λ n. n + 1) c.number-next.ensures.number;
      right = (outcome g.J.Job.kind c.args.state.now (Reweigh m weights ∷ []), records_lead g.J.Job.kind g.met.J.Job.laws c.args.state.now (Reweigh m weights ∷ []) (map plain c.new.result.records.items) c.number-next.ensures.state mine);
      renews = (m, weights, mine.of, refl);
    }

pub returns-clause-frame : goal.returns-clause-frame
returns-clause-frame g c H are =
    let mine : AreKeptAs g.J.Job.kind c.args.state.now H (map plain c.new.result.records.items) = rw c.new.ensures.records are in
    frame_is g.J.Job.kind g.met.J.Job.laws c.args.state.now H (map plain c.new.result.records.items) c.number-next.ensures.state mine c.new.result.first
    (c.new.ensures.first ∙ ap (λ n. n + 1) c.number-next.ensures.number)
