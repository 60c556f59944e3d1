use Rattle.std.proofs.Common.{◌++◌, ◌∙◌, ap, ap₂, map}
use Rattle.std.proofs.lemmas.List.{map-append}
use Rattle.std.proofs.lemmas.Result.{IfOk-weaker}
use Rattle.pfx_columns.specs.Ledgers.{Ledger}
use Rattle.pfx_store_format.specs.Batches.{batch_in}
use Rattle.pfx_record.specs.Records.{plain}
use Rattle.pfx_replay.specs.Trails.{records_if}
use Rattle.pfx_replay.proofs.records.add_records.Goals as goal

pub returns-clause-records : goal.returns-clause-records
returns-clause-records g c =
    let K = g.J.Job.kind in
    let old = c.args.records.now.items in
    let found = c.in_ok-more.ensures ∙ ap₂ (λ m n. records_if K (batch_in K m n c.args.frame.now)) (c.workers-workers.ensures ∙ ap (λ (l : Ledger). l.set.workers) c.columns-2.ensures) (c.real-real.ensures ∙ ap (λ (l : Ledger). l.set.real) c.columns-3.ensures) in
    IfOk-weaker c.apply.result _ _ (λ right given. ap (map plain) c.in_ok-append.ensures.items ∙ map-append plain old c.in_ok-more.more.items ∙ ap (λ l. map plain old ++ l) found) c.apply.ensures

pub returns-clause-taken : goal.returns-clause-taken
returns-clause-taken g c = IfOk-weaker c.apply.result _ _ (λ right given. given.taken) c.apply.ensures

pub returns-clause-wrong : goal.returns-clause-wrong
returns-clause-wrong g c = IfOk-weaker c.apply.result _ _ (λ right given. given.wrong) c.apply.ensures
