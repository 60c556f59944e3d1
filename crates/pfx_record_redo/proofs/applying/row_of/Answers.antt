use Rattle.std.proofs.Common.{◌∙◌, arith}
use Rattle.std.proofs.lemmas.List.{length-map}
use Rattle.pfx_record.specs.Records.{tasks_of}
use Rattle.pfx_record_redo.proofs.Rows.{all_copied, row_is}
use Rattle.pfx_record_redo.proofs.applying.row_of.Goals as goal

pub set-requires : goal.set-requires
set-requires g c =
    let row = c.args.row.now in
    let whole = all_copied row c.loop-i.i c.loop-i.tasks c.loop-i.invariant.front c.loop-i.auto.i-end c.loop-i-test.false in
    row_is _ (tasks_of row) whole (let few = c.requires.few in omega (arith, length-map row (λ place. place.task), few)) c.requires.rises

pub returns : goal.returns
returns g c =
    let row = c.args.row.now in
    let whole = all_copied row c.loop-i.i c.loop-i.tasks c.loop-i.invariant.front c.loop-i.auto.i-end c.loop-i-test.false in
    c.set.ensures ∙ whole
