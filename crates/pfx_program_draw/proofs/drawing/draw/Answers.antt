use Rattle.std.proofs.Common.{ap, ◌∙◌, map}
use Rattle.pfx_columns.specs.Ledgers.{Ledger}
use Rattle.pfx_weights.specs.Rows.{Schedule}
use Rattle.pfx_program_set.specs.Views.{task_view}
use Rattle.pfx_program_draw.specs.Drawing.{draw_text}
use Rattle.pfx_program_draw.proofs.drawing.draw.Goals as goal

pub returns-in-Ok-drawn-clause-ok : goal.returns-in-Ok-drawn-clause-ok
returns-in-Ok-drawn-clause-ok c =
    let of = draw_text c.args.name.now (map task_view c.args.tasks.now) in
    record {
      rows = c.in-Ok-plan.rows.items;
      plan = c.in-Ok-plan.ensures.rows;
      number = c.in-Ok-plan.ensures.count;
      is = c.in-Ok-drawn.ensures ∙ ap (λ (g : Ledger). of g c.as_slice.result.now) c.in-Ok.ensures ∙ ap (λ (rows : Schedule). of c.args.ledger rows) c.as_slice.ensures.value;
    }
