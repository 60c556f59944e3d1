use Rattle.std.proofs.Common.{rules, ◌≡◌, List, Err, map, option_map, subst}
use Rattle.pfx_program_set.specs.Views.{task_view, set_view}
use Rattle.pfx_program_set.specs.declared.set.NamedTask.{NamedTask}
use Rattle.pfx_program.proofs.PlanLemmas.{if_some}
use Rattle.pfx_program_draw.specs.Drawing.{IsDrawing}
use Rattle.pfx_program_draw.proofs.Failures.{refused_fails}
use Rattle.pfx_program_draw.proofs.picture.run_draw.Goals as goal

pub returns-in_err-file-clause-err : goal.returns-in_err-file-clause-err
returns-in_err-file-clause-err g c =
    let same : c.from_residual.result ≡ Err c.in_err-file.field-0.0 = search rules in
    rw same (if_some (g.R.Read.remaining c.args.input.now) _ _ c.in_err-file.ensures.err
    (λ bytes refused. refused_fails bytes (option_map (λ s. s.now) c.args.at) c.args.slots c.in_err-file.field-0.0 refused))

pub returns-in-Ok-clause-ok : goal.returns-in-Ok-clause-ok
returns-in-Ok-clause-ok g c =
    if_some (g.R.Read.remaining c.args.input.now) _ _ c.in_ok-file.ensures.ok
    (λ bytes starts. (
      set_view c.in_ok-file.file,
      c.in_ok-file.ledger,
      starts,
      subst (λ (l : List NamedTask). IsDrawing c.args.name.now (map task_view l) c.in_ok-file.ledger c.args.slots c.in-Ok.text.items) c.as_slice.ensures.value c.in-Ok.ensures.ok,
    ))
