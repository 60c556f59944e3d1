use Rattle.std.proofs.Common.{sym, ap, ◌∙◌}
use Rattle.std.proofs.lemmas.Result.{IfOk-weaker}
use Rattle.pfx_program_set.specs.SetFile.{set_of_bytes}
use Rattle.pfx_program_set.specs.Views.{set_view}
use Rattle.pfx_program.proofs.PlanLemmas.{if_some}
use Rattle.pfx_program_check.proofs.checks.run_check.Goals as goal

pub returns-in-Ok-read_set-clause-ok : goal.returns-in-Ok-read_set-clause-ok
returns-in-Ok-read_set-clause-ok g c =
    IfOk-weaker c.checked.result _ _ (λ text h. if_some (g.R.Read.remaining c.args.input.now) _ _ c.in-Ok.ensures.ok
    (λ bytes same. (set_view c.in-Ok-read_set.file, ap set_of_bytes (sym (c.as_slice.ensures.value ∙ same)) ∙ c.in-Ok-read_set.ensures.ok, h))) c.checked.ensures.ok
