use Rattle.std.proofs.Common.{refl, ⊎_elim}
use Rattle.pfx_store_format.specs.Format.{format}
use Rattle.pfx_store_format.proofs.Keeping.{format_laws}
use Rattle.pfx_log_store.specs.Behind.{all_frames}
use Rattle.pfx_log_store.specs.Joining.{gathering}
use Rattle.pfx_log_store.proofs.Behind.{ends}
use Rattle.pfx_log_store.proofs.Opened.{of_file}
use Rattle.pfx_log_store.proofs.joining.frames_behind.Goals as goal

pub returns-then-gathered-last-clause-exact : goal.returns-then-gathered-last-clause-exact
returns-then-gathered-last-clause-exact g c honest h p s found are =
    let K = format g.J.Job.kind in
    ⊎_elim (λ there. absurd (c.if-gathered-last.true there.0)) (λ none. (refl, none.1, none.2))
    (ends K c.args.last (format_laws g.J.Job.kind g.met.J.Job.laws) p.base.number (all_frames p) (gathering c.in_ok-gathered.gathered) (c.in_ok-gathered.ensures.exact honest h p s found are))

pub returns-clause-exact : goal.returns-clause-exact
returns-clause-exact g c honest h p s found are =
    let K = format g.J.Job.kind in
    ⊎_elim (λ there. there.1) (λ none. absurd (none.0 c.if-gathered-last.false))
    (ends K c.args.last (format_laws g.J.Job.kind g.met.J.Job.laws) p.base.number (all_frames p) (gathering c.in_ok-gathered.gathered) (c.in_ok-gathered.ensures.exact honest h p s found are))

pub returns-in_err-gathered-clause-filed : goal.returns-in_err-gathered-clause-filed
returns-in_err-gathered-clause-filed g c = of_file c.from_residual.result _ c.from_residual.ensures.1
