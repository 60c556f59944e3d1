-- One command's outcome.
use Rattle.std.proofs.Common.{◌≡◌, ◌∙◌, [], ◌∷◌, ap}
use Rattle.pfx_jobs.specs.Kind.{Kind, Laws}
use Rattle.pfx_machine.specs.Plain.{Plain}
use Rattle.pfx_machine.specs.Outcome.{outcome}
use Rattle.pfx_machine.specs.Steps.{happening_in, state_step}
use Rattle.pfx_machine.specs.declared.command.Command.{Command}
use Rattle.pfx_machine.proofs.Compose.{outcome-none}
use Rattle.pfx_machine.proofs.Snoc.{outcome-snoc}

pub outcome-one : {J : Type 0} (K : Kind J) (L : Laws K) (s : Plain J) (c : Command J) → outcome K s (c ∷ []) ≡ state_step K s (happening_in s c)
outcome-one K L s c = outcome-snoc K L s [] c ∙ ap (λ t. state_step K t (happening_in t c)) (outcome-none K s)
