use Rattle.std.proofs.Common.{rules, ◌≡◌, ◌∙◌, Err, ap, ap₂, refl, subst, sym}
use Rattle.clap.specs.Takes.{takes}
use Rattle.clap.specs.Kinds.{HasKind}
use Rattle.clap.specs.Walk.{texts}
use Rattle.clap.specs.Simple.{App}
use Rattle.clap.specs.Faults.{fault_of, is_simple_and_free}
use Rattle.clap.specs.Simple.{is_simple, subcommand_of}
use Rattle.pfx_program_args.specs.Requests.{asked, asked_in}
use Rattle.pfx_program_args.proofs.program.read_words.Goals as goal

pub returns-in_err-matches-clause-taken : goal.returns-in_err-matches-clause-taken
returns-in_err-matches-clause-taken c =
    let same : c.from_residual-in_err-matches.result ≡ Err c.in_err-matches.field-0.0 = search rules in
    rw same (λ taken. c.in_err-matches.ensures.passes (ap₂ takes c.in_ok-command.ensures.0 refl ∙ taken))

pub returns-in_err-matches-clause-faults : goal.returns-in_err-matches-clause-faults
returns-in_err-matches-clause-faults c =
    let same : c.from_residual-in_err-matches.result ≡ Err c.in_err-matches.field-0.0 = search rules in
    rw same (subst (λ (app : App). HasKind (fault_of app (texts c.args.words.now)) c.in_err-matches.field-0.0) c.in_ok-command.ensures.0 (c.in_err-matches.ensures.kinds (ap is_simple_and_free c.in_ok-command.ensures.0)))

pub returns-clause-ok : goal.returns-clause-ok
unfolding asked
returns-clause-ok c =
    c.in_ok-request.ensures ∙ ap asked_in ((c.in_ok-matches.ensures.matches (ap is_simple c.in_ok-command.ensures.0)).1 ∙ ap₂ subcommand_of c.in_ok-command.ensures.0 refl)

pub returns-clause-faults : goal.returns-clause-faults
returns-clause-faults c = ap₂ fault_of (sym c.in_ok-command.ensures.0) refl ∙ c.in_ok-matches.ensures.kinds (ap is_simple_and_free c.in_ok-command.ensures.0)
