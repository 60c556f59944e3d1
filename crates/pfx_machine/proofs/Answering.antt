-- Answers, by what is known of them.
use Rattle.std.specs.Prelude.{◌≡◌, ◌≢◌, ℕ, ◌+◌, ◌<◌, ◌^◌, List, Some, None, Result, Ok, Err, MatchResult, OnOk, IfErr}
use Rattle.std.proofs.Common.{◌∙◌}
use Rattle.std.proofs.lemmas.Bool.{cond-true, lt-ltb}
use Rattle.pfx_jobs.specs.Kind.{Kind}
use Rattle.pfx_machine.specs.Plain.{Plain}
use Rattle.pfx_machine.specs.Faults.{no_memory}
use Rattle.pfx_machine.specs.Reweighing.{reweigh_fault}
use Rattle.pfx_machine.specs.Refusals.{refusal, IsFaultOf}
use Rattle.pfx_machine.specs.declared.command.Command.TheVariants.{Reweigh}
use Rattle.pfx_machine.specs.declared.faults.MachineFault.{MachineFault}

-- below the limit on numbers, what the new weights are refused for is what the command is
pub reweigh_exact : {J A : Type 0} (K : Kind J) (s : Plain J) (m : ℕ) (w : List (ℕ × ℕ)) (r : Result A MachineFault) → s.number + 1 < 2 ^ 48 →
    OnOk r (reweigh_fault s m w ≡ None) → IfErr r (λ f. f ≢ no_memory → reweigh_fault s m w ≡ Some f) →
    MatchResult r (λ _. refusal K s (Reweigh m w) ≡ None) (λ f. IsFaultOf K s (Reweigh m w) f)
reweigh_exact K s m w (Ok made) below none err = cond-true _ _ _ (lt-ltb _ _ below) ∙ none
reweigh_exact K s m w (Err f) below none err = ((λ is. tt), (λ other. cond-true _ _ _ (lt-ltb _ _ below) ∙ err other))

pub on_ok : {T E : Type 0} (r : Result T E) (P Q : Type 0) → (P → Q) → OnOk r P → OnOk r Q
on_ok (Ok x) P Q f h = f h
on_ok (Err e) P Q f h = tt
