-- Slots over states from which fair schedules of every length go on.
use Rattle.std.proofs.Common.{◌≡◌, ℕ, List, [], ◌∷◌, take, Option, Some, None, Ok, Err, sym, ◌∙◌, ap, subst}
use Rattle.pfx_columns.proofs.Shown.{start_ledger}
use Rattle.pfx_machine_feasible.specs.Commands.{limit_fault}
use Rattle.pfx_machine_feasible.specs.Endless.{IsEndless}
use Rattle.pfx_machine_feasible.proofs.Endless.{start_endless}
use Rattle.pfx_machine_feasible.proofs.Rows.{ledger_goes_on}
use Rattle.pfx_machine_feasible.proofs.Serving.{endless_behind, slot_refusal}
use Rattle.pfx_store_format.specs.Format.{format}
use Rattle.pfx_store.specs.Groups.{alone, joined}
use Rattle.pfx_machine.specs.Outcome.{outcome}
use Rattle.pfx_machine.specs.Plain.{Plain, IsState, empty}
use Rattle.pfx_machine.specs.Refusals.{refusal, reply}
use Rattle.pfx_machine.specs.Runs.{answer, answer_by}
use Rattle.pfx_machine.specs.Sessions.{IsAcceptable}
use Rattle.pfx_machine.specs.declared.command.Command.{Command}
use Rattle.pfx_machine.specs.declared.command.Command.TheVariants.{Slot}
use Rattle.pfx_machine.specs.declared.command.Reply.{Reply}
use Rattle.pfx_machine.specs.declared.faults.MachineFault.{MachineFault}
use Rattle.pfx_machine.proofs.Compose.{outcome-none}
use Rattle.pfx_store_engine.specs.Failing.{NotAccepted}
use Rattle.pfx_store_engine.specs.declared.engine.EngineFault.{EngineFault}
use Rattle.pfx_store_engine.specs.declared.engine.EngineFault.TheVariants as enginefault
use Rattle.pfx_store_image.specs.Recovery.{recovered}
use Rattle.pfx_store_image.proofs.Answers.{not_ok, err_same, ok_same}
use Rattle.pfx_weights.specs.Sets.{FilledSet, IsFilled}
use Rattle.pfx_store_engine.specs.Failing.{IsServed}
use Rattle.pfx_store_engine.specs.Surviving.{Survives}
use Rattle.pfx_store_engine.proofs.Commands.{take_accepted}
use Rattle.pfx_jobs.specs.Kind.{Kind, Laws}

refused_by : (said : Reply) (o : Option MachineFault) (f : MachineFault) → answer_by said o ≡ Err f → o ≡ Some f
refused_by said None f is = not_ok said f is
refused_by said (Some g) f is = ap Some (err_same {A = Reply} g f is)

-- a refused Slot
pub limits_refuse : {J : Type 0} (K : Kind J) (s : Plain J) (f : MachineFault) → IsState s → IsEndless s.ledger → refusal K s Slot ≡ Some f → limit_fault s ≡ Some f
limits_refuse K s f h endless is = sym (slot_refusal K s (ledger_goes_on s.ledger h.ledger endless)) ∙ is

pub served_by : {J : Type 0} (K : Kind J) (s : Plain J) (c : Command J) (new : Plain J) (fault : EngineFault) → IsState s → IsEndless s.ledger → NotAccepted K s c new fault → IsServed s c fault
served_by {J = J} K s c new (enginefault.Refused f) h endless why =
    λ slot. limits_refuse K s f h endless (refused_by (reply s Slot) (refusal K s Slot) f (subst (λ (d : Command J). answer K s d ≡ Err f) slot why.0))
served_by K s c new (enginefault.Failed f) h endless why = tt

-- an accepted command
pub endless_after : {J : Type 0} (K : Kind J) (L : Laws K) (s new : Plain J) (c : Command J) → IsState s → IsEndless s.ledger → refusal K s c ≡ None → new ≡ outcome K s (c ∷ []) → IsEndless new.ledger
endless_after {J = J} K L s new c h endless accepted at =
    let all : IsAcceptable K s (c ∷ []) = (subst (λ (t : Plain J). refusal K t c ≡ None) (sym (outcome-none K s)) accepted, tt) in
    subst (λ (t : Plain J). IsEndless t.ledger) (sym at) (endless_behind K L s (c ∷ []) h.ledger endless all)

-- the empty state, and what is recovered
pub made_endless : {J : Type 0} (set : FilledSet) (segment : ℕ) → IsFilled set → (s : Plain J) → s ≡ empty set segment → IsEndless s.ledger
made_endless {J = J} set segment filled s is = subst (λ (t : Plain J). IsEndless t.ledger) (sym is) (start_endless set filled)

pub survived_endless : {J : Type 0} (K : Kind J) (L : Laws K) (set : FilledSet) (segment : ℕ) → IsFilled set → (H : List (Command J)) → IsAcceptable K (empty set segment) H → (n : ℕ) (image : List ℕ) → Survives K (empty set segment) H n image →
    (s : Plain J) → recovered (format K) image ≡ Ok s → IsEndless s.ledger
survived_endless {J = J} K L set segment filled H all n image v s is =
    let reached = outcome K (empty set segment) (joined (take v.count (alone H))) in
    let same : reached ≡ s = ok_same reached s (sym v.recovered ∙ is) in
    subst (λ (t : Plain J). IsEndless t.ledger) same
    (endless_behind K L (empty set segment) (joined (take v.count (alone H))) (start_ledger set filled) (start_endless set filled) (take_accepted K L (empty set segment) H v.count all))
