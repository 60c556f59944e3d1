-- What sessions on one store have kept, over the stops between them.
use Rattle.std.specs.Prelude.{◌≡◌, ◌≤◌, List, [], ◌∷◌, ◌++◌, length, take}
use Rattle.std.proofs.Common.{refl, sym, ◌∙◌, ap, subst}
use Rattle.pfx_machine.specs.Plain.{Plain}
use Rattle.pfx_machine.specs.Outcome.{outcome}
use Rattle.pfx_machine.specs.Sessions.{IsAcceptable}
use Rattle.pfx_machine.specs.declared.command.Command.{Command}
use Rattle.pfx_machine.proofs.Compose.{outcome-none, outcome-outcome}
use Rattle.pfx_store_engine.specs.KeepingLaws.{acceptable_both}
use Rattle.pfx_store_image.proofs.Answers.{ok_same}
use Rattle.pfx_store.specs.Groups.{alone, joined}
use Rattle.pfx_store.proofs.Grouping.{joined_alone, length-alone}
use Rattle.pfx_store_engine.specs.Sessions.{Session, AreSessions, AreHeld}
use Rattle.pfx_store_engine.proofs.Commands.{take_accepted}
use Rattle.pfx_jobs.specs.Kind.{Kind, Laws}

-- what is recovered after all of them
pub record Gone {J : Type 0} (K : Kind J) (start : Plain J) (sessions : List (Session J)) (last : Plain J) : Type 0 where
  pub held : List (Command J)
  pub are : AreHeld sessions held
  pub accepted : IsAcceptable K start held
  pub reached : last ≡ outcome K start held

pub gone_on : {J : Type 0} (K : Kind J) (L : Laws K) (start : Plain J) (sessions : List (Session J)) (last : Plain J) → AreSessions K start sessions last → Gone K start sessions last
gone_on K L start [] last is = record { held = []; are = refl; accepted = tt; reached = is ∙ sym (outcome-none K start) }
gone_on {J = J} K L start (x ∷ xs) last h =
    let v = h.1 in
    let next = h.2 in
    let more = gone_on K L next xs last h.4 in
    let first = take v.count x.commands in
    let same : joined (take v.count (alone x.commands)) ≡ first = joined_alone v.count x.commands in
    let now : outcome K start first ≡ next =
    ap (outcome K start) (sym same)
    ∙ ok_same (outcome K start (joined (take v.count (alone x.commands)))) next (sym v.recovered ∙ h.3) in
    let begun = subst (λ (l : List (Command J)). IsAcceptable K start l) same (take_accepted K L start x.commands v.count h.0) in
    let few : v.count ≤ length x.commands = subst (λ n. v.count ≤ n) (length-alone x.commands) v.at_most in
    record {
      held = first ++ more.held;
      are = (v.count, v.at_least, few, more.held, refl, more.are);
      accepted = acceptable_both K L start first more.held begun (subst (λ (t : Plain J). IsAcceptable K t more.held) (sym now) more.accepted);
      reached = more.reached ∙ ap (λ (t : Plain J). outcome K t more.held) (sym now) ∙ outcome-outcome K L start first more.held;
    }
