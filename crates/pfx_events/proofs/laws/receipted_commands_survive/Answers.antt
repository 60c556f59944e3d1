use Rattle.std.proofs.Common.{◌≤◌, Ok, inl, inr, take, sym, ap, ◌∙◌, subst}
use Rattle.pfx_machine.specs.Outcome.{outcome}
use Rattle.pfx_machine.specs.Plain.{Plain}
use Rattle.pfx_events_world.specs.Claims.{IsReceipted}
use Rattle.pfx_events_world.specs.Events.{run}
use Rattle.pfx_events_world.specs.World.{new_world}
use Rattle.pfx_events.specs.Store.{store_of}
use Rattle.pfx_events.proofs.laws.receipted_commands_survive.Goals as goal

pub returns-clause-survive : goal.returns-clause-survive
returns-clause-survive g c = λ B image f events n left found can given may.
    let K = g.J.Job.kind in
    let w = run (store_of K) B (new_world (store_of K) B image f) events in
    let e = ((c.crash_prefix.ensures.survives B image f events found can).receipted n given).each left may in
    (e.0, e.2, c.runs_begin_at_files.ensures.means left (outcome K B (take e.0 w.book.accepted)) e.1 e.3, e.4)

pub returns-clause-stop : goal.returns-clause-stop
returns-clause-stop g c = λ B image f events left found can.
    let K = g.J.Job.kind in
    let w = run (store_of K) B (new_world (store_of K) B image f) events in
    let r = c.crash_prefix.ensures.recovers B image f events left found can in
    let there = c.runs_begin_at_files.ensures.means left _ r.found.0 r.found.1 in
    elim r.front [
      | inl is ↦
          let state = r.state ∙ ap (outcome K B) is in
          (w.kept, is, there ∙ ap Ok state, λ n given. (subst (IsReceipted n) (sym r.receipts) given, subst (λ (s : Plain _). n ≤ s.number) state (r.holds n given)))
      | inr is ↦
          let state = r.state ∙ ap (outcome K B) is in
          (w.book.taken, is, there ∙ ap Ok state, λ n given. (subst (IsReceipted n) (sym r.receipts) given, subst (λ (s : Plain _). n ≤ s.number) state (r.holds n given)))
    ]

pub returns-clause-fair : goal.returns-clause-fair
returns-clause-fair g c = λ B image f events k found can few. ((c.crash_prefix.ensures.orderly B image f events found can).fair k few).ledger.fair
