use Rattle.std.proofs.Common.{sym, ◌∙◌, ap, ◌≡◌, ◌+◌, ◌<◌, ◌^◌, subst}
use Rattle.std.specs.Prelude.{length, Ok}
use Rattle.std.specs.Vec.{with_items}
use Rattle.std.proofs.lemmas.List.{with_items_is}
use Rattle.pfx_machine.specs.Choosing.{row_in}
use Rattle.pfx_machine.proofs.Rowing.{row_chosen}
use Rattle.pfx_machine.specs.Plain.{Plain}
use Rattle.pfx_machine.specs.Steps.{served}
use Rattle.pfx_machine.proofs.Keeping.{chosen_is, row_goes_on}
use Rattle.pfx_machine.proofs.Places.{state_step-row}
use Rattle.pfx_machine.proofs.Serving.{length-jobs_step}
use Rattle.pfx_machine.proofs.state.State.run_row.Goals as goal

pub give-requires : goal.give-requires
give-requires g c =
    let s : Plain g.row.J.Denot = record { number = c.self.inside.number; from = c.self.inside.from; ledger = c.self.inside.ledger; jobs = c.self.inside.jobs.items; segment = c.self.inside.segment } in
    chosen_is s.ledger c.args.row (row_chosen s c.args.row (subst (λ t. row_in t ≡ Ok c.args.row) (sym c.self.view_is) c.requires.row))

pub invariant_of-self : goal.invariant_of-self
invariant_of-self g c =
    let s : Plain g.row.J.Denot = record { number = c.self.inside.number; from = c.self.inside.from; ledger = c.self.inside.ledger; jobs = c.self.inside.jobs.items; segment = c.self.inside.segment } in
    let below : s.number + 1 < 2 ^ 48 = subst (λ t. t.number + 1 < 2 ^ 48) (sym c.self.view_is) c.requires.number in
    let row_is : row_in s ≡ Ok c.args.row = subst (λ t. row_in t ≡ Ok c.args.row) (sym c.self.view_is) c.requires.row in
    let is : c.serve_all.new.jobs ≡ served g.J.Job.kind c.args.row s.jobs = c.serve_all.ensures ∙ ap (served g.J.Job.kind c.args.row) c.deref_mut.ensures.value in
    let long : length c.serve_all.new.jobs ≡ length s.jobs = ap length is ∙ length-jobs_step g.J.Job.kind 0 0 c.args.row s.jobs in
    let all : (with_items c.self.inside.jobs c.serve_all.new.jobs).items ≡ c.serve_all.new.jobs = with_items_is c.self.inside.jobs c.serve_all.new.jobs (long ∙ sym c.self.inside.jobs.ok.0) in
    row_goes_on g.J.Job.kind s c.args.row _ c.give.new.ledger c.self.invariant below row_is (ap length all ∙ long) c.give.ensures

pub returns-clause-step : goal.returns-clause-step
returns-clause-step g c =
    let s : Plain g.row.J.Denot = record { number = c.self.inside.number; from = c.self.inside.from; ledger = c.self.inside.ledger; jobs = c.self.inside.jobs.items; segment = c.self.inside.segment } in
    let row_is : row_in s ≡ Ok c.args.row = subst (λ t. row_in t ≡ Ok c.args.row) (sym c.self.view_is) c.requires.row in
    let is : c.serve_all.new.jobs ≡ served g.J.Job.kind c.args.row s.jobs = c.serve_all.ensures ∙ ap (served g.J.Job.kind c.args.row) c.deref_mut.ensures.value in
    let long : length c.serve_all.new.jobs ≡ length s.jobs = ap length is ∙ length-jobs_step g.J.Job.kind 0 0 c.args.row s.jobs in
    let all : (with_items c.self.inside.jobs c.serve_all.new.jobs).items ≡ c.serve_all.new.jobs = with_items_is c.self.inside.jobs c.serve_all.new.jobs (long ∙ sym c.self.inside.jobs.ok.0) in
    rw (← c.self.view_is) (state_step-row g.J.Job.kind s c.args.row _ c.give.new.ledger row_is (all ∙ is) c.give.ensures)
