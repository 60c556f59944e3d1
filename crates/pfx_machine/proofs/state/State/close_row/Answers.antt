use Rattle.std.proofs.Common.{sym, ◌∙◌, ap, ap₂, ◌≡◌, ◌+◌, ◌<◌, ◌^◌, subst}
use Rattle.std.specs.Prelude.{length, Ok, map}
use Rattle.std.specs.Vec.{with_items}
use Rattle.std.proofs.lemmas.List.{with_items_is}
use Rattle.pfx_machine.specs.Choosing.{row_in}
use Rattle.pfx_machine.proofs.Rowing.{row_chosen}
use Rattle.pfx_machine.specs.Plain.{Plain, whole}
use Rattle.pfx_machine.specs.Steps.{served}
use Rattle.pfx_machine.specs.Slots.{deal, deals_in, written_back}
use Rattle.pfx_machine.proofs.Dealt.{written-dealt}
use Rattle.pfx_machine.proofs.Keeping.{chosen_is, row_goes_on, chosen_rises}
use Rattle.pfx_machine.proofs.Places.{state_step-row}
use Rattle.pfx_machine.proofs.Serving.{length-jobs_step, apart_of}
use Rattle.pfx_machine.proofs.state.State.close_row.Goals as goal

pub give-requires : goal.give-requires
give-requires g c =
    let s : Plain g.row.J.Denot = record { number = c.self.inside.number; from = c.self.inside.from; ledger = c.self.inside.ledger; jobs = c.self.inside.jobs.items; segment = c.self.inside.segment } in
    chosen_is s.ledger c.args.row (row_chosen s c.args.row (subst (λ t. row_in t ≡ Ok c.args.row) (sym c.self.view_is) c.requires.row))

pub invariant_of-self : goal.invariant_of-self
invariant_of-self g c =
    let s : Plain g.row.J.Denot = record { number = c.self.inside.number; from = c.self.inside.from; ledger = c.self.inside.ledger; jobs = c.self.inside.jobs.items; segment = c.self.inside.segment } in
    let below : s.number + 1 < 2 ^ 48 = subst (λ t. t.number + 1 < 2 ^ 48) (sym c.self.view_is) c.requires.number in
    let row_is : row_in s ≡ Ok c.args.row = subst (λ t. row_in t ≡ Ok c.args.row) (sym c.self.view_is) c.requires.row in
    let results : map (λ d. deal d.number d.slot d.task d.before) c.args.dones.items ≡ deals_in g.J.Job.kind s c.args.row = c.requires.results ∙ ap (λ t. deals_in g.J.Job.kind t c.args.row) (sym c.self.view_is) in
    let is : c.write_back.new.jobs ≡ served g.J.Job.kind c.args.row s.jobs =
    c.write_back.ensures ∙ (ap₂ (λ ds js. written_back g.J.Job.kind ds js) results c.deref_mut.ensures.value
    ∙ written-dealt g.J.Job.kind (s.number + 1) (whole s) c.args.row s.jobs (apart_of c.args.row (chosen_rises s.ledger c.args.row c.self.invariant.ledger (row_chosen s c.args.row row_is)))) in
    let long : length c.write_back.new.jobs ≡ length s.jobs = ap length is ∙ length-jobs_step g.J.Job.kind 0 0 c.args.row s.jobs in
    let all : (with_items c.self.inside.jobs c.write_back.new.jobs).items ≡ c.write_back.new.jobs = with_items_is c.self.inside.jobs c.write_back.new.jobs (long ∙ sym c.self.inside.jobs.ok.0) in
    row_goes_on g.J.Job.kind s c.args.row _ c.give.new.ledger c.self.invariant below row_is (ap length all ∙ long) c.give.ensures

pub returns-clause-step : goal.returns-clause-step
returns-clause-step g c =
    let s : Plain g.row.J.Denot = record { number = c.self.inside.number; from = c.self.inside.from; ledger = c.self.inside.ledger; jobs = c.self.inside.jobs.items; segment = c.self.inside.segment } in
    let row_is : row_in s ≡ Ok c.args.row = subst (λ t. row_in t ≡ Ok c.args.row) (sym c.self.view_is) c.requires.row in
    let results : map (λ d. deal d.number d.slot d.task d.before) c.args.dones.items ≡ deals_in g.J.Job.kind s c.args.row = c.requires.results ∙ ap (λ t. deals_in g.J.Job.kind t c.args.row) (sym c.self.view_is) in
    let is : c.write_back.new.jobs ≡ served g.J.Job.kind c.args.row s.jobs =
    c.write_back.ensures ∙ (ap₂ (λ ds js. written_back g.J.Job.kind ds js) results c.deref_mut.ensures.value
    ∙ written-dealt g.J.Job.kind (s.number + 1) (whole s) c.args.row s.jobs (apart_of c.args.row (chosen_rises s.ledger c.args.row c.self.invariant.ledger (row_chosen s c.args.row row_is)))) in
    let long : length c.write_back.new.jobs ≡ length s.jobs = ap length is ∙ length-jobs_step g.J.Job.kind 0 0 c.args.row s.jobs in
    let all : (with_items c.self.inside.jobs c.write_back.new.jobs).items ≡ c.write_back.new.jobs = with_items_is c.self.inside.jobs c.write_back.new.jobs (long ∙ sym c.self.inside.jobs.ok.0) in
    rw (← c.self.view_is) (state_step-row g.J.Job.kind s c.args.row _ c.give.new.ledger row_is (all ∙ is) c.give.ensures)
