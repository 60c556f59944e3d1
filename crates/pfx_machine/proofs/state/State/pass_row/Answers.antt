use Rattle.std.proofs.Common.{◌+◌, ◌<◌, ◌^◌, sym, ◌∙◌, subst, arith, refl}
use Rattle.std.proofs.lemmas.Bool.{true≢false as differ}
use Rattle.pfx_weights.specs.Rows.{is_in}
use Rattle.pfx_columns.specs.Ledgers.{after}
use Rattle.pfx_machine.specs.Plain.{Plain, whole, IsState}
use Rattle.pfx_machine.proofs.Keeping.{row_passed, refused_unfair}
use Rattle.pfx_machine.proofs.state.State.pass_row.Goals as goal
use Rattle.pfx_machine.proofs.state.State.pass_row.Goals.{in-Ok, in-Err}

pub invariant_of-self : goal.invariant_of-self
invariant_of-self g c =
    let s : Plain g.row.J.Denot = record { number = c.self.inside.number; from = c.self.inside.from; ledger = c.self.inside.ledger; jobs = c.self.inside.jobs.items; segment = c.self.inside.segment } in
    let below : whole s + 1 < 2 ^ 40 = subst (λ t. whole t + 1 < 2 ^ 40) (sym c.self.view_is) (omega (arith, c.if-slot.false, c.slot.ensures.slot)) in
    elim c.match-advance.branch [
      | in-Ok w ↦ row_passed s c.args.row.now c.advance.new.self c.self.invariant w.total-total.ensures.ledger w.in-Ok.ensures.ok below
      | in-Err w ↦ subst (λ l. IsState (record { number = s.number; from = s.from; ledger = l; jobs = s.jobs; segment = s.segment })) (sym w.in-Err.ensures.kept) c.self.invariant
    ]

pub returns-clause-right : goal.returns-clause-right
returns-clause-right g c =
    let s : Plain g.row.J.Denot = record { number = c.self.inside.number; from = c.self.inside.from; ledger = c.self.inside.ledger; jobs = c.self.inside.jobs.items; segment = c.self.inside.segment } in
    let below : whole s + 1 < 2 ^ 40 = subst (λ t. whole t + 1 < 2 ^ 40) (sym c.self.view_is) (omega (arith, c.if-slot.false, c.slot.ensures.slot)) in
    rw (← c.self.view_is) (elim c.match-advance.branch [
      | in-Ok w ↦ ((λ is. (c.if-not-fits.ensures.0 refl, below, w.in-Ok.ensures.fair)), (λ all. w.result-is))
      | in-Err w ↦ ((λ is. absurd (differ (sym is ∙ w.result-is))), (λ all. absurd (refused_unfair (after s.ledger (is_in c.args.row.now)) w.in-Err.field-0 w.in-Err.ensures.fair all.2)))
    ])
