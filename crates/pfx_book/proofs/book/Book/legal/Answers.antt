use Rattle.std.proofs.Common.{◌≡◌, ◌≤◌, [], length, refl, subst, arith}
use Rattle.pfx_machine.specs.Outcome.{outcome}
use Rattle.pfx_machine.specs.Sessions.{IsAcceptable}
use Rattle.pfx_book.specs.Lines.{told}
use Rattle.pfx_book.specs.Notes.{commands_of, Legal}
use Rattle.pfx_book.specs.Register.{Register}
use Rattle.pfx_book.proofs.Notes.{all_accepted}
use Rattle.pfx_book.proofs.Keeping.{all_taken, is_legal, low, outcome_is}
use Rattle.pfx_book.proofs.book.Book.legal.Goals as goal

pub returns-clause-start : goal.returns-clause-start
returns-clause-start g c = c.self.invariant.0.is_told.valid

pub returns-clause-legal : goal.returns-clause-legal
returns-clause-legal g c =
    let K = g.J.Job.kind in
    let B = g.B.Named.start in
    subst (λ (v : Register g.row.J.Denot). Legal K B [] v.history) c.self.view_is (is_legal K B _ _ _ _ _ _ _ _ _ c.self.invariant.0)

pub returns-clause-commands : goal.returns-clause-commands
returns-clause-commands g c = subst (λ (v : Register g.row.J.Denot). v.session.accepted ≡ commands_of v.history) c.self.view_is refl

pub returns-clause-accepted : goal.returns-clause-accepted
returns-clause-accepted g c =
    let K = g.J.Job.kind in
    let B = g.B.Named.start in
    let xs = told K B [] c.self.inside.history.items in
    subst (λ (v : Register g.row.J.Denot). IsAcceptable K B v.session.accepted) c.self.view_is (all_accepted K B [] xs (is_legal K B _ _ _ _ _ _ _ _ _ c.self.invariant.0))

pub returns-clause-state : goal.returns-clause-state
returns-clause-state g c =
    let K = g.J.Job.kind in
    let B = g.B.Named.start in
    subst (λ (v : Register g.row.J.Denot). v.session.state ≡ outcome K B v.session.accepted) c.self.view_is (outcome_is K B _ _ _ _ _ _ _ _ _ c.self.invariant.0)

pub returns-clause-marked : goal.returns-clause-marked
returns-clause-marked g c = subst (λ (v : Register g.row.J.Denot). v.session.marked ≤ v.session.taken) c.self.view_is (low g.J.Job.kind g.B.Named.start _ _ _ _ _ _ _ _ _ c.self.invariant.0)

pub returns-clause-taken : goal.returns-clause-taken
returns-clause-taken g c =
    let all = all_taken g.J.Job.kind g.B.Named.start _ _ _ _ _ _ _ _ _ c.self.invariant.0 in
    subst (λ (v : Register g.row.J.Denot). v.session.taken ≤ length v.session.accepted) c.self.view_is (omega (arith, all))
