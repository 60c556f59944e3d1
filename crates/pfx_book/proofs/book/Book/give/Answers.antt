use Rattle.std.specs.Prelude.{OnOk, IfErr, vec_capacity}
use Rattle.std.proofs.Common.{[], Option, Some, length, subst}
use Rattle.pfx_machine.specs.Slots.{deal}
use Rattle.pfx_book_slot.specs.Dealt.{Dealt}
use Rattle.pfx_book.specs.Calls.{ComesBack, IsRepelled}
use Rattle.pfx_book.specs.Kept.{OpenFits}
use Rattle.pfx_book.specs.Lines.{told}
use Rattle.pfx_book.specs.Register.{Register, register}
use Rattle.pfx_book.proofs.Dealing.{fits_given, repelled_any, came}
use Rattle.pfx_book.proofs.book.Book.give.Goals as goal

pub invariant_of-self-2 : goal.invariant_of-self-2
invariant_of-self-2 g c =
    let K = g.J.Job.kind in
    let s = c.self.inside in
    let d = deal c.args.done.number c.args.done.slot c.args.done.task c.args.done.before in
    let entries = length s.history.items in
    let places = vec_capacity s.history in
    let fits : OpenFits K s.state g.B.Named.start.number (Some c.in-Some.slot) s.marked entries places =
    subst (λ (q : Option (Dealt g.row.J.Denot)). OpenFits K s.state g.B.Named.start.number q s.marked entries places) c.in-Some.is c.self.invariant.1 in
    (c.self.invariant.0, fits_given K s.state g.B.Named.start.number s.marked entries places c.in-Some.slot c.give.new.self c.give.result d c.give.ensures.ok c.give.ensures.kept c.give.ensures.same fits, c.self.invariant.2, c.self.invariant.3)

pub returns-clause-event : goal.returns-clause-event
returns-clause-event g c =
    let K = g.J.Job.kind in
    let s = c.self.inside in
    let d = deal c.args.done.number c.args.done.slot c.args.done.task c.args.done.before in
    let later : Register g.row.J.Denot =
    register K (told K g.B.Named.start [] s.history.items) s.state (Some c.give.new.self) s.taken s.marked s.clock s.passes s.opener s.failure s.shut in
    subst (λ (w : Register g.row.J.Denot). OnOk c.give.result (ComesBack K d w later)) c.self.view_is
    (came K (told K g.B.Named.start [] s.history.items) s.state s.slot s.taken s.marked s.clock s.passes s.opener s.failure s.shut c.give.result c.in-Some.slot c.give.new.self d
    c.in-Some.is c.give.ensures.ok c.give.ensures.same)

pub returns-clause-err : goal.returns-clause-err
returns-clause-err g c =
    let K = g.J.Job.kind in
    let d = deal c.args.done.number c.args.done.slot c.args.done.task c.args.done.before in
    subst (λ (w : Register g.row.J.Denot). IfErr c.give.result (λ fault. IsRepelled w.session.opened d fault)) c.self.view_is
    (repelled_any K c.in-Some.slot c.self.inside.slot c.give.result d c.in-Some.is c.give.ensures.err)
