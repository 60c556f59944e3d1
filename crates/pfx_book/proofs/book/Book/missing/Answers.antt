use Rattle.std.specs.Prelude.{MatchOption, option_map}
use Rattle.std.proofs.Common.{Option, sym, ap, ◌∙◌, subst}
use Rattle.pfx_jobs.specs.declared.quantum.Quantum.{Quantum}
use Rattle.pfx_machine.specs.Slots.{deal}
use Rattle.pfx_events_world.specs.Session.{Opened}
use Rattle.pfx_book.specs.Register.{Register, shown}
use Rattle.pfx_book.specs.Calls.{NoneMissing, IsFirstMissing}
use Rattle.pfx_book.proofs.Dealing.{missing_any}
use Rattle.pfx_book.proofs.book.Book.missing.Goals as goal

pub returns-in-Some : goal.returns-in-Some
returns-in-Some g c =
    let K = g.J.Job.kind in
    let opened = sym (ap (λ (w : Register g.row.J.Denot). w.session.opened) c.self.view_is) ∙ ap (option_map (shown K)) c.in-Some.is in
    subst (λ (o : Option (Opened g.row.J.Denot)). MatchOption c.missing.result (NoneMissing o) (λ q. IsFirstMissing o (deal q.number q.slot q.task q.before))) (sym opened)
    (missing_any K (λ (q : Quantum g.row.J.Denot g.J.Job). deal q.number q.slot q.task q.before) c.in-Some.slot c.missing.result c.missing.ensures)
