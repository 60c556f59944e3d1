use Rattle.std.proofs.Common.{◌≡◌, sym, ap, ◌∙◌}
use Rattle.pfx_book.specs.Merging.{of}
use Rattle.pfx_book.specs.Notes.{answers_of}
use Rattle.pfx_book.specs.Register.{Register}
use Rattle.pfx_book.proofs.Gathering.{sole_session}
use Rattle.pfx_book.proofs.book.Book.is_sole.Goals as goal

pub returns-clause-sole : goal.returns-clause-sole
returns-clause-sole g c = λ yes.
    let h = c.self.invariant.0 in
    let seen = ap (λ (v : Register g.row.J.Denot). v.history) c.self.view_is in
    let its : answers_of c.args.pass.now.1 ≡ of 1 c.args.self.now.history = c.look.ensures.its yes in
    sole_session c.args.pass.now.1 c.self.inside.passes c.args.self.now.history h.all c.if-self-ne1.false (sym seen ∙ h.entries) h.is_told.tagged its
