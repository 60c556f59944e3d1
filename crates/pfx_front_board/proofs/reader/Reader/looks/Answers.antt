use Rattle.std.proofs.Common.{sym, ◌∙◌, subst}
use Rattle.std.proofs.lemmas.Bool.{false≢true}
use Rattle.std.specs.Bool.{IsTrue}
use mathlib.Core.List.{IsPrefix}
use Rattle.pfx_front_board.proofs.Words.{begins_if, prefix_both}
use Rattle.pfx_front_board.proofs.reader.Reader.looks.Goals.{then-sees, else-sees}
use Rattle.pfx_front_board.proofs.reader.Reader.looks.Goals as goal

pub returns-clause-looked : goal.returns-clause-looked
returns-clause-looked g c h =
    let last = c.args.last.now in
    let mine = c.self.inside.word in
    let told = subst (λ xs. IsPrefix last xs) (sym (c.self.view_is ∙ c.sees.ensures)) c.hear.ensures.told in
    elim c.if-sees.branch [
      | then-sees w ↦ sym c.self.view_is ∙ prefix_both mine last (begins_if mine last w.begins.result w.begins.ensures.begins (subst IsTrue w.result-is h)) told
      | else-sees w ↦ absurd (false≢true (sym w.if-sees.false ∙ subst IsTrue w.result-is h))
    ]
