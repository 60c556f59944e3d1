use Rattle.std.proofs.Common.{ap, ◌∙◌, ◌∷◌, []}
use Rattle.pfx_book.specs.declared.note.Note.TheVariants.{Marked}
use Rattle.pfx_store.specs.Stores.{PlainStore}
use Rattle.pfx_front.proofs.start.manned.Goals as goal

pub hand_over-shared-requires-clause-share : goal.hand_over-shared-requires-clause-share
hand_over-shared-requires-clause-share g c =
    c.in-Ok.ensures.share
    ∙ ap (λ (s : PlainStore g.row.D.Denot g.row.J.Denot). Marked g.B.Named.start.number (g.D.Disk.view s.file.disk).clock ∷ []) c.stored-2.ensures
