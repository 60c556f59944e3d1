use Rattle.std.proofs.Common.{sym, ap, ◌∙◌, subst}
use Rattle.pfx_front_board.specs.Publisher.{Published}
use Rattle.pfx_front_board.specs.Word.{records_of}
use Rattle.pfx_book.specs.Notes.{Noted, records_in}
use Rattle.pfx_front.proofs.Steps.{begins_in_step}
use Rattle.pfx_front.proofs.start.hand_over.Goals as goal

pub invariant_of-owned : goal.invariant_of-owned
invariant_of-owned g c = (
  begins_in_step g.J.Job.kind g.B.Named.start g.B.Charted.failures g.B.Charted.clock c.args.outfit.share (g.S.BatchKeeper.kept c.args.keeper).file.broken
      (g.S.BatchKeeper.kept c.args.keeper).state (g.D.Disk.view (g.S.BatchKeeper.kept c.args.keeper).file.disk) c.requires.fresh c.requires.share,
  ap (λ (p : Published g.row.J.Denot). records_of p.batches) c.requires.publisher ∙ sym (ap records_in c.requires.share),
  c.requires.origin,
  c.requires.room.0,
  c.requires.room.1,
  λ mark is. absurd (subst (Noted mark) c.requires.marking is),
  c.requires.goes_on,
)
