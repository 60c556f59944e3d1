use Rattle.std.proofs.Common.{◌<◌, refl, ap, ◌∙◌, subst}
use Rattle.pfx_machine.specs.declared.command.Command.TheVariants.{Slot}
use Rattle.pfx_book.specs.Calls.{noted}
use Rattle.pfx_book.specs.Notes.{greatest}
use Rattle.pfx_book.specs.declared.note.Note.TheVariants.{Accepted}
use Rattle.pfx_front.proofs.calls.end_slot.Goals as goal

pub loop-init : goal.loop-init
loop-init g c = c.in_default.ensures.none

pub loop-preserved : goal.loop-preserved
loop-preserved g c = c.in_default-seal_in.ensures.none ∙ c.loop.invariant
