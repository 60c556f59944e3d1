use Rattle.std.proofs.Common.{◌∙◌, sym}
use Rattle.std.proofs.lemmas.Bool.{lt-ltb, ltb-true}
use Rattle.pfx_store_file.proofs.Keeping.{has_frames, frames_behind}
use Rattle.pfx_store_file.proofs.file.StoreFile.can_turn.Goals as goal

pub returns-then-not-in_progress-clause-parts : goal.returns-then-not-in_progress-clause-parts
returns-then-not-in_progress-clause-parts g c K laws h p s spelling holds =
    let old = c.args.self.now in
    let view = g.D.Disk.view in (
      λ behind. (sym holds.turned ∙ (sym c.in_progress.ensures ∙ c.if-not-in_progress.true), has_frames K laws h old.places p s spelling (view old.disk) holds (ltb-true _ _ behind)),
      λ lawful. lt-ltb _ _ (frames_behind K laws h old.places p s spelling (view old.disk) holds lawful.1),
    )
