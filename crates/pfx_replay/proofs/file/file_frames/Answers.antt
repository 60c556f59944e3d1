use Rattle.std.proofs.Common.{◌≡◌, ◌++◌, ◌∙◌, ap, sym}
use Rattle.pfx_segment.specs.Reading.{views}
use Rattle.pfx_replay.proofs.file.file_frames.Goals as goal
use Rattle.pfx_replay.proofs.file.file_frames.Goals.{then-turned+in_ok-add_segment+else-not-branch, else-turned}

pub returns : goal.returns
returns g c before frames none first are =
    let old : views c.if-turned.all.items ≡ before = elim c.if-turned.branch [
      | then-turned+in_ok-add_segment+else-not-branch x ↦ ap (λ v. views v.items) x.all-is ∙ (x.in_ok-add_segment.ensures before (first x.if-turned.true)).1 ∙ ap (λ l. views l ++ before) c.new-all.ensures.items
      | else-turned x ↦ ap (λ v. views v.items) x.all-is ∙ ap views c.new-all.ensures.items ∙ sym (none x.if-turned.false)
    ] in
    (c.in_ok-add_segment-2.ensures frames are).1 ∙ ap (λ l. l ++ frames) old
