use Rattle.std.proofs.Common.{◌≡◌, ◌+◌, List, sym, ◌∙◌, ap, map}
use Rattle.pfx_machine.specs.Plain.{whole}
use Rattle.pfx_machine.specs.Happenings.{row_or_none}
use Rattle.pfx_machine.specs.Slots.{Deal}
use Rattle.pfx_record.specs.Records.{ran}
use Rattle.pfx_record_redo.specs.Recording.{place_of}
use Rattle.pfx_record_redo.proofs.Merging.{row_places}
use Rattle.pfx_book_slot.specs.Dealt.{places_with}
use Rattle.pfx_book_slot.proofs.sealing.seal_on.Goals as goal

pub returns-clause-entry : goal.returns-clause-entry
returns-clause-entry g c =
    let K = g.J.Job.kind in
    let s = c.args.state.now in
    let row = c.args.slot.row in
    ap ran (c.in_ok-row.ensures.2
    ∙ (ap (λ (ds : List (Deal g.row.J.Denot)). places_with K row ds) c.requires.stands.quanta
    ∙ (row_places K (s.number + 1) (whole s) row s.jobs
    ∙ ap (map (place_of K s.jobs)) (sym (ap row_or_none c.requires.stands.row)))))
