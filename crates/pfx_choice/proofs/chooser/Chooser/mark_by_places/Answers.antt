use Rattle.std.proofs.Common.{◌∙◌, ap, length}
use Rattle.pfx_choice.proofs.Placing.{ready_behind, marks_of_placed}
use Rattle.pfx_choice.proofs.chooser.Chooser.mark_by_places.Goals as goal

pub place_best_of_many-requires : goal.place_best_of_many-requires
place_best_of_many-requires c =
    let s = c.sort_by_places.new.self in
    let r = ready_behind c.args.ledger.now c.in-Some.places s.classes.items c.deref_mut.result.now s.ranks.items c.deref_mut-in-Some.result.now c.deref_mut.ensures.value c.deref_mut-in-Some.ensures.value c.in-Some.ensures in
    record { within = r.within; ids = r.ids }

pub returns-in-Some : goal.returns-in-Some
returns-in-Some c =
    let s = c.sort_by_places.new.self in
    let r = ready_behind c.args.ledger.now c.in-Some.places s.classes.items c.deref_mut.result.now s.ranks.items c.deref_mut-in-Some.result.now c.deref_mut.ensures.value c.deref_mut-in-Some.ensures.value c.in-Some.ensures in
    λ _. marks_of_placed c.args.ledger.now c.in-Some.places s.classes.len c.deref_mut.result.now c.place_best_of_many.new.classes s.classes.items c.deref_mut-in-Some.result.now r c.place_best_of_many.ensures
    (c.place_best_of_many.auto.classes ∙ ap length c.deref_mut.ensures.value) s.classes.ok.0
