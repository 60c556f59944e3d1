use Rattle.std.proofs.Common.{◌≡◌, ◌++◌, ◌∷◌, ap, sym, ◌∙◌, subst, map, option_map, None}
use Rattle.std.proofs.lemmas.List.{map-append}
use Rattle.pfx_machine.specs.Slots.{deal}
use Rattle.pfx_book_slot.specs.Dealt.{AllBack}
use Rattle.pfx_book_slot.proofs.Placed.{none_there}
use Rattle.pfx_book_slot.proofs.slot.collect.Goals as goal

pub returns-in-None-place : goal.returns-in-None-place
returns-in-None-place g c =
    none_there (λ d. deal d.number d.slot d.task d.before) c.args.back.items c.loop-place.yielded c.next.new.self.rest.items
    (c.loop-place.invariant.3 ∙ ap (λ l. c.loop-place.yielded ++ l) (c.in-Some.ensures.steps.0 ∙ ap (λ p. p ∷ c.next.new.self.rest.items) c.in-None-place.is)) c.requires.all
