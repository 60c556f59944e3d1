use Rattle.std.proofs.Common.{◌≡◌, ◌∙◌, ◌∷◌, ◌++◌, [], map, Some, ap, sym, subst}
use Rattle.pfx_replay_totals.specs.Adding.{IsCurrent, IsLast, IsOf}
use Rattle.pfx_replay_totals.specs.Figures.{figures}
use Rattle.pfx_replay_totals.specs.Slots.{slot_of}
use Rattle.pfx_replay_totals.proofs.Taking.{no_more, took_first, took_more, took_next}
use Rattle.pfx_replay_totals.proofs.totals.Totals.add.Goals as goal

pub returns-in_default-clause-ok : goal.returns-in_default-clause-ok
returns-in_default-clause-ok c given seen h =
    let self = c.args.self.now in
    let t = slot_of c.args.slot.now in
    let kept = c.in_ok-begin.field-0 in
    subst (λ fs. IsLast self.choice fs (seen ++ t ∷ []) kept) (sym (no_more given (map figures c.new-in_default.result.items) (ap (map figures) c.new-in_default.ensures.items)))
    (took_first self.choice given seen t self.current kept c.if-not-asks.ensures c.in_default.is h c.in_ok-begin.ensures)

pub returns-then-joins-clause-ok : goal.returns-then-joins-clause-ok
returns-then-joins-clause-ok c given seen h =
    let self = c.args.self.now in
    let t = slot_of c.args.slot.now in
    let kept = c.in_ok-with.field-0 in
    subst (λ fs. IsLast self.choice fs (seen ++ t ∷ []) kept) (sym (no_more given (map figures c.new-then-joins.result.items) (ap (map figures) c.new-then-joins.ensures.items)))
    (took_more self.choice given seen t self.current c.in-Some.window kept c.if-not-asks.ensures c.in-Some.is h c.if-joins.ensures.joins c.in_ok-with.ensures)

pub returns-in-Some-replace-clause-ok : goal.returns-in-Some-replace-clause-ok
returns-in-Some-replace-clause-ok c given seen h =
    let self = c.args.self.now in
    let t = slot_of c.args.slot.now in
    let old = c.in-Some-replace.closed in
    let was : self.current ≡ Some old = sym c.in-Some-replace.ensures.value in
    let same : c.in-Some.window ≡ old = cc in
    subst (IsCurrent self.choice (given ++ map figures old.totals.items) (seen ++ t ∷ [])) (sym c.replace.ensures.after)
    (took_next self.choice given seen t self.current old c.in_ok-begun.begun c.if-not-asks.ensures was h (λ w is. c.if-joins.ensures.joins w (subst (IsOf w) (sym same) is)) c.in_ok-begun.ensures)
