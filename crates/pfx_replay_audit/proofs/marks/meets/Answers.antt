use Rattle.std.proofs.Common.{◌<◌, ◌∙◌, get_or, length, sym, subst, refl, below_more, IsTrue, arith, rules}
use Rattle.std.proofs.lemmas.List.{get_or_default}
use Rattle.std.proofs.lemmas.List.Elements.{All-map}
use Rattle.pfx_replay.specs.Stated.{plain_of}
use Rattle.pfx_replay_audit.specs.Marks.{IsMet}
use Rattle.pfx_replay_audit.proofs.Marking.{met_at}
use Rattle.pfx_replay_audit.proofs.marks.meets.Goals as goal

pub returns-then-not-is_met : goal.returns-then-not-is_met
returns-then-not-is_met g c =
    let s = plain_of c.args.state.now in
    let marks = c.args.marks.now in
    let i = c.loop-mark.mark-index in
    let d = c.mark-item.result in
    let within : i < length marks = search rules in
    let no : IsTrue c.is_met.result → ⊥ = λ yes. search rules in
    (λ f. cc, λ h. absurd (no (c.is_met.ensures.1 (subst (λ m. IsMet s (plain_of m)) (sym c.mark-item.is) (met_at s marks i d within h)))))

pub loop-mark-preserved : goal.loop-mark-preserved
loop-mark-preserved g c k d =
    let s = plain_of c.args.state.now in
    let marks = c.args.marks.now in
    let i = c.loop-mark.mark-index in
    let m = c.mark-item.result in
    let within : i < length marks = search rules in
    let yes : IsTrue c.is_met.result = search rules in
    let same = c.mark-item.is ∙ get_or_default marks i m d within in
    below_more (λ k. IsMet s (plain_of (get_or marks k d))) i (λ k less. c.loop-mark.invariant k d less)
    (subst (λ x. IsMet s (plain_of x)) same (c.is_met.ensures.0 yes)) k

pub returns : goal.returns
returns g c =
    let s = plain_of c.args.state.now in
    (λ yes. All-map (IsMet s) plain_of c.args.marks.now (λ k d within. c.loop-mark.invariant k d (omega (arith, within, c.loop-mark-test.false))), λ h. refl)
