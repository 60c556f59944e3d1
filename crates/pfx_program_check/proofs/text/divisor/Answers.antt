use Rattle.std.proofs.Common.{◌≡◌, ℕ, ap, subst, ◌∙◌}
use Rattle.std.specs.Int.{IsGcd}
use Rattle.pfx_weights.specs.Sets.{demand}
use Rattle.pfx_program_check.proofs.text.divisor.Goals as goal

pub returns-clause-is : goal.returns-clause-is
returns-clause-is c =
    let above : c.demand.result ≡ demand c.args.set.now.hyper c.args.tasks.now = c.demand.ensures ∙ ap (λ (h : ℕ). demand h c.args.tasks.now) c.hyper-2.ensures in
    let below : c.from.result ≡ c.args.set.now.hyper = c.from.ensures ∙ c.hyper.ensures in
    subst (λ (n : ℕ). IsGcd c.args.set.now.hyper n c.greatest_common_divisor.result) above
    (subst (λ (n : ℕ). IsGcd n c.demand.result c.greatest_common_divisor.result) below c.greatest_common_divisor.ensures.greatest)
