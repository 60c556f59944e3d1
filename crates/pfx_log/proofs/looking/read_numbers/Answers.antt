use Rattle.std.proofs.Common.{rules, ◌≡◌, ◌∙◌, List, ℕ, take, drop, ap, sym}
use Rattle.pfx_log.proofs.Looks.{looks_of}
use Rattle.pfx_log.proofs.looking.read_numbers.Goals as goal

pub returns : goal.returns
returns g c = record {
  looks = looks_of _ _ c.read.result c.read.ensures.time c.read.ensures.honest c.read.ensures.leaves;
  device = search rules;
  exact = λ bytes kept.
      let is : c.read.new.out ≡ take 24 (drop c.args.at bytes) = c.in_ok-read.ensures.bytes kept.honest ∙ ap (λ (l : List ℕ). take 24 (drop c.args.at l)) kept.contents in
      sym is ∙ c.numbers_in.ensures;
}
